-- Octets laid into an array by place: what the code of each level promises, and how one goes behind another.
use Rattle.std.specs.Prelude.{List, ℕ, ◌+◌, ◌≤◌, T, length}
use Rattle.codec.specs.Codec.{Codec}
use Rattle.codec.proofs.Laws.Sets.{Put}
use Rattle.papers.specs.Papers.{LONGEST}

-- what laying a value promises: where the codec can write it and there is room, its octets are put
pub record Lays {A : Type 0} (c : Codec A) (v : A) (l : List ℕ) (at : ℕ) (m : List ℕ) (next : ℕ) : Type 0 where
  pub laid : T (c.okay v) → at + length (c.write v) ≤ LONGEST → Put (c.write v) l at m next
