-- A field with the octets of one item exchanged: what stands before it, the new octets, what stands behind.
use Rattle.std.specs.Prelude.{List, ◌∷◌, ◌++◌, ℕ, ◌+◌, ◌-◌, length, take, drop}

-- a field whose octets from `from` on and before `to` are exchanged for t, with the indicator n
unfoldable pub splice_of : ℕ → List ℕ → ℕ → ℕ → List ℕ → List ℕ
splice_of n f from to t = (from + length t + (length f - to)) ∷ n ∷ (take (from - 2) (drop 2 f) ++ (t ++ drop to f))
