-- The slots that readings fill.
use Rattle.std.specs.Prelude.{◌≡◌, List, ℕ, ◌≤◌, ℤ, pos, length, get_or}
use Rattle.papers.specs.Papers.{SLOTS}

-- the array has its length, and zeros from slot on
pub record Ready (l : List ℤ) (slot : ℕ) : Type 0 where
  pub len : length l ≡ SLOTS
  pub zeros : (j : ℕ) → slot ≤ j → get_or l j (pos 0) ≡ pos 0
