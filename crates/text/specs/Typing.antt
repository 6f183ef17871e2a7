-- Words of the sheet put into its buffer by place: what the code of each word promises, and how one goes behind another.
use Rattle.std.specs.Prelude.{◌≡◌, List, [], ◌∷◌, ℕ, ◌+◌, ltb, set}
use Rattle.codec.specs.Pick.{pick}

-- the buffer has 4,096 octets: what a word leaves in it from a place on, and the place behind it. What has no room is left out
unfoldable pub typed_at : List ℕ → ℕ → List ℕ → List ℕ
typed_at l at [] = l
typed_at l at (x ∷ xs) = pick (ltb at 4_096) (typed_at (set l at x) (at + 1) xs) l

unfoldable pub place_after : ℕ → List ℕ → ℕ
place_after at [] = at
place_after at (x ∷ xs) = pick (ltb at 4_096) (place_after (at + 1) xs) at

-- what typing a word promises
pub record Types (xs l : List ℕ) (at : ℕ) (m : List ℕ) (next : ℕ) : Type 0 where
  pub octets : m ≡ typed_at l at xs
  pub place : next ≡ place_after at xs
