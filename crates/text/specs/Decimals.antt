-- What a number in decimal says: its digits read back to it, they are digits, no 0 stands in front, and how many there are at most.
use Rattle.std.specs.Prelude.{Bool, ◌&&◌, List, [], ◌∷◌, ℕ, ◌+◌, ◌-◌, ◌*◌, ltb}

-- ---- the number that digits say, the last one last

unfoldable pub value_from : ℕ → List ℕ → ℕ
value_from v [] = v
value_from v (o ∷ os) = value_from (v * 10 + (o - 48)) os

unfoldable pub value_of : List ℕ → ℕ
unfolding value_from
value_of os = value_from 0 os

-- ---- digits only: 48 is 0, 57 is 9

unfoldable pub is_digit : ℕ → Bool
is_digit o = ltb 47 o && ltb o 58
