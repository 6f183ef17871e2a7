-- The number that a word writes. A number is a plain decimal, as `decimal` and `signed_decimal` (01, 'The sheet') write it: digits only, no 0 in front but of 0 itself,
-- and a `-` only before a number below 0. So a number is written by one word, and a word writes at most one number.
use Rattle.std.specs.Prelude.{Bool, true, not, ◌&&◌, Option, List, ℕ, ◌+◌, ◌-◌, ltb, leb, eqb, ℤ, pos, negsuc, length, get_or, drop}
use Rattle.std.specs.Bool.{then_some}
use Rattle.std.specs.Int.Signed.{lt_z}
use Rattle.codec.specs.Pick.{pick}
use Rattle.text.specs.Decimals.{value_from, value_of}
use Rattle.text.specs.Laws.Decimals.{are_digits}

-- a word that begins with 0 is 0 alone; one with no octet is none
unfoldable pub leads : List ℕ → Bool
leads w = pick (eqb (get_or w 0 48) 48) (eqb (length w) 1) true

-- digits that go on a number, with all of it at most a limit
unfoldable pub goes_on : ℕ → ℕ → List ℕ → Bool
goes_on limit v w = are_digits w && leb (value_from v w) limit

unfoldable pub is_number : ℕ → List ℕ → Bool
unfolding leads goes_on
is_number limit w = leads w && goes_on limit 0 w

-- the number of a word, or one more than the limit where it writes none
unfoldable pub number_in : ℕ → List ℕ → ℕ
unfolding is_number
number_in limit w = pick (is_number limit w) (value_of w) (limit + 1)

-- the number as code gives it: None is one more than the limit
abbrev pub at_most : ℕ → ℕ → Option ℕ
at_most limit n = then_some (leb n limit) n

-- ---- numbers of 32 bits, with a sign; 45 is the `-`

unfoldable pub is_signed : List ℕ → Bool
unfolding is_number
is_signed w = pick (eqb (get_or w 0 0) 45) (is_number 2_147_483_648 (drop 1 w) && leb 1 (value_of (drop 1 w))) (is_number 2_147_483_647 w)

unfoldable pub signed_value : List ℕ → ℤ
signed_value w = pick (eqb (get_or w 0 0) 45) (negsuc (value_of (drop 1 w) - 1)) (pos (value_of w))

-- or one more than the highest
unfoldable pub signed_in : List ℕ → ℤ
unfolding is_signed signed_value
signed_in w = pick (is_signed w) (signed_value w) (pos 2_147_483_648)

-- the number as code gives it: None is one more than the highest
abbrev pub within_32 : ℤ → Option ℤ
within_32 z = then_some (not (lt_z (pos 2_147_483_647) z)) z

-- the number below 0 of a magnitude, as the code makes it
unfoldable pub below : ℕ → ℤ
below m = pick (eqb m 0) (pos 2_147_483_648) (pick (ltb 2_147_483_648 m) (pos 2_147_483_648) (negsuc (m - 1)))

-- ---- the value of a word where a number is wanted, 0 where it writes none

unfoldable pub value_in : ℕ → List ℕ → ℕ
unfolding is_number
value_in limit w = pick (is_number limit w) (value_of w) 0

unfoldable pub whole_in : List ℕ → ℤ
unfolding is_signed signed_value
whole_in w = pick (is_signed w) (signed_value w) (pos 0)
