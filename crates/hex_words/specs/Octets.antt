-- The octets that a word writes: pairs of hex digits in either case, at most 4,096 pairs, or `-` for none.
use Rattle.std.specs.Prelude.{Bool, true, ◌&&◌, Option, List, [], ◌∷◌, ℕ, ◌+◌, ◌-◌, ◌*◌, ◌%◌, ltb, leb, eqb, length, get_or}
use Rattle.std.specs.Bool.{then_some}
use Rattle.codec.specs.Pick.{pick}

abbrev pub between : ℕ → ℕ → ℕ → Bool
between low high o = leb low o && leb o high

-- the value of a hex digit: `0` to `9`, `A` to `F`, `a` to `f`; 16 for any other octet
unfoldable pub hex_digit : ℕ → ℕ
hex_digit o = pick (between 48 57 o) (o - 48) (pick (between 65 70 o) (o - 65 + 10) (pick (between 97 102 o) (o - 97 + 10) 16))

-- the digit as code gives it: None is 16
abbrev pub digit_in : ℕ → Option ℕ
digit_in n = then_some (ltb n 16) n

unfoldable pub are_hex : List ℕ → Bool
are_hex [] = true
are_hex (o ∷ w) = ltb (hex_digit o) 16 && are_hex w

-- 45 is the `-`
unfoldable pub is_octets : List ℕ → Bool
unfolding are_hex
is_octets w =
    pick (eqb (length w) 1) (eqb (get_or w 0 0) 45)
    (leb 1 (length w) && (leb (length w) 8_192 && (eqb (length w % 2) 0 && are_hex w)))

-- the octet of two digits, the high one first
unfoldable pub octet_of : ℕ → ℕ → ℕ
unfolding hex_digit
octet_of a b = hex_digit a % 16 * 16 + hex_digit b % 16

-- the octets of a word; `-` has none
unfoldable pub octets_of : List ℕ → List ℕ
unfolding octet_of
octets_of [] = []
octets_of (a ∷ []) = []
octets_of (a ∷ b ∷ w) = octet_of a b ∷ octets_of w

-- the octets of a word where octets are wanted; none where it writes none
unfoldable pub octets_in : List ℕ → List ℕ
unfolding is_octets octets_of
octets_in w = pick (is_octets w) (octets_of w) []

-- a list is one octet, as two digits; 0 where the word is none
unfoldable pub is_list : List ℕ → Bool
unfolding are_hex
is_list w = eqb (length w) 2 && are_hex w

unfoldable pub list_in : List ℕ → ℕ
unfolding is_list octet_of
list_in w = pick (is_list w) (octet_of (get_or w 0 0) (get_or w 1 0)) 0
