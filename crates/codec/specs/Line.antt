-- A line of a layout: a chain part or a subfield, k octets laid out as pieces, high bits first (01, 'Item layouts').
use Rattle.std.specs.Prelude.{Bool, true, false, ◌&&◌, List, [], ◌∷◌, ℕ, suc, ◌+◌, ◌*◌, ◌^◌, ◌/◌, ◌%◌, ltb, eqb, ℤ, pos, negsuc}
use Rattle.std.specs.Int.Signed.{le_z}
pub use Rattle.codec.specs.Printed.{Kind, plain, signed, limited}
use Rattle.codec.specs.Signed.{to_signed, of_signed, in_signed}
use Rattle.codec.specs.Radix.{total, cut, join, digits, eights}
use Rattle.codec.specs.Codec.{Codec, via, guard, number}

-- a run of bits: spare, or a number of so many bits
pub data Piece : Type 0 where
  spare : ℕ → Piece
  num : Kind → ℕ → Piece

-- fx: how many bits stand below the pieces, 1 in a chain part (its FX) and 0 in a subfield.
-- flag: which number of the chain says that a subfield is there.
pub record Line : Type 0 where
  pub fx : ℕ
  pub flag : ℕ
  pub octets : ℕ
  pub pieces : List Piece

-- ---- one number: from its bits, to its bits, whether it fits them, whether it is within its limits

unfoldable pub to_num : Kind → ℕ → ℕ → ℤ
to_num plain w d = pos d
to_num signed w d = to_signed (2 ^ w) d
to_num (limited lo hi) w d = to_signed (2 ^ w) d

unfoldable pub of_num : Kind → ℕ → ℤ → ℕ
of_num plain w (pos n) = n
of_num plain w (negsuc n) = 0
of_num signed w z = of_signed (2 ^ w) z
of_num (limited lo hi) w z = of_signed (2 ^ w) z

unfoldable pub in_num : Kind → ℕ → ℤ → Bool
in_num plain w (pos n) = ltb n (2 ^ w)
in_num plain w (negsuc n) = false
in_num signed w z = in_signed (2 ^ w) z
in_num (limited lo hi) w z = in_signed (2 ^ w) z

unfoldable pub limit : Kind → ℤ → Bool
limit plain z = true
limit signed z = true
limit (limited lo hi) z = le_z lo z && le_z z hi

-- ---- the pieces of a line and its digits, one for each piece

unfoldable pub widths : List Piece → List ℕ
widths [] = []
widths (spare w ∷ ps) = w ∷ widths ps
widths (num k w ∷ ps) = w ∷ widths ps

-- how many numbers
unfoldable pub count : List Piece → ℕ
count [] = 0
count (spare w ∷ ps) = count ps
count (num k w ∷ ps) = suc (count ps)

-- the spare digits are 0
unfoldable pub clear : List Piece → List ℕ → Bool
clear [] ds = true
clear (spare w ∷ ps) [] = true
clear (spare w ∷ ps) (d ∷ ds) = eqb d 0 && clear ps ds
clear (num k w ∷ ps) [] = true
clear (num k w ∷ ps) (d ∷ ds) = clear ps ds

-- the numbers of the digits
unfoldable pub nums : List Piece → List ℕ → List ℤ
nums [] ds = []
nums (spare w ∷ ps) [] = []
nums (spare w ∷ ps) (d ∷ ds) = nums ps ds
nums (num k w ∷ ps) [] = []
nums (num k w ∷ ps) (d ∷ ds) = to_num k w d ∷ nums ps ds

-- the digits of the numbers, 0 for a spare
unfoldable pub unnums : List Piece → List ℤ → List ℕ
unnums [] zs = []
unnums (spare w ∷ ps) zs = 0 ∷ unnums ps zs
unnums (num k w ∷ ps) [] = []
unnums (num k w ∷ ps) (z ∷ zs) = of_num k w z ∷ unnums ps zs

-- one number for each piece that is not spare, and each fits its bits
unfoldable pub fit_nums : List Piece → List ℤ → Bool
fit_nums [] [] = true
fit_nums [] (z ∷ zs) = false
fit_nums (spare w ∷ ps) zs = fit_nums ps zs
fit_nums (num k w ∷ ps) [] = false
fit_nums (num k w ∷ ps) (z ∷ zs) = in_num k w z && fit_nums ps zs

unfoldable pub in_limits : List Piece → List ℤ → Bool
in_limits [] zs = true
in_limits (spare w ∷ ps) zs = in_limits ps zs
in_limits (num k w ∷ ps) [] = true
in_limits (num k w ∷ ps) (z ∷ zs) = limit k z && in_limits ps zs

-- ---- the codec of a line: tried for 5, 6, 8

-- what a line, a chain, a run of subfields and an item hold: a count (FX of a line, the parts of a chain, else 0), and numbers in layout order
abbrev pub Held : Type 0
Held = ℕ × List ℤ

-- the octets as the bits below the pieces and one digit for each piece
unfoldable pub cells : Line → Codec (ℕ × List ℕ)
cells l =
    via (λ n. (n % 2 ^ l.fx, cut (widths l.pieces) (n / 2 ^ l.fx)))
    (λ p. join (widths l.pieces) p.1 * 2 ^ l.fx + p.0)
    (λ p. ltb p.0 (2 ^ l.fx) && digits (widths l.pieces) p.1)
    (number l.octets)

unfoldable pub line : Line → Codec Held
line l =
    guard 8 (λ v. in_limits l.pieces v.1)
    (via (λ p. (p.0, nums l.pieces p.1)) (λ q. (q.0, unnums l.pieces q.1)) (λ q. fit_nums l.pieces q.1)
    (guard 6 (λ p. clear l.pieces p.1) (cells l)))

-- the pieces and the bits below them fill the octets
unfoldable pub fills : Line → Bool
fills l = eqb (total (eights l.octets)) (total (widths l.pieces) + l.fx)
