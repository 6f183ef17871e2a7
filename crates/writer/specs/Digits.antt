-- The digits of a line's pieces, as the code takes them from the slots of the record, and as one number.
use Rattle.std.specs.Prelude.{List, [], ◌∷◌, ℕ, ◌+◌, ◌-◌, ◌^◌, ◌%◌, ℤ, pos, negsuc}
use Rattle.codec.specs.Radix.{join}
use Rattle.codec.specs.Line.{Piece, spare, num, widths}
use Rattle.layout.specs.Record.{number_at}

-- ---- one number

-- the w lowest bits, as two's complement has them
unfoldable pub low_bits : ℕ → ℤ → ℕ
low_bits w (pos n) = n % 2 ^ w
low_bits w (negsuc n) = (2 ^ w - 1) - n % 2 ^ w

-- ---- the digits of the pieces, 0 for a spare

unfoldable pub digits_at : List Piece → List ℤ → ℕ → List ℕ
unfolding low_bits number_at
digits_at [] l slot = []
digits_at (spare w ∷ ps) l slot = 0 ∷ digits_at ps l slot
digits_at (num k w ∷ ps) l slot = low_bits w (number_at l slot) ∷ digits_at ps l (slot + 1)

-- as one number
unfoldable pub gathered : List Piece → List ℤ → ℕ → ℕ
unfolding digits_at
gathered ps l slot = join (widths ps) (digits_at ps l slot)
