-- The numbers of a line's pieces, as the code takes them from the line's octets as one number.
use Rattle.std.specs.Prelude.{Bool, true, ◌&&◌, List, [], ◌∷◌, ℕ, zero, suc, ◌-◌, ◌^◌, ◌/◌, ◌%◌, eqb, ℤ}
use Rattle.std.specs.Int.Signed.{le_z}
use Rattle.codec.specs.Pick.{pick}
use Rattle.codec.specs.Line.{Piece, spare, num, to_num, limit}
use Rattle.lengths.specs.Lines.{kind_of}

-- the pieces whose highest bit is below bit shift of n
unfoldable pub nums_at : List Piece → ℕ → ℕ → List ℤ
nums_at [] n shift = []
nums_at (spare w ∷ ps) n shift = nums_at ps n (shift - w)
nums_at (num k w ∷ ps) n shift = to_num k w (n / 2 ^ (shift - w) % 2 ^ w) ∷ nums_at ps n (shift - w)

abbrev pub inside : ℤ → ℤ → ℤ → Bool
inside lo hi z = le_z lo z && le_z z hi

-- the number of the w bits above bit next, none where they are spare
unfoldable pub num_of : ℕ → ℕ → ℕ → ℕ → List ℤ
num_of kind w n next = pick (eqb kind 0) [] (to_num (kind_of kind) w (n / 2 ^ next % 2 ^ w) ∷ [])

-- the number of a piece is within the limits of its kind; a piece of kind 0 has none
unfoldable pub piece_fits : ℕ → ℕ → ℕ → ℕ → Bool
piece_fits zero w n next = true
piece_fits (suc k) w n next = limit (kind_of (suc k)) (to_num (kind_of (suc k)) w (n / 2 ^ next % 2 ^ w))
