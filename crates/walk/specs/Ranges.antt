-- A number of a piece is one of a range, so that code needs its two ends alone.
use Rattle.std.specs.Prelude.{Bool, true, ◌&&◌, List, ℕ, ◌^◌, leb, ℤ, pos}
use Rattle.std.specs.Int.Signed.{le_z}
use Rattle.codec.specs.Pick.{pick}
use Rattle.codec.specs.Signed.{in_signed}
use Rattle.codec.specs.Line.{Kind, plain, signed, limited}
use Rattle.words.specs.Numbers.{whole_in}
use Rattle.guess.specs.Guess.{value_in}

-- the ends are numbers of the piece
unfoldable pub ends_right : Kind → ℕ → Bool
unfolding in_signed
ends_right plain w = true
ends_right signed w = leb 1 w
ends_right (limited lo hi) w = in_signed (2 ^ w) lo && in_signed (2 ^ w) hi

unfoldable pub between : ℤ → ℤ → ℤ → Bool
between lo hi z = le_z lo z && le_z z hi

-- the number that code takes, lo and hi being the two ends
unfoldable pub ranged_in : ℤ → ℤ → List ℕ → ℤ
ranged_in lo hi t = pick (between lo hi (whole_in (value_in t))) (whole_in (value_in t)) (pos 0)
