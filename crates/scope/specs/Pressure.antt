-- The barometric pressure setting (document 003, 2.3). 02, Ask 1: "The definition of the pressure becomes the set of settings that the number can stand for".
-- A setting is told in tenths of hPa: the LSB is "0.1 hPa", and the number is the setting "minus 800 hPa".
use Rattle.std.specs.Prelude.{Bool, false, List, ℕ, eqb, ℤ, pos, negsuc, ◌+ℤ◌}
use Rattle.std.specs.Int.Signed.{le_z}
use Rattle.codec.specs.Pick.{pick}
use Rattle.papers.specs.Names.{text}

-- whether two numbers are the same
unfoldable pub eq_int : ℤ → ℤ → Bool
eq_int (pos a) (pos b) = eqb a b
eq_int (pos a) (negsuc b) = false
eq_int (negsuc a) (pos b) = false
eq_int (negsuc a) (negsuc b) = eqb a b

-- `BPS.tenths`, "8,000 plus the number, in tenths of hPa" (01, 'The sheet')
abbrev pub tenths_of : ℤ → ℤ
tenths_of n = pos 8_000 +ℤ n

-- whether the number n can stand for a setting of t tenths: for 0 "a value of 800 hPa or less", for 4,095 "a value of 1209.5 hPa or more", between them for
-- the one value
unfoldable pub stands : ℤ → ℤ → Bool
unfolding eq_int
stands n t = pick (eq_int n (pos 0)) (le_z t (pos 8_000)) (pick (eq_int n (pos 4_095)) (le_z (pos 12_095) t) (eq_int t (tenths_of n)))

-- `BPS.sense`, "which is `atmost` for 0, `atleast` for 4,095 and `equal` between" (02)
unfoldable pub sense_of : ℤ → List ℕ
unfolding eq_int
sense_of n = pick (eq_int n (pos 0)) (text "atmost") (pick (eq_int n (pos 4_095)) (text "atleast") (text "equal"))
