-- The marks as the code tells them apart: an octet that has the meaning of each.
use Rattle.std.specs.Prelude.{◌≡◌, List, ℕ}
use Rattle.sheet.specs.declared.numbers.Mark.{Mark}
use Rattle.sheet.specs.declared.numbers.Mark.TheVariants.{Position, Altitude, Offset, Pressure, Hidden, Alone}
use Rattle.sheet.specs.Keys.{meant, slots_in}

abbrev pub octet_of : Mark → ℕ
octet_of Position = 64
octet_of Altitude = 62
octet_of Offset = 60
octet_of Pressure = 63
octet_of Hidden = 58
octet_of Alone = 61

-- two octets that mean the same
pub record Alike (m o : ℕ) : Type 0 where
  pub keys : (w : List ℕ) → meant m w ≡ meant o w
  pub slots : slots_in m ≡ slots_in o
