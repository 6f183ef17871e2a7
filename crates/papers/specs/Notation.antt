-- The notation of the papers: a run of bits by the numbers that the paper prints beside it, its name, its LSB and its
-- unit.
use Rattle.std.specs.Prelude.{List, [], ◌∷◌, ℕ, ◌-◌, ℤ, pos, neg_ℤ}
use Prim.Native.String.{String}
use Rattle.codec.specs.Line.{plain, signed, limited}
use Rattle.codec.specs.Printed.{Measure, code, steps, Run, spares, number, Structure}

infixl 75 ◌LSB◌over◌of◌
infixl 70 ◌minus◌
-- "bits-30/17 (PIN)" as it stands; "bit-14 (NAV)"; two's complement; two's complement from least to most; "bits-32/31
-- (spare)" is spares 32 31
abbrev pub bits : ℕ → ℕ → String → Run
bits hi lo name = number plain hi lo (record { name = name; counts = code })

abbrev pub bit : ℕ → String → Run
bit b name = bits b b name

abbrev pub signed_bits : ℕ → ℕ → String → Run
signed_bits hi lo name = number signed hi lo (record { name = name; counts = code })

abbrev pub limited_bits : ℕ → ℕ → String → ℤ → ℤ → Run
limited_bits hi lo name least most = number (limited least most) hi lo (record { name = name; counts = code })

abbrev pub neg : ℕ → ℤ
neg n = neg_ℤ (pos n)

abbrev pub spare_bit : ℕ → Run
spare_bit b = spares b b

-- "LSB = 1/256 NM": bits 16 1 "RW" LSB 1 over 256 of "NM"
abbrev counting : Measure → Run → Run
counting m (spares hi lo) = spares hi lo
counting m (number k hi lo q) = number k hi lo (record { name = q.name; counts = m })

abbrev pub ◌LSB◌over◌of◌ : Run → ℕ → ℕ → String → Run
◌LSB◌over◌of◌ r times parts unit = counting (steps 0 times parts unit) r

-- "BPS is the barometric pressure setting of the aircraft minus 800 hPa": bits 12 1 "BPS" LSB 1 over 10 of "hPa"
-- minus 800
abbrev later : ℕ → Measure → Measure
later n code = code
later n (steps start times parts unit) = steps n times parts unit

abbrev pub ◌minus◌ : Run → ℕ → Run
◌minus◌ (spares hi lo) n = spares hi lo
◌minus◌ (number k hi lo q) n = number k hi lo (record { name = q.name; counts = later n q.counts })

-- a part of a primary subfield, of k octets; bit 1 is FX
abbrev pub part : ℕ → List Run → Structure
part k rs = record { name = ""; octets = k; runs = rs }

-- a subfield, or an item of fixed length
abbrev pub sub : String → ℕ → List Run → Structure
sub s k rs = record { name = s; octets = k; runs = rs }

-- a part that is printed with the n bits of the parts behind it below its own
abbrev pub above : ℕ → List Run → List Run
above n [] = []
above n (spares hi lo ∷ rs) = spares (hi - n) (lo - n) ∷ above n rs
above n (number k hi lo q ∷ rs) = number k (hi - n) (lo - n) q ∷ above n rs
