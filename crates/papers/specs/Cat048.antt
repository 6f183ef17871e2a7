-- Category 048: EUROCONTROL-SPEC-0149-4A, Appendix A, edition 1.9 (document 000). Each list stands as its section
-- prints it, by the printed numbers of the bits.
use Rattle.std.specs.Prelude.{List, [], ◌∷◌, ◌^◌, pos}
use Rattle.codec.specs.Item.{Item}
use Rattle.codec.specs.Printed.{spares, Structure, Entry, compound, fixed}
use Rattle.codec.specs.Made.{made}
use Rattle.papers.specs.Notation.{bit, bits, signed_bits, limited_bits, neg, spare_bit, ◌LSB◌over◌of◌, part, sub, above}

-- ---- 2.3 MD5 – Mode 5 Reports

-- Subfield #1: Mode 5 Summary
abbrev SUM : Structure
SUM =
    sub "SUM" 1
    (bit 8 "M5" ∷ bit 7 "ID" ∷ bit 6 "DA" ∷ bit 5 "M1" ∷ bit 4 "M2" ∷ bit 3 "M3" ∷ bit 2 "MC" ∷ spare_bit 1 ∷ [])

-- Subfield #2: Mode 5 PIN / National Origin / Mission Code
abbrev mission : Structure
mission =
    sub "PMN" 4
    (spares 32 31 ∷ bits 30 17 "PIN" ∷ spares 16 15 ∷ bit 14 "NAV" ∷ bits 13 9 "NAT" ∷ spares 8 7 ∷ bits 6 1 "MIS" ∷ [])

-- Subfield #3: Mode 5 Reported Position. Range -90° ≤ latitude ≤ 90°
abbrev POS : Structure
POS =
    sub "POS" 6
    (limited_bits 48 25 "LAT" (neg 4_194_304) (pos 4_194_304) LSB 180 over 2 ^ 23 of "degrees"
    ∷ signed_bits 24 1 "LON" LSB 180 over 2 ^ 23 of "degrees"
    ∷ [])

-- Subfield #4: Mode 5 GNSS-derived Altitude. "LSB of 25 ft irrespective of the setting of bit 15"; from -1000 ft, and
-- 14 bits end at 8,191
abbrev GA : Structure
GA = sub "GA" 2 (spare_bit 16 ∷ bit 15 "RES" ∷ limited_bits 14 1 "GA" (neg 40) (pos 8_191) LSB 25 over 1 of "ft" ∷ [])

-- Subfield #5: Extended Mode 1 Code in Octal Representation
abbrev EM1 : Structure
EM1 = sub "EM1" 2 (bit 16 "V" ∷ bit 15 "G" ∷ bit 14 "L" ∷ spare_bit 13 ∷ bits 12 1 "EM1" ∷ [])

-- Subfield #6: Time Offset for POS and GA
abbrev TOS : Structure
TOS = sub "TOS" 1 (signed_bits 8 1 "TOS" LSB 1 over 128 of "s" ∷ [])

-- Subfield #7: X Pulse Presence
abbrev XP : Structure
XP = sub "XP" 1 (spares 8 7 ∷ bit 6 "XP" ∷ bit 5 "X5" ∷ bit 4 "XC" ∷ bit 3 "X3" ∷ bit 2 "X2" ∷ bit 1 "X1" ∷ [])

abbrev pub MD5 : Entry
MD5 =
    compound "MD5"
    (part 1 (bit 8 "SUM" ∷ bit 7 "PMN" ∷ bit 6 "POS" ∷ bit 5 "GA" ∷ bit 4 "EM1" ∷ bit 3 "TOS" ∷ bit 2 "XP" ∷ []))
    []
    (SUM ∷ mission ∷ POS ∷ GA ∷ EM1 ∷ TOS ∷ XP ∷ [])

-- ---- 2.4 M5N – Mode 5 Reports, New Format. Subfields #1 and #3 to #7 are printed as in 2.3; the first octet of the
-- primary subfield is printed as bits 16/9

-- Subfield #2: Mode 5 PIN / National Origin. The note's "Bit 14 (NOV)" is a misprint for bit 12
abbrev origin : Structure
origin = sub "PMN" 4 (spares 32 31 ∷ bits 30 17 "PIN" ∷ spares 16 13 ∷ bit 12 "NOV" ∷ bits 11 1 "NO" ∷ [])

-- Subfield #8: Figure of Merit
abbrev FOM : Structure
FOM = sub "FOM" 1 (spares 8 6 ∷ bits 5 1 "FOM" ∷ [])

abbrev pub M5N : Entry
M5N =
    compound "M5N"
    (part 1
    (above 8
    (bit 16 "SUM" ∷ bit 15 "PMN" ∷ bit 14 "POS" ∷ bit 13 "GA" ∷ bit 12 "EM1" ∷ bit 11 "TOS" ∷ bit 10 "XP" ∷ [])))
    (part 1 (bit 8 "FOM" ∷ spares 7 2 ∷ []) ∷ [])
    (SUM ∷ origin ∷ POS ∷ GA ∷ EM1 ∷ TOS ∷ XP ∷ FOM ∷ [])

-- ---- 2.5 M4E – Extended Mode 4 Report

abbrev pub M4E : Entry
M4E = compound "M4E" (part 1 (spares 8 4 ∷ bits 3 2 "FOE/FRI" ∷ [])) [] []

-- ---- 2.6 Radar Plot Characteristics

abbrev pub RPC : Entry
RPC =
    compound "RPC"
    (part 1 (bit 8 "SCO" ∷ bit 7 "SCR" ∷ bit 6 "RW" ∷ bit 5 "AR" ∷ spares 4 2 ∷ []))
    []
    (sub "SCO" 1 (bits 8 1 "SCO" ∷ [])
    ∷ sub "SCR" 2 (bits 16 1 "SCR" LSB 1 over 10 of "dB" ∷ [])
    ∷ sub "RW" 2 (bits 16 1 "RW" LSB 1 over 256 of "NM" ∷ [])
    ∷ sub "AR" 2 (bits 16 1 "AR" LSB 1 over 256 of "NM" ∷ [])
    ∷ [])

-- ---- 2.7 Extended Range Report

abbrev pub ERR : Entry
ERR = fixed (sub "ERR" 3 (bits 24 1 "RHO" LSB 1 over 256 of "NM" ∷ []))

-- ---- 2.2 Items indicator

abbrev pub indicator048 : Structure
indicator048 =
    sub "Items indicator" 1
    (bit 8 "MD5" ∷ bit 7 "M5N" ∷ bit 6 "M4E" ∷ bit 5 "RPC" ∷ bit 4 "ERR" ∷ spares 3 1 ∷ [])

-- the items in the order of its bits, bit 8 first
unfoldable pub printed048 : List Entry
printed048 = MD5 ∷ M5N ∷ M4E ∷ RPC ∷ ERR ∷ []

unfoldable pub cat048 : List Item
unfolding printed048
cat048 = made printed048
