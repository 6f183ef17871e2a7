-- Category 021: EUROCONTROL-SPEC-0149-12-A, Reserved Expansion Field, edition 1.5 (document 003). Each list stands as
-- its section prints it, by the printed numbers of the bits.
use Rattle.std.specs.Prelude.{List, [], ◌∷◌, ◌^◌}
use Rattle.codec.specs.Item.{Item}
use Rattle.codec.specs.Printed.{spares, Structure, Entry, compound, fixed}
use Rattle.codec.specs.Made.{made}
use Rattle.papers.specs.Notation.{bit, bits, spare_bit, ◌LSB◌over◌of◌, ◌minus◌, part, sub}

-- ---- 2.3 Barometric Pressure Setting

abbrev pub BPS : Entry
BPS = fixed (sub "BPS" 2 (spares 16 13 ∷ bits 12 1 "BPS" LSB 1 over 10 of "hPa" minus 800 ∷ []))

-- ---- 2.4 Selected Heading. "LSB = 0.703125", printed without a unit

abbrev pub SelH : Entry
SelH = fixed (sub "SelH" 2 (spares 16 13 ∷ bit 12 "HRD" ∷ bit 11 "Stat"
    ∷ bits 10 1 "SelH" LSB 703_125 over 1_000_000 of "" ∷ []))

-- ---- 2.5 Navigation Mode

abbrev pub NAV : Entry
NAV = fixed (sub "NAV" 1 (bit 8 "AP" ∷ bit 7 "VN" ∷ bit 6 "AH" ∷ bit 5 "AM" ∷ bit 4 "MFM#EP" ∷ bit 3 "MFM#VAL"
    ∷ spares 2 1 ∷ []))

-- ---- 2.6 GPS Antenna Offset

abbrev pub GAO : Entry
GAO = fixed (sub "GAO" 1 (bits 8 6 "Lateral" LSB 2 over 1 of "m" ∷ bits 5 1 "Longitudinal" LSB 2 over 1 of "m" ∷ []))

-- ---- 2.7 Surface Ground Vector: a primary subfield of two octets, and the first extension

abbrev pub SGV : Entry
SGV =
    compound "SGV"
    (part 2 (bit 16 "STP" ∷ bit 15 "HTS" ∷ bit 14 "HTT" ∷ bit 13 "HRD"
    ∷ bits 12 2 "GSS" LSB 125 over 1_000 of "kt" ∷ []))
    (part 1 (bits 8 2 "HGT" LSB 28_125 over 10_000 of "degrees" ∷ []) ∷ [])
    []

-- ---- 2.8 Aircraft Status: a primary subfield and five extensions

abbrev pub STA : Entry
STA =
    compound "STA"
    (part 1 (bit 8 "ES" ∷ bit 7 "UAT" ∷ bit 6 "RCE#EP" ∷ bits 5 4 "RCE#VAL" ∷ bit 3 "RRL#EP" ∷ bit 2 "RRL#VAL" ∷ []))
    (part 1 (bit 8 "PS3#EP" ∷ bits 7 5 "PS3#VAL" ∷ bit 4 "TPW#EP" ∷ bits 3 2 "TPW#VAL" ∷ [])
    ∷ part 1
    (bit 8 "TSI#EP" ∷ bits 7 6 "TSI#VAL" ∷ bit 5 "MUO#EP" ∷ bit 4 "MUO#VAL" ∷ bit 3 "RWC#EP" ∷ bit 2 "RWC#VAL" ∷ [])
    ∷ part 1 (bit 8 "DAA#EP" ∷ bits 7 6 "DAA#VAL" ∷ bit 5 "DF17CA#EP" ∷ bits 4 2 "DF17CA#VAL" ∷ [])
    ∷ part 1 (bit 8 "SVH#EP" ∷ bits 7 6 "SVH#VAL" ∷ bit 5 "CATC#EP" ∷ bits 4 2 "CATC#VAL" ∷ [])
    ∷ part 1 (bit 8 "TAO#EP" ∷ bits 7 3 "TAO#VAL" ∷ spare_bit 2 ∷ [])
    ∷ [])
    []

-- ---- 2.9 True North Heading

abbrev pub TNH : Entry
TNH = fixed (sub "TNH" 2 (bits 16 1 "True North Heading" LSB 360 over 2 ^ 16 of "degrees" ∷ []))

-- ---- 2.10 Military Extended Squitter

-- Subfield #1: Mode 5 Summary
abbrev SUM : Structure
SUM =
    sub "SUM" 1
    (bit 8 "M5" ∷ bit 7 "ID" ∷ bit 6 "DA" ∷ bit 5 "M1" ∷ bit 4 "M2" ∷ bit 3 "M3" ∷ bit 2 "MC" ∷ bit 1 "PO" ∷ [])

-- Subfield #2: Mode 5 PIN / National Origin
abbrev PNO : Structure
PNO = sub "PNO" 4 (spares 32 31 ∷ bits 30 17 "PIN" ∷ spares 16 12 ∷ bits 11 1 "NO" ∷ [])

-- Subfield #3: Extended Mode 1 Code in Octal Representation
abbrev EM1 : Structure
EM1 = sub "EM1" 2 (bit 16 "V" ∷ spare_bit 15 ∷ bit 14 "L" ∷ spare_bit 13 ∷ bits 12 1 "EM1" ∷ [])

-- Subfield #4: X Pulse Presence
abbrev XP : Structure
XP = sub "XP" 1 (spares 8 7 ∷ bit 6 "XP" ∷ bit 5 "X5" ∷ bit 4 "XC" ∷ bit 3 "X3" ∷ bit 2 "X2" ∷ bit 1 "X1" ∷ [])

-- Subfield #5: Figure of Merit
abbrev FOM : Structure
FOM = sub "FOM" 1 (spares 8 6 ∷ bits 5 1 "FOM" ∷ [])

-- Subfield #6: Mode 2 Code in Octal Representation. No short name is printed for the code itself
abbrev M2 : Structure
M2 = sub "M2" 2 (bit 16 "V" ∷ spare_bit 15 ∷ bit 14 "L" ∷ spare_bit 13 ∷ bits 12 1 "M2" ∷ [])

abbrev pub MES : Entry
MES =
    compound "MES"
    (part 1 (bit 8 "SUM" ∷ bit 7 "PNO" ∷ bit 6 "EM1" ∷ bit 5 "XP" ∷ bit 4 "FOM" ∷ bit 3 "M2" ∷ spare_bit 2 ∷ []))
    []
    (SUM ∷ PNO ∷ EM1 ∷ XP ∷ FOM ∷ M2 ∷ [])

-- ---- 2.2 Items Indicator

abbrev pub indicator021 : Structure
indicator021 =
    sub "Items Indicator" 1
    (bit 8 "BPS" ∷ bit 7 "SelH" ∷ bit 6 "NAV" ∷ bit 5 "GAO" ∷ bit 4 "SGV" ∷ bit 3 "STA" ∷ bit 2 "TNH" ∷ bit 1 "MES" ∷ [])

-- the items in the order of its bits, bit 8 first
unfoldable pub printed021 : List Entry
printed021 = BPS ∷ SelH ∷ NAV ∷ GAO ∷ SGV ∷ STA ∷ TNH ∷ MES ∷ []

unfoldable pub cat021 : List Item
unfolding printed021
cat021 = made printed021
