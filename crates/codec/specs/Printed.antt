-- A paper as it is printed: each structure lists its runs of bits by the numbers that stand beside them in the paper,
-- high bits first, with their names, so that a layout file can be laid beside its paper. What a paper means is in
-- Meaning; the lines of the codecs are made from it in Made.
use Rattle.std.specs.Prelude.{Bool, true, false, ◌&&◌, List, [] as none, ◌∷◌ as ◌then◌, ◌++◌, ℕ, suc, ◌-◌, ◌*◌, ltb, leb, eqb, ℤ}
use Prim.Native.Char.{code as code_of}
use Prim.Native.String.{String, [], ◌∷◌}
use Rattle.codec.specs.Pick.{pick}

-- what the bits of a number stand for: as they are, two's complement, two's complement within limits
pub data Kind : Type 0 where
  plain : Kind
  signed : Kind
  limited : ℤ → ℤ → Kind

-- what a number counts: a flag or a code, nothing; or steps of times/over of a unit ("LSB = 1/256 NM"), from a start
-- on ("minus 800 hPa")
pub data Measure : Type 0 where
  code : Measure
  steps : (start times over : ℕ) → String → Measure

-- what a number is called and what it counts
pub record Quantity : Type 0 where
  pub name : String
  pub counts : Measure

-- "bits-32/31 (spare)", "bits-30/17 (PIN)"
pub data Run : Type 0 where
  spares : ℕ → ℕ → Run
  number : Kind → ℕ → ℕ → Quantity → Run

-- "Structure of ..": a part of a primary subfield, a subfield, or an item of fixed length; its name and how many
-- octets it has. The runs of a part end at bit 2, bit 1 being FX.
pub record Structure : Type 0 where
  pub name : String
  pub octets : ℕ
  pub runs : List Run

-- "Compound data item": its name, the parts of its primary subfield (the first, and those that may follow), and its
-- subfields, each there if the bit of its name in the primary subfield is 1. Or an item of fixed length.
pub data Entry : Type 0 where
  compound : String → Structure → List Structure → List Structure → Entry
  fixed : Structure → Entry

-- ---- names

-- a text as octets
abbrev pub text : String → List ℕ
text [] = none
text (c ∷ s) = code_of c then text s

abbrev pub same_text : List ℕ → List ℕ → Bool
same_text none none = true
same_text none (y then ys) = false
same_text (x then xs) none = false
same_text (x then xs) (y then ys) = eqb x y && same_text xs ys

-- the place of a name among names, the first of them 0
abbrev pub index_of : String → List String → ℕ
index_of s none = 0
index_of s (t then ts) = pick (same_text (text s) (text t)) 0 (suc (index_of s ts))

abbrev pub run_names : List Run → List String
run_names none = none
run_names (spares hi lo then rs) = run_names rs
run_names (number k hi lo q then rs) = q.name then run_names rs

-- the names of the numbers of some structures
abbrev pub number_names : List Structure → List String
number_names none = none
number_names (s then ss) = run_names s.runs ++ number_names ss

abbrev pub subfield_names : List Structure → List String
subfield_names none = none
subfield_names (s then ss) = s.name then subfield_names ss

-- ---- a paper is printed right if the runs of each structure follow each other from its highest bit down to bit 1,
-- or 2 in a part, and if the bits of a primary subfield have the names of the subfields, where there are any

abbrev pub top : Run → ℕ
top (spares hi lo) = hi
top (number k hi lo q) = hi

abbrev pub bottom : Run → ℕ
bottom (spares hi lo) = lo
bottom (number k hi lo q) = lo

unfoldable pub adjacent : ℕ → ℕ → List Run → Bool
adjacent hi below none = eqb hi below
adjacent hi below (r then rs) = eqb (top r) hi && (leb (bottom r) (top r) && (ltb below (bottom r)
    && adjacent (bottom r - 1) below rs))

unfoldable pub right_all : ℕ → List Structure → Bool
right_all below none = true
right_all below (s then ss) = adjacent (8 * s.octets) below s.runs && right_all below ss

abbrev pub same_names : List String → List String → Bool
same_names none none = true
same_names none (y then ys) = false
same_names (x then xs) none = false
same_names (x then xs) (y then ys) = same_text (text x) (text y) && same_names xs ys

unfoldable pub right_flags : List String → List String → Bool
right_flags flags none = true
right_flags flags (s then ss) = same_names flags (s then ss)

unfoldable pub right_entry : Entry → Bool
right_entry (compound name p qs ss) = right_all 1 (p then qs) && (right_all 0 ss
    && right_flags (number_names (p then qs)) (subfield_names ss))
right_entry (fixed s) = right_all 0 (s then none)

unfoldable pub right : List Entry → Bool
right none = true
right (e then es) = right_entry e && right es

-- ---- the items that a paper has, by their names

abbrev pub entry_names : List Entry → List String
entry_names none = none
entry_names (compound name p qs ss then es) = name then entry_names es
entry_names (fixed s then es) = s.name then entry_names es
