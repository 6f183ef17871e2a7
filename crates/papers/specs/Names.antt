-- The names of items and numbers on the sheet, made from the papers (01, 'The sheet': "A key is ITEM, ITEM.SUB, or
-- ITEM.SUB.FIELD, with the source's short names as printed .. the last name stands only where a subfield has several
-- numbers, and an item without subfields uses ITEM.FIELD likewise").
use Rattle.std.specs.Prelude.{List, [], ◌∷◌, ◌++◌, Bool, ℕ, eqb, leb, length, replicate}
use Prim.Native.String.{String}
use Rattle.codec.specs.Pick.{pick}
pub use Rattle.codec.specs.Printed.{text}
use Rattle.codec.specs.Printed.{Structure, Entry, compound, fixed, same_text, run_names, number_names}
use Rattle.papers.specs.Cat048.{printed048}
use Rattle.papers.specs.Cat021.{printed021}
use Rattle.papers.specs.Cat007.{printed007}

-- how a number stands on the sheet: not at all, as a presence flag; alone; with its angle and what that leaves behind
-- it; with its pressure behind it
pub data Key : Type 0 where
  hidden : Key
  shown : List ℕ → Key
  angle : List ℕ → Key
  pressure : List ℕ → Key

-- an item's name, and for each of its lines a key for each number
pub record Named : Type 0 where
  pub name : List ℕ
  pub keys : List (List Key)

abbrev same : String → String → Bool
same a b = same_text (text a) (text b)

-- "After each latitude and each longitude comes a line with `.udeg` .. After BPS comes `BPS.tenths`"
abbrev pub key_of : String → List ℕ → Key
key_of name key =
    pick (same name "LAT") (angle key)
    (pick (same name "LON") (angle key)
    (pick (same name "BPS") (pressure key) (shown key)))

-- the numbers of a line: each by its own name under another; the only one by the other name alone
abbrev each : List ℕ → List String → List Key
each above [] = []
each above (n ∷ ns) = key_of n (above ++ (text "." ++ text n)) ∷ each above ns

abbrev only : List ℕ → List String → List Key
only above [] = []
only above (n ∷ ns) = key_of n above ∷ only above ns

abbrev keys_of : ℕ → List ℕ → List String → List Key
keys_of many above ns = pick (leb many 1) (only above ns) (each above ns)

-- an item without subfields; the primary subfield of one with subfields; its subfields
abbrev part_keys : ℕ → List ℕ → List Structure → List (List Key)
part_keys many item [] = []
part_keys many item (p ∷ ps) = keys_of many item (run_names p.runs) ∷ part_keys many item ps

abbrev flag_keys : List Structure → List (List Key)
flag_keys [] = []
flag_keys (p ∷ ps) = replicate (length (run_names p.runs)) hidden ∷ flag_keys ps

abbrev sub_keys : List ℕ → List Structure → List (List Key)
sub_keys item [] = []
sub_keys item (s ∷ ss) =
    keys_of (length (run_names s.runs)) (item ++ (text "." ++ text s.name)) (run_names s.runs) ∷ sub_keys item ss

abbrev named : Entry → Named
named (compound name p qs []) = record {
  name = text name;
  keys = part_keys (length (number_names (p ∷ qs))) (text name) (p ∷ qs);
}
named (compound name p qs (s ∷ ss)) = record {
  name = text name;
  keys = flag_keys (p ∷ qs) ++ sub_keys (text name) (s ∷ ss);
}
named (fixed s) = record {
  name = text s.name;
  keys = part_keys (length (run_names s.runs)) (text s.name) (s ∷ []);
}

abbrev all_named : List Entry → List Named
all_named [] = []
all_named (e ∷ es) = named e ∷ all_named es

-- ---- the names of a category's items, in the order of their bits

unfoldable pub names048 : List Named
unfolding printed048
names048 = all_named printed048

unfoldable pub names021 : List Named
unfolding printed021
names021 = all_named printed021

unfoldable pub names007 : List Named
unfolding printed007
names007 = all_named printed007

unfoldable pub names_of : ℕ → List Named
names_of cat = pick (eqb cat 48) names048 (pick (eqb cat 21) names021 (pick (eqb cat 7) names007 []))
