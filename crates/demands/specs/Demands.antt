-- The three demands of the mission, each sentence quoted above its statements. They are of a program: of what its
-- operations compute, for every input. Top (promises) says that the code computes one, without a fault, and that it
-- meets them.
-- Octets s: each element is below 256, as in every slice of octets. Terms has the words and where each is defined.
use Rattle.std.specs.Prelude.{◌≡◌, ◌≢◌, ◌∷◌, ◌++◌, ◌+◌, ◌-◌, ◌≤◌, ◌<◌}
use Rattle.demands.specs.Terms.{false, List, [], ℕ, zero, suc, T, ℤ}
use Rattle.demands.specs.Terms.{length, take, drop, set, Octets, len_of, Whole, Change, remove, put, alone}
use Rattle.demands.specs.Terms.{new_octets, new_flag, Entry, IsItem, zeros_in, HasLayout, Contents, known}
use Rattle.demands.specs.Terms.{printed_of}
use Rattle.demands.specs.Terms.{items_of, Record, Reading, Answer, Accepted, Refused, View, Shown, Hidden}
use Rattle.demands.specs.Terms.{Which, Choice}
use Rattle.demands.specs.Terms.{Neither, Base, Correction, no_record, sheet_of, Nearest, record_of, IsField}
use Rattle.demands.specs.Terms.{HasField, Fault}
use Rattle.demands.specs.Terms.{Judged, numbered, bit_of, with_bit, refused_by, handed_out}

-- what the operations compute. An operation with an output is given what stands there before, and gives its answer
-- and what stands there afterwards
pub record Program : Type 0 where
  -- reader::read(cat, s)
  pub read : ℕ → List ℕ → Reading
  -- writer::write(f, out)
  pub write : Record → List ℕ → Answer × List ℕ
  -- desk::remove(cat, s, list, item, out), desk::replace(cat, s, list, item, new, out)
  pub edit : ℕ → List ℕ → ℕ → ℕ → Change → List ℕ → Answer × List ℕ
  -- visitors::copy(cat, s, list, out)
  pub copy : ℕ → List ℕ → ℕ → List ℕ → Answer × List ℕ
  -- views::view_answer(cat, s, item), views::view
  pub view : ℕ → List ℕ → ℕ → View
  pub part : ℕ → List ℕ → ℕ → List ℕ
  -- views::choose_answer(cat, base, correction, item), views::choose
  pub choose : ℕ → List ℕ → List ℕ → ℕ → Choice
  pub chosen : ℕ → List ℕ → List ℕ → ℕ → List ℕ
  -- sheet::sheet(input, out)
  pub sheet : List ℕ → List ℕ → Answer × List ℕ
  -- rebuild::rebuild(text, out): the category beside it
  pub rebuild : List ℕ → List ℕ → ℕ × (Answer × List ℕ)
  -- angle::exact(n)
  pub udeg : ℤ → ℤ
  pub left : ℤ → ℤ

-- the octets of n items behind the first i, one after the other
abbrev pub parts : Program → ℕ → List ℕ → ℕ → ℕ → List ℕ
parts p cat s i zero = []
parts p cat s i (suc n) = p.part cat s (suc i) ++ parts p cat s (suc i) n

-- ---- what an edit is given

-- "either a removal or new octets that are by themselves a correct item of that kind": the bit of the item, its parts
-- and its numbers are then these
pub data NewItem (e : Entry) : Change → ℕ → ℕ × List ℤ → Type 0 where
  removal : NewItem e remove 0 (0, zeros_in e)
  correct : {t : List ℕ} {n : ℕ} {zs : List ℤ} → IsItem e t n zs → NewItem e (put t) 1 (n, zs)

-- "New octets are right exactly if the field made of LEN, an indicator with that one bit, and these octets is
-- accepted; no octets, or more than 253, gives 14"
pub data WrongNew (cat item : ℕ) : Change → Type 0 where
  no_octets : WrongNew cat item (put [])
  too_many : {t : List ℕ} → 253 < length t → WrongNew cat item (put t)
  no_item : {t : List ℕ} {n q : ℕ} → Fault cat (alone (item - 1) t) n q → WrongNew cat item (put t)

-- "Take an accepted field, a slot's list of items, an item on that list, and ..": `was` is what the field holds
pub record Taken (cat : ℕ) (s : List ℕ) (list item : ℕ) (ch : Change) : Type 0 where
  pub known_is : T (known cat)
  pub was : Contents
  pub field : HasLayout (printed_of cat) (take (len_of s) s) was
  pub before : List Entry
  pub entry : Entry
  pub behind : List Entry
  pub paper : printed_of cat ≡ before ++ (entry ∷ behind)
  pub turn : item ≡ suc (length before)
  pub on_list : bit_of list item ≡ 1
  pub bit : ℕ
  pub value : ℕ × List ℤ
  pub new : NewItem entry ch bit value

-- the record "with that one item added, replaced or removed"
abbrev pub changed : {cat : ℕ} {s : List ℕ} {list item : ℕ} {ch : Change} → Taken cat s list item ch → Record
changed {cat} {s} {list} {item} {ch} t =
    record_of cat (with_bit t.was.0 item t.bit, set t.was.1 (item - 1) t.value)

module _ (p : Program) where
  -- what is shown of an item, and the part; what is chosen, and the part
  abbrev pub Shows : ℕ → List ℕ → ℕ → View → List ℕ → Type 0
  Shows cat s item v x = (p.view cat s item ≡ v) × (p.part cat s item ≡ x)

  abbrev pub Chooses : ℕ → List ℕ → List ℕ → ℕ → Which → View → List ℕ → Type 0
  Chooses cat b s item w v x =
      (p.choose cat b s item ≡ record { which = w; view = v }) × (p.chosen cat b s item ≡ x)

  -- ---- demand 1: "A refusal has one number and one place, by a fixed order, and writes nothing". Of each operation
  -- the checks in their order, and the whole result of each

  -- a string with a fault: every operation refuses it by that number, at that place, before anything else but 1
  pub record OfFault (cat : ℕ) (s : List ℕ) (n q : ℕ) : Type 0 where
    pub numbers : (1 ≤ n) × (n ≤ 9)
    pub place : q ≤ len_of s
    pub read : p.read cat s ≡ record { answer = Refused n q; kept = no_record }
    pub edit : (list item : ℕ) (ch : Change) (out : List ℕ) → p.edit cat s list item ch out ≡ refused_by n q out
    pub view : (item : ℕ) → Shows cat s item (Hidden n q) []
    pub choose_base : T (known cat) → (c : List ℕ) (item : ℕ) → Chooses cat s c item Base (Hidden n q) []
    pub choose_correction : {b : List ℕ} {f : Record} → Octets b → IsField cat b f → (item : ℕ)
        → Chooses cat b s item Correction (Hidden n q) []

  -- a field: 12, 13, 14 of an edit (what follows is Demand3), 12, 15 of a view
  pub record OfField (cat : ℕ) (s : List ℕ) (f : Record) : Type 0 where
    pub edit_no_item : (list item : ℕ) (ch : Change) (out : List ℕ) → numbered cat item ≡ false
        → p.edit cat s list item ch out ≡ refused_by 12 0 out
    pub edit_off_list : (list item : ℕ) (ch : Change) (out : List ℕ) → list < 256 → T (numbered cat item)
        → bit_of list item ≢ 1 → p.edit cat s list item ch out ≡ refused_by 13 0 out
    pub edit_wrong : (list item : ℕ) (ch : Change) (out : List ℕ) → list < 256 → T (numbered cat item)
        → bit_of list item ≡ 1 → Octets (new_octets ch) → WrongNew cat item ch
        → p.edit cat s list item ch out ≡ refused_by 14 0 out
    pub view_no_item : (item : ℕ) → numbered cat item ≡ false → Shows cat s item (Hidden 12 0) []
    pub view_absent : (item : ℕ) → T (numbered cat item) → bit_of f.items item ≢ 1
        → Shows cat s item (Hidden 15 0) []

  -- two fields, a base and a correction: 12, 15 of the choice
  pub record OfFields (cat : ℕ) (b : List ℕ) (f : Record) (s : List ℕ) (g : Record) : Type 0 where
    pub no_item : (item : ℕ) → numbered cat item ≡ false → Chooses cat b s item Neither (Hidden 12 0) []
    pub absent : (item : ℕ) → T (numbered cat item) → bit_of g.items item ≢ 1 → bit_of f.items item ≢ 1
        → Chooses cat b s item Neither (Hidden 15 0) []

  pub record Demand1 : Type 0 where
    -- "The software takes every octet string, record and edit without a fault. Nobody has to check first": the
    -- program is defined for every input, every string is a field or has a fault, and Top says that the code runs to
    -- the result
    pub judged : (cat : ℕ) (s : List ℕ) → Octets s → Judged cat s
    pub fault : (cat : ℕ) (s : List ℕ) (n q : ℕ) → Octets s → Fault cat s n q → OfFault cat s n q
    pub field : (cat : ℕ) (s : List ℕ) (f : Record) → Octets s → IsField cat s f → OfField cat s f
    pub fields : (cat : ℕ) (b : List ℕ) (f : Record) (s : List ℕ) (g : Record) → Octets b → IsField cat b f → Octets s
        → IsField cat s g → OfFields cat b f s g
    pub choose_unknown : (cat : ℕ) (b s : List ℕ) (item : ℕ) → known cat ≡ false
        → Chooses cat b s item Neither (Hidden 1 0) []
    -- writer: 1, 10 where no field reads to the record, 11 where its field has no room. The sheet: 11
    pub write_unknown : (f : Record) (out : List ℕ) → known f.cat ≡ false → p.write f out ≡ refused_by 1 0 out
    pub write_no_field : (f : Record) (out : List ℕ) → T (known f.cat)
        → ((s : List ℕ) → Octets s → IsField f.cat s f → ⊥) → p.write f out ≡ refused_by 10 0 out
    pub write_no_room : (f : Record) (out s : List ℕ) → Octets s → IsField f.cat s f → length out < len_of s
        → p.write f out ≡ refused_by 11 0 out
    pub sheet_no_room : (s out : List ℕ) → length out < length (sheet_of s) → p.sheet s out ≡ refused_by 11 0 out

  -- ---- demand 2, of a field s with the record f

  pub record Reads (cat : ℕ) (s : List ℕ) (f : Record) : Type 0 where
    -- "A field is accepted exactly if it has the layout of the named EUROCONTROL edition, with spare bits zero and
    -- Mode 5 latitude and altitude in range, filled to its stated length with no octet missing or left. Each number
    -- read is the one that the edition defines, signs and units included"
    pub accepted : p.read cat s ≡ record { answer = Accepted (len_of s); kept = f }
    pub filled : length (take (len_of s) s) ≡ len_of s
    -- "Writing what was read gives back the same octets"
    pub written : (out : List ℕ) → len_of s ≤ length out → p.write f out ≡ handed_out (take (len_of s) s) out
    -- the parts are those of the field, one behind the other, and the view of one that is there says where it stands
    pub parts_are : take (len_of s) s ≡ len_of s ∷ f.items ∷ parts p cat s 0 (items_of cat)
    pub shown : (item : ℕ) → T (numbered cat item) → bit_of f.items item ≡ 1
        → p.view cat s item ≡ Shown (2 + length (parts p cat s 0 (item - 1))) (length (p.part cat s item))
    -- as a correction of a base: its own part if it has the item, else the base's own part
    pub correction : {b : List ℕ} {g : Record} → Octets b → IsField cat b g → (item : ℕ) → T (numbered cat item)
        → bit_of f.items item ≡ 1 → Chooses cat b s item Correction (p.view cat s item) (p.part cat s item)
    pub base : {b : List ℕ} {g : Record} → Octets b → IsField cat b g → (item : ℕ) → T (numbered cat item)
        → bit_of f.items item ≢ 1 → bit_of g.items item ≡ 1
        → Chooses cat b s item Base (p.view cat b item) (p.part cat b item)

  pub record Demand2 : Type 0 where
    pub fields : (cat : ℕ) (s : List ℕ) (f : Record) → Octets s → IsField cat s f → Reads cat s f
    pub only_fields : (cat : ℕ) (s : List ℕ) (n : ℕ) → Octets s → (p.read cat s).answer ≡ Accepted n
        → IsField cat s (p.read cat s).kept
    -- "and reading what was written gives back the same record", whatever stands behind it
    pub read_back : (f : Record) (out : List ℕ) (n : ℕ) → (p.write f out).0 ≡ Accepted n
        → p.read f.cat (p.write f out).1 ≡ record { answer = Accepted n; kept = f }
    -- the sheet is the whole text, and the angles on it are the nearest
    pub listed : (s out : List ℕ) → length (sheet_of s) ≤ length out → p.sheet s out ≡ handed_out (sheet_of s) out
    pub angles : (n : ℤ) → Nearest n (p.udeg n)
    -- octets from LEN on, x or y behind a t that has LEN and all that it counts, change nothing, in a refused field
    -- neither
    pub reads_alike : (cat : ℕ) (t x y : List ℕ) → Whole t → p.read cat (t ++ x) ≡ p.read cat (t ++ y)
    pub sheets_alike : (cat : ℕ) (t x y : List ℕ) → Whole t → sheet_of (cat ∷ (t ++ x)) ≡ sheet_of (cat ∷ (t ++ y))
    pub edits_alike : (cat : ℕ) (t x y : List ℕ) → Whole t → (list item : ℕ) (ch : Change) (out : List ℕ)
        → p.edit cat (t ++ x) list item ch out ≡ p.edit cat (t ++ y) list item ch out
    pub views_alike : (cat : ℕ) (t x y : List ℕ) → Whole t → Octets (t ++ x) → (item : ℕ)
        → Shows cat (t ++ x) item (p.view cat (t ++ y) item) (p.part cat (t ++ y) item)
    pub choices_alike : (cat : ℕ) (t x y u v w : List ℕ) → Whole t → Whole u → (item : ℕ)
        → p.choose cat (t ++ x) (u ++ v) item ≡ p.choose cat (t ++ y) (u ++ w) item

  -- ---- demand 3, of an edit of s

  pub record Edits (cat : ℕ) (s : List ℕ) (list item : ℕ) (ch : Change) (out : List ℕ) : Type 0 where
    -- "With room for the result, the edit gives exactly the field written afresh with that one item added, replaced
    -- or removed": what writing the changed record gives, which some field reads to
    pub afresh : (t : Taken cat s list item ch) → p.edit cat s list item ch out ≡ p.write (changed t) out
    pub result : (t : Taken cat s list item ch) → HasField (changed t)
    pub only_these : (n : ℕ) → (p.edit cat s list item ch out).0 ≡ Accepted n → Taken cat s list item ch
    -- "Every other item keeps its octets"
    pub others : (n : ℕ) → (p.edit cat s list item ch out).0 ≡ Accepted n → (j : ℕ) → T (numbered cat j) → j ≢ item
        → p.part cat (p.edit cat s list item ch out).1 j ≡ p.part cat s j
    -- "and its turn; beside the edited item only the length and its own presence bit may change": the items before
    -- it, the item, the items behind it
    pub turns : (n : ℕ) → (p.edit cat s list item ch out).0 ≡ Accepted n
        → (p.edit cat s list item ch out).1
        ≡ (n ∷ with_bit (p.read cat s).kept.items item (new_flag ch) ∷ (parts p cat s 0 (item - 1)
        ++ (new_octets ch ++ parts p cat s item (items_of cat - item)))) ++ drop n out
    -- "An item off the list is refused", whatever else is right
    pub off_list : (1 ≤ item → item ≤ 8 → bit_of list item ≢ 1) → (n : ℕ)
        → (p.edit cat s list item ch out).0 ≢ Accepted n

  pub record Demand3 : Type 0 where
    pub edits : (cat : ℕ) (s : List ℕ) (list item : ℕ) (ch : Change) (out : List ℕ) → Octets s → list < 256
        → Octets (new_octets ch) → Octets out → Edits cat s list item ch out

  pub record Demands : Type 0 where
    pub one : Demand1
    pub two : Demand2
    pub three : Demand3
