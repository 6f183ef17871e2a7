-- The sheet (01, the section of that name): key=value lines, each ended by a line feed.
use Rattle.std.specs.Prelude.{Bool, true, List, [], ◌∷◌, ◌++◌, ℕ, zero, suc, ◌+◌, ◌-◌, ◌/◌, ◌%◌, ltb, eqb, ℤ, pos, negsuc, length, take, drop}
use Rattle.codec.specs.Pick.{pick}
use Rattle.codec.specs.Line.{Line, Held, count}
use Rattle.codec.specs.Item.{Item, chained, single, flagged, lines_of}
use Rattle.codec.specs.Field.{first_flag, next_flags, uncons, flags, Contents}
use Rattle.codec.specs.Frame.{Outcome, accepted, refused}
use Rattle.codec.specs.Meaning.{len_of}
use Rattle.papers.specs.Names.{text, Key, hidden, shown, angle, pressure, Named, names_of}
use Rattle.papers.specs.Papers.{paper_of}
use Rattle.layout.specs.Answer.{Answer}
use Rattle.scope.specs.Angle.{udeg_of, left_of}
use Rattle.scope.specs.Pressure.{tenths_of, sense_of}
use Rattle.scope.specs.Reading.{field_of}
use Rattle.scope.specs.Outputs.{with_room, Leaves}

-- ---- "All numbers are decimal, codes too"

-- at most f digits, the last one last; 48 is the digit 0
unfoldable pub digits_of : ℕ → ℕ → List ℕ
digits_of zero n = []
digits_of (suc f) n = pick (ltb n 10) ((48 + n) ∷ []) (digits_of f (n / 10) ++ ((48 + n % 10) ∷ []))

-- twenty digits are enough for every number of 64 bits
unfoldable pub decimal : ℕ → List ℕ
unfolding digits_of
decimal n = digits_of 20 n

unfoldable pub signed_decimal : ℤ → List ℕ
unfolding decimal
signed_decimal (pos n) = decimal n
signed_decimal (negsuc n) = text "-" ++ decimal (suc n)

-- ---- one line; a number's lines

unfoldable pub key_line : List ℕ → List ℕ → List ℕ
key_line key value = key ++ (text "=" ++ (value ++ (10 ∷ [])))

-- "After each latitude and each longitude comes a line with `.udeg` added to the key" (01); "The sheet gets a line ending `.left` after each `.udeg`, with
-- the same key before it" (02, Ask 7)
abbrev pub angle_text : List ℕ → ℤ → List ℕ
angle_text k z = key_line (k ++ text ".udeg") (signed_decimal (udeg_of z)) ++ key_line (k ++ text ".left") (signed_decimal (left_of z))

-- "After BPS comes `BPS.tenths`" (01); "After `BPS.tenths` print `BPS.sense`" (02, Ask 1): one never stands without the other
abbrev pub pressure_text : List ℕ → ℤ → List ℕ
pressure_text k z = key_line (k ++ text ".tenths") (signed_decimal (tenths_of z)) ++ key_line (k ++ text ".sense") (sense_of z)

-- a number, and behind it what is derived from it
unfoldable pub number_text : Key → ℤ → List ℕ
unfolding key_line signed_decimal
number_text hidden z = []
number_text (shown k) z = key_line k (signed_decimal z)
number_text (angle k) z = key_line k (signed_decimal z) ++ angle_text k z
number_text (pressure k) z = key_line k (signed_decimal z) ++ pressure_text k z

unfoldable pub numbers_text : List Key → List ℤ → List ℕ
unfolding number_text
numbers_text [] zs = []
numbers_text (k ∷ ks) [] = []
numbers_text (k ∷ ks) (z ∷ zs) = number_text k z ++ numbers_text ks zs

-- ---- "the numbers of the present items, subfields and parts only, in layout order"

-- which lines of an item are there: the first n parts of its chain, and the subfields whose flag is 1
unfoldable pub parts_there : ℕ → List Line → List Bool
parts_there n [] = []
parts_there n (l ∷ ls) = ltb 0 n ∷ parts_there (n - 1) ls

unfoldable pub subfields_there : List ℤ → List Line → List Bool
subfields_there zs [] = []
subfields_there zs (s ∷ ss) = flagged zs s ∷ subfields_there zs ss

unfoldable pub lines_there : Item → Held → List Bool
unfolding parts_there subfields_there
lines_there (chained p qs ss) v = parts_there v.0 (p ∷ qs) ++ subfields_there v.1 ss
lines_there (single l) v = true ∷ []

unfoldable pub lines_text : List Bool → List (List Key) → List Line → List ℤ → List ℕ
unfolding numbers_text
lines_text [] ks ls zs = []
lines_text (t ∷ ts) [] ls zs = []
lines_text (t ∷ ts) (k ∷ ks) [] zs = []
lines_text (t ∷ ts) (k ∷ ks) (l ∷ ls) zs = pick t (numbers_text k (take (count l.pieces) zs)) [] ++ lines_text ts ks ls (drop (count l.pieces) zs)

-- "M5N, SGV and STA begin with `ITEM.chain`, the parts": those whose chain can have several
unfoldable pub chain_text : Item → Named → ℕ → List ℕ
unfolding key_line decimal
chain_text (chained p [] ss) nm n = []
chain_text (chained p (q ∷ qs) ss) nm n = key_line (nm.name ++ text ".chain") (decimal n)
chain_text (single l) nm n = []

unfoldable pub item_text : Item → Named → Held → List ℕ
unfolding chain_text lines_text lines_there
item_text it nm v = chain_text it nm v.0 ++ lines_text (lines_there it v) nm.keys (lines_of it) v.1

unfoldable pub row_text : List ℕ → List Item → List Named → List Held → List ℕ
unfolding item_text
row_text ds [] nms vs = []
row_text ds (it ∷ its) [] vs = []
row_text ds (it ∷ its) (nm ∷ nms) vs = pick (eqb (first_flag ds) 1) (item_text it nm (uncons vs).0) [] ++ row_text (next_flags ds) its nms (uncons vs).1

-- "`items` (names joined by commas, blank for none)": a comma before each name but the first
unfoldable pub items_text : List ℕ → List ℕ → List Named → List ℕ
items_text comma ds [] = []
items_text comma ds (nm ∷ nms) = pick (eqb (first_flag ds) 1) (comma ++ (nm.name ++ items_text (text ",") (next_flags ds) nms)) (items_text comma (next_flags ds) nms)

-- ---- the whole sheet

unfoldable pub refusal_text : ℕ → ℕ → List ℕ
unfolding key_line decimal
refusal_text n p = key_line (text "refused") (decimal n) ++ key_line (text "at") (decimal p)

unfoldable pub field_text : ℕ → List ℕ → Outcome Contents → List ℕ
unfolding refusal_text row_text items_text
field_text cat s (refused n p) = refusal_text n p
field_text cat s (accepted r) =
    key_line (text "len") (decimal (len_of s))
    ++ (key_line (text "items") (items_text [] (flags r.0) (names_of cat))
    ++ (row_text (flags r.0) (paper_of cat) (names_of cat) r.1 ++ key_line (text "end") (text "ok")))

-- "The program reads one category octet and then a field"; "for empty input `cat=none`, `refused=2`, `at=0`"
unfoldable pub sheet_of : List ℕ → List ℕ
unfolding field_text
sheet_of [] = key_line (text "cat") (text "none") ++ refusal_text 2 0
sheet_of (cat ∷ s) = key_line (text "cat") (decimal cat) ++ field_text cat s (field_of cat s)

-- what listing an input promises of the answer, and of the output before and after
abbrev pub Listed : List ℕ → List ℕ → Answer → List ℕ → Type 0
Listed s out a out' = Leaves (with_room (length out) (sheet_of s)) out a out'
