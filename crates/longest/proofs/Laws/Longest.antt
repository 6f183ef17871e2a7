-- The longest sheet has 1,055 octets: that of a full field of category 48. The longest of category 21 has 989, that of category 7 has 619.
use Rattle.std.specs.Prelude.{◌≡◌, refl, Bool, true, false, ◌&&◌, List, [], ◌∷◌, ◌++◌, map, ℕ, ◌+◌, ◌-◌, ◌≤◌, T, ltb, eqb, ℤ, pos, length, take, drop, replicate}
use Rattle.std.proofs.Common.{sym, subst, append_assoc, append-nil, zero-le, arith, eqb-true, eqb→eq, length-append, take-append-drop, take_at, drop_at}
use Rattle.std.proofs.lemmas.List.{replicate-append-replicate}
use Rattle.std.proofs.Math.Pow.{are_bytes}
use Rattle.codec.specs.Pick.{pick}
use Rattle.codec.specs.Signed.{to_signed, of_signed, in_signed}
use Rattle.codec.specs.Radix.{cut, join, digits}
use Rattle.codec.specs.Codec.{Octets, Codec, opt, number}
use Rattle.codec.specs.Line.{Line, Held, to_num, of_num, in_num, limit, widths, count, clear, nums, unnums, fit_nums, in_limits, cells, line as lineCodec}
use Rattle.codec.specs.Item.{Item, chained, single, slots_of, slots, lines_of, octets_of, nothing, beside, fx_of, chain, flagged, is_one, subfields, item}
use Rattle.codec.specs.Field.{first_flag, next_flags, uncons, place, row, flags, all_zero, indicator, Contents, body, longest}
use Rattle.codec.specs.Frame.{Outcome, accepted, refused, read_frame, okay_frame}
use Rattle.codec.specs.Meaning.{len_of}
use Rattle.codec.proofs.Laws.Tests.{and_l, and_r}
use Rattle.codec.proofs.Laws.Line.{line_count}
use Rattle.codec.proofs.Laws.Item.{zeros_are, nothing_count, beside_first, beside-second, chain_length}
use Rattle.codec.proofs.Laws.Field.{lawful_body, row_okay}
use Rattle.codec.proofs.Laws.Frame.{refused≢accepted, accepted_front}
use Rattle.codec.proofs.Laws.Longest.{field_size}
use Rattle.papers.specs.Cat048.{cat048}
use Rattle.papers.specs.Cat021.{cat021}
use Rattle.papers.specs.Cat007.{cat007}
use Rattle.papers.specs.Names.{text, Key, Named, names048, names021, names007, names_of}
use Rattle.papers.specs.Papers.{known, paper_of, longest_of}
use Rattle.papers.proofs.Laws.Papers.{by_paper, good_paper}
use Rattle.scope.specs.Angle.{udeg_of, left_of}
use Rattle.scope.specs.Pressure.{eq_int, sense_of}
use Rattle.scope.specs.Reading.{field_of}
use Rattle.scope.specs.Sheet.{decimal, signed_decimal, key_line, numbers_text, lines_there, lines_text, chain_text, item_text, row_text, items_text, refusal_text, sheet_of}
use Rattle.text.specs.Laws.Decimals.{decimal_most, decimal-longer}
use Rattle.longest.proofs.Laws.Ranges.{most_line, most_numbers, append_most, line_most, numbers_most}
use Rattle.longest.specs.Longest.{longest_sheet}

-- ---- what the lines of an item hold, one behind the other

-- each line holds numbers that some octets of it read to
data Hold : List Line → List ℤ → Type 0 where
  none : Hold [] []
  more : (l : Line) (ls : List Line) (v : Held) (zs : List ℤ) → T ((lineCodec l).okay v) → Hold ls zs → Hold (l ∷ ls) (v.1 ++ zs)

hold_append : {ls ms : List Line} {xs ys : List ℤ} → Hold ls xs → Hold ms ys → Hold (ls ++ ms) (xs ++ ys)
hold_append none k = k
hold_append {ms = ms} {ys = ys} (more l ls v zs t h) k =
    subst (Hold (l ∷ ls ++ ms)) (sym (append_assoc v.1 zs ys)) (more l (ls ++ ms) v (zs ++ ys) t (hold_append h k))

line_holds : (l : Line) (v : Held) → T ((lineCodec l).okay v) → Hold (l ∷ []) v.1
line_holds l v t = subst (Hold (l ∷ [])) (append-nil v.1) (more l [] v [] t none)

beside_holds : (ls ms : List Line) (n : ℕ) (c : Codec Held) (d : Held → Codec Held)
    → ((v : Held) → T (c.okay v) → Hold ls v.1) → ((a v : Held) → T ((d a).okay v) → Hold ms v.1)
    → (b : (ℕ × ℕ) × List ℤ) → T ((beside n c d).okay b) → Hold (ls ++ ms) b.1
unfolding beside
beside_holds ls ms n c d h k b t =
    let first : T (c.okay (b.0.0, take n b.1)) = and_l (c.okay (b.0.0, take n b.1)) _ t in
    subst (Hold (ls ++ ms)) (take-append-drop n b.1)
    (hold_append (h (b.0.0, take n b.1) first) (k (b.0.0, take n b.1) (b.0.1, drop n b.1) (and_r (c.okay (b.0.0, take n b.1)) _ t)))

-- a line that is absent has zeros
abbrev blank : Line → Held
blank l = (0, replicate (count l.pieces) (pos 0))

-- 0 is a number of each of their pieces, so that absent lines hold such numbers too
unfoldable pub zero_fits : List Line → Bool
zero_fits [] = true
zero_fits (l ∷ ls) = (lineCodec l).okay (blank l) && zero_fits ls

zeros_hold : (ls : List Line) → T (zero_fits ls) → Hold ls (replicate (slots_of ls) (pos 0))
unfolding zero_fits slots_of
zeros_hold [] f = none
zeros_hold (l ∷ ls) f =
    subst (Hold (l ∷ ls)) (replicate-append-replicate (count l.pieces) (slots_of ls) (pos 0))
    (more l ls (blank l) _ (and_l ((lineCodec l).okay (blank l)) _ f) (zeros_hold ls (and_r ((lineCodec l).okay (blank l)) _ f)))

opt_holds : (ls : List Line) (n : ℕ) (b : Bool) (c : Codec Held) → ((v : Held) → T (c.okay v) → Hold ls v.1) → Hold ls (replicate n (pos 0))
    → (v : Held) → T ((opt (nothing n) b c).okay v) → Hold ls v.1
opt_holds ls n true c h z v t = h v t
opt_holds ls n false c h z v t = subst (Hold ls) (sym (zeros_are n v.1 (and_r (eqb v.0 0) _ t))) z

chain_holds : (p : Line) (qs : List Line) → T (zero_fits qs) → (v : Held) → T ((chain p qs).okay v) → Hold (p ∷ qs) v.1
unfolding chain zero_fits
chain_holds p [] f v t = line_holds p (0, v.1) (and_l ((lineCodec p).okay (0, v.1)) true (and_r (eqb v.0 1) _ t))
chain_holds p (q ∷ qs) f v t =
    beside_holds (p ∷ []) (q ∷ qs) (count p.pieces) (lineCodec p) _ (line_holds p)
    (λ a. opt_holds (q ∷ qs) (slots_of (q ∷ qs)) (eqb a.0 1) (chain q qs) (chain_holds q qs (and_r ((lineCodec q).okay (blank q)) _ f)) (zeros_hold (q ∷ qs) f))
    ((fx_of v.0, v.0 - 1), v.1) (and_r (ltb 0 v.0) _ t)

subfields_hold : (zs : List ℤ) (ss : List Line) → T (zero_fits ss) → (v : Held) → T ((subfields zs ss).okay v) → Hold ss v.1
unfolding subfields zero_fits
subfields_hold zs [] f v t = subst (Hold []) (sym (zeros_are 0 v.1 (and_r (eqb v.0 0) _ t))) none
subfields_hold zs (s ∷ ss) f v t =
    let n : ℕ = count s.pieces in
    beside_holds (s ∷ []) ss n (opt (nothing n) (flagged zs s) (lineCodec s)) _
    (opt_holds (s ∷ []) n (flagged zs s) (lineCodec s) (line_holds s) (line_holds s (blank s) (and_l ((lineCodec s).okay (blank s)) _ f)))
    (λ a. subfields_hold zs ss (and_r ((lineCodec s).okay (blank s)) _ f)) ((0, 0), v.1) (and_r (eqb v.0 0) _ t)

-- the same of every line of an item that may be absent while the item is there
unfoldable pub zero_fits_item : Item → Bool
unfolding zero_fits
zero_fits_item (chained p qs ss) = zero_fits qs && zero_fits ss
zero_fits_item (single l) = true

item_holds : (it : Item) → T (zero_fits_item it) → (v : Held) → T ((item it).okay v) → Hold (lines_of it) v.1
unfolding item lines_of zero_fits_item
item_holds (chained p qs ss) f v t =
    beside_holds (p ∷ qs) ss (slots_of (p ∷ qs)) (chain p qs) _ (chain_holds p qs (and_l (zero_fits qs) _ f)) (λ a. subfields_hold a.1 ss (and_r (zero_fits qs) _ f)) ((v.0, 0), v.1) t
item_holds (single l) f v t = line_holds l v t

-- ---- the most octets of the text of an item

pick_most : (b : Bool) (xs : List ℕ) {n : ℕ} → length xs ≤ n → length (pick b xs []) ≤ n
pick_most true xs h = h
pick_most false xs h = zero-le

-- every line there, each number at its longest
unfoldable pub most_lines : List (List Key) → List Line → ℕ
unfolding most_numbers
most_lines [] ls = 0
most_lines (k ∷ ks) [] = 0
most_lines (k ∷ ks) (l ∷ ls) = most_numbers k l.pieces + most_lines ks ls

lines_most : {ls : List Line} {zs : List ℤ} → Hold ls zs → (ts : List Bool) (ks : List (List Key)) → length (lines_text ts ks ls zs) ≤ most_lines ks ls
unfolding lines_text most_lines lineCodec
lines_most h [] ks = zero-le
lines_most h (b ∷ ts) [] = zero-le
lines_most none (b ∷ ts) (k ∷ ks) = zero-le
lines_most (more l ls v zs t h) (b ∷ ts) (k ∷ ks) =
    let e : length v.1 ≡ count l.pieces = line_count l v t in
    rw (take_at v.1 zs (count l.pieces) e, drop_at v.1 zs (count l.pieces) e)
    (append_most (pick b (numbers_text k v.1) []) _ (pick_most b (numbers_text k v.1) (numbers_most k l.pieces v.1 (search (and_l, and_r)) (search (and_l, and_r))))
    (lines_most h ts ks))

-- the line `ITEM.chain` with every part there
unfoldable pub most_chain : Item → Named → ℕ
most_chain (chained p [] ss) nm = 0
most_chain (chained p (q ∷ qs) ss) nm = most_line (nm.name ++ text ".chain") (length (decimal (length (p ∷ q ∷ qs))))
most_chain (single l) nm = 0

-- both together
unfoldable pub most_item : Item → Named → ℕ
unfolding most_chain most_lines
most_item it nm = most_chain it nm + most_lines nm.keys (lines_of it)

opt_parts : (n m : ℕ) (b : Bool) (c : Codec Held) → ((v : Held) → T (c.okay v) → v.0 ≤ m) → (v : Held) → T ((opt (nothing n) b c).okay v) → v.0 ≤ m
opt_parts n m true c h v t = h v t
opt_parts n m false c h v t = omega (arith, nothing_count n v t)

-- a chain has no more parts than are defined
parts_most : (p : Line) (qs : List Line) (v : Held) → T ((chain p qs).okay v) → v.0 ≤ length (p ∷ qs)
unfolding chain
parts_most p [] v t = omega (arith, eqb→eq v.0 1 (and_l (eqb v.0 1) _ t))
parts_most p (q ∷ qs) v t =
    let n : ℕ = slots_of (q ∷ qs) in
    let rest : Held → Codec Held = λ a. opt (nothing n) (eqb a.0 1) (chain q qs) in
    let u = beside-second (count p.pieces) (lineCodec p) rest (line_count p) ((fx_of v.0, v.0 - 1), v.1) (and_r (ltb 0 v.0) _ t) in
    omega (arith, opt_parts n (length (q ∷ qs)) (eqb (fx_of v.0) 1) (chain q qs) (parts_most q qs) (v.0 - 1, drop (count p.pieces) v.1) u)

chain_most : (it : Item) (nm : Named) (v : Held) → T ((item it).okay v) → length (chain_text it nm v.0) ≤ most_chain it nm
unfolding chain_text most_chain item
chain_most (chained p [] ss) nm v t = zero-le
chain_most (chained p (q ∷ qs) ss) nm v t =
    let u = beside_first (slots_of (p ∷ q ∷ qs)) (chain p (q ∷ qs)) (λ a. subfields a.1 ss) (chain_length p (q ∷ qs)) ((v.0, 0), v.1) t in
    line_most (nm.name ++ text ".chain") (decimal v.0) (decimal-longer v.0 (length (p ∷ q ∷ qs)) (parts_most p (q ∷ qs) (v.0, take (slots_of (p ∷ q ∷ qs)) v.1) u))
chain_most (single l) nm v t = zero-le

item_most : (it : Item) (nm : Named) → T (zero_fits_item it) → (v : Held) → T ((item it).okay v) → length (item_text it nm v) ≤ most_item it nm
unfolding item_text most_item
item_most it nm f v t =
    append_most (chain_text it nm v.0) _ (chain_most it nm v t) (lines_most (item_holds it f v t) (lines_there it v) nm.keys)

-- ---- the most octets of a row of items

-- every item there
unfoldable pub most_row : List Item → List Named → ℕ
unfolding most_item
most_row [] nms = 0
most_row (it ∷ its) [] = 0
most_row (it ∷ its) (nm ∷ nms) = most_item it nm + most_row its nms

-- what is asked of each item for that
unfoldable pub zero_fits_row : List Item → Bool
unfolding zero_fits_item
zero_fits_row [] = true
zero_fits_row (it ∷ its) = zero_fits_item it && zero_fits_row its

place_most : (it : Item) (nm : Named) → T (zero_fits_item it) → (b : Bool) (v : Held) → T ((opt (nothing (slots it)) b (item it)).okay v) → length (pick b (item_text it nm v) []) ≤ most_item it nm
place_most it nm f true v t = item_most it nm f v t
place_most it nm f false v t = zero-le

row_most : (ds : List ℕ) (its : List Item) (nms : List Named) → T (zero_fits_row its) → (vs : List Held) → T ((row ds its).okay vs) → length (row_text ds its nms vs) ≤ most_row its nms
unfolding row row_text most_row zero_fits_row
row_most ds [] nms f vs t = zero-le
row_most ds (it ∷ its) [] f vs t = zero-le
row_most ds (it ∷ its) (nm ∷ nms) f vs t =
    let v : Held = (uncons vs).0 in
    let here : T ((place (first_flag ds) it).okay v) = search (and_l, and_r) in
    append_most (pick (eqb (first_flag ds) 1) (item_text it nm v) []) _ (place_most it nm (and_l (zero_fits_item it) _ f) (eqb (first_flag ds) 1) v here)
    (row_most (next_flags ds) its nms (and_r (zero_fits_item it) _ f) (uncons vs).1 (search (and_l, and_r)))

zero_fits_lem : (cat : ℕ) → T (zero_fits_row (paper_of cat))
unfolding zero_fits_row lineCodec cells number widths cut join digits unnums of_num of_signed clear fit_nums in_num in_signed in_limits limit count cat048 cat021 cat007
zero_fits_lem cat = by_paper (λ its. T (zero_fits_row its)) tt tt tt tt cat

-- every name, each with a comma
unfoldable pub most_names : List Named → ℕ
most_names [] = 0
most_names (nm ∷ nms) = 1 + length nm.name + most_names nms

-- the first has none
names_most : (comma ds : List ℕ) (nms : List Named) → length (items_text comma ds nms) ≤ length comma + most_names nms - 1
unfolding items_text most_names
names_most comma ds [] = zero-le
names_most comma ds (nm ∷ nms) = go (eqb (first_flag ds) 1) (names_most (text ",") (next_flags ds) nms) (names_most comma (next_flags ds) nms)
  where
    rest : List ℕ → List ℕ
    rest c = items_text c (next_flags ds) nms

    go : (b : Bool) → length (rest (text ",")) ≤ 1 + most_names nms - 1 → length (rest comma) ≤ length comma + most_names nms - 1
        → length (pick b (comma ++ (nm.name ++ rest (text ","))) (rest comma)) ≤ length comma + (1 + length nm.name + most_names nms) - 1
    go true k m = omega (arith, length-append comma (nm.name ++ rest (text ",")), length-append nm.name (rest (text ",")))
    go false k m = omega arith

-- ---- the most octets of the sheet of a field of a category

-- every line at its longest
unfoldable pub most_sheet : ℕ → ℕ
unfolding most_row most_names
most_sheet cat =
    most_line (text "cat") (length (decimal cat))
    + (most_line (text "len") (length (decimal (longest_of cat)))
    + (most_line (text "items") (most_names (names_of cat) - 1)
    + (most_row (paper_of cat) (names_of cat) + most_line (text "end") 2)))

read_known : (cat : ℕ) (s : List ℕ) (r : Contents) → field_of cat s ≡ accepted r → read_frame (body (paper_of cat)) s ≡ accepted r
unfolding field_of
read_known cat s r e = go (known cat) e
  where
    go : (b : Bool) → pick b (read_frame (body (paper_of cat)) s) (refused 1 0) ≡ accepted r → read_frame (body (paper_of cat)) s ≡ accepted r
    go true e = e
    go false e = refused≢accepted e

-- no sheet of a field of the category is longer
pub accepted_most : (cat : ℕ) (s : List ℕ) → Octets s → (r : Contents) → field_of cat s ≡ accepted r → length (sheet_of (cat ∷ s)) ≤ most_sheet cat
unfolding sheet_of most_sheet okay_frame
accepted_most cat s o r e =
    let f = accepted_front (lawful_body (paper_of cat) (good_paper cat)) s o r (read_known cat s r e) in
    let len : len_of s ≤ longest_of cat = omega (arith, f.len_is, field_size (paper_of cat) r) in
    let okay : T ((row (flags r.0) (paper_of cat)).okay r.1) = row_okay (paper_of cat) r (and_l ((body (paper_of cat)).okay r) _ f.okay) in
    let names : List ℕ = items_text [] (flags r.0) (names_of cat) in
    rw e
    (append_most (key_line (text "cat") (decimal cat)) _ (line_most (text "cat") (decimal cat) (omega arith))
    (append_most (key_line (text "len") (decimal (len_of s))) _ (line_most (text "len") (decimal (len_of s)) (decimal-longer (len_of s) (longest_of cat) len))
    (append_most (key_line (text "items") names) _ (line_most (text "items") names {n = most_names (names_of cat) - 1} (omega (arith, names_most [] (flags r.0) (names_of cat))))
    (append_most (row_text (flags r.0) (paper_of cat) (names_of cat) r.1) _ (row_most (flags r.0) (paper_of cat) (names_of cat) (zero_fits_lem cat) r.1 okay)
    (line_most (text "end") (text "ok") {n = 2} (omega arith))))))

-- the longest of each category
pub longest_sheets : (most_sheet 48 ≡ longest_sheet) × (most_sheet 21 ≡ 989) × (most_sheet 7 ≡ 619)
unfolding most_sheet signed_decimal udeg_of names_of names048 names021 names007 paper_of cat048 cat021 cat007 lines_of longest octets_of
longest_sheets = (refl, refl, refl)

category_most : (cat : ℕ) → most_sheet cat ≤ longest_sheet
unfolding most_sheet names_of paper_of longest
category_most cat = go (eqb cat 48) (eqb cat 21) (eqb cat 7) refl refl refl
  where
    go : (a b c : Bool) → eqb cat 48 ≡ a → eqb cat 21 ≡ b → eqb cat 7 ≡ c → most_sheet cat ≤ longest_sheet
    go true b c e f g = subst (λ n. most_sheet n ≤ longest_sheet) (sym (eqb-true cat 48 e)) (omega (arith, longest_sheets.0))
    go false true c e f g = subst (λ n. most_sheet n ≤ longest_sheet) (sym (eqb-true cat 21 f)) (omega (arith, longest_sheets.1))
    go false false true e f g = subst (λ n. most_sheet n ≤ longest_sheet) (sym (eqb-true cat 7 g)) (omega (arith, longest_sheets.2))
    go false false false e f g = rw (e, f, g) (omega (arith, decimal_most cat, decimal_most 2))

decimal_line : (key : List ℕ) (n : ℕ) → length (key_line key (decimal n)) ≤ most_line key 20
decimal_line key n = line_most key (decimal n) (decimal_most n)

-- a refusal is shorter, whatever its numbers
refusal_most : (key value : List ℕ) (n p : ℕ) → length value ≤ 20 → length (key_line key value ++ refusal_text n p) ≤ most_line key 20 + (most_line (text "refused") 20 + most_line (text "at") 20)
unfolding refusal_text
refusal_most key value n p h =
    append_most (key_line key value) _ (line_most key value h)
    (append_most (key_line (text "refused") (decimal n)) _ (decimal_line (text "refused") n) (decimal_line (text "at") p))

-- no sheet at all is longer than the longest of category 48
pub sheet_longest : (s : List ℕ) → Octets s → length (sheet_of s) ≤ longest_sheet
unfolding sheet_of
sheet_longest [] o = omega (arith, refusal_most (text "cat") (text "none") 2 0 (omega arith))
sheet_longest (cat ∷ s) o = go (field_of cat s) refl
  where
    go : (x : Outcome Contents) → field_of cat s ≡ x → length (sheet_of (cat ∷ s)) ≤ longest_sheet
    go (refused n p) e = rw e (omega (arith, refusal_most (text "cat") (decimal cat) n p (decimal_most cat)))
    go (accepted r) e = omega (arith, accepted_most cat s (and_r (ltb cat 256) _ o) r e, category_most cat)

-- ---- and some are as long

-- M5N, M4E, RPC and ERR with every part and every subfield, each number at its longer end, but the position eight steps above its lower one: the ends leave 0,
-- there the three lines of each coordinate are longest at once. Categories 48 and 7 have them alike
abbrev full_items : List ℕ
full_items =
    0xFF ∷ 0x80 ∷ 0x00 ∷ 0x3F ∷ 0xFF ∷ 0x07 ∷ 0xFF ∷ 0xC0 ∷ 0x00 ∷ 0x08 ∷ 0x80 ∷ 0x00 ∷ 0x08 ∷ 0x1F ∷ 0xFF ∷ 0x0F ∷ 0xFF ∷ 0x80 ∷ 0x00 ∷ 0x1F ∷ 0x00 ∷ 0xF0 ∷ replicate 10 0xFF

-- a field of each category with every item, likewise full, behind its category
unfoldable pub fullest : List (List ℕ)
fullest =
    (48 ∷ 52 ∷ 0xF8 ∷ 0xFE ∷ 0x00 ∷ 0x3F ∷ 0xFF ∷ 0x1F ∷ 0x3F ∷ 0xC0 ∷ 0x00 ∷ 0x08 ∷ 0x80 ∷ 0x00 ∷ 0x08 ∷ 0x1F ∷ 0xFF ∷ 0x0F ∷ 0xFF ∷ 0x80 ∷ 0x00 ∷ full_items)
    ∷ (21 ∷ 31 ∷ 0xFF ∷ 0x0F ∷ 0xFF ∷ 0x03 ∷ 0xFF ∷ 0x00 ∷ 0x1F ∷ 0x0F ∷ 0xFF ∷ 0xFE ∷ replicate 5 0x01 ++ 0x7C ∷ 0xFF ∷ 0xFF ∷ 0xFC ∷ 0x00 ∷ 0x3F ∷ 0xFF ∷ 0x07 ∷ 0xFF ∷ 0x0F ∷ 0xFF ∷ 0x00 ∷ 0x1F ∷ 0x0F ∷ 0xFF ∷ [])
    ∷ (7 ∷ 38 ∷ 0xF8 ∷ 0x20 ∷ 0x00 ∷ 0x20 ∷ 0x00 ∷ full_items)
    ∷ []

-- their sheets have as many octets
pub some_as_long : map {B = Bool × ℕ} (λ s. (are_bytes s, length (sheet_of s))) fullest ≡ (true, longest_sheet) ∷ (true, 989) ∷ (true, 619) ∷ []
unfolding fullest sheet_of udeg_of left_of sense_of eq_int names_of names048 names021 names007 lines_of field_of known paper_of cat048 cat021 cat007 len_of read_frame body indicator all_zero row uncons item chain beside subfields is_one lineCodec cells number to_num to_signed limit widths count clear nums in_limits cut join
some_as_long = refl
