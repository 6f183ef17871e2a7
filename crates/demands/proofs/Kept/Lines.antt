-- Every sheet is made of lines in which an angle's three stand together (Leftovers: Lines), level by level as scope defines it.
use Rattle.std.specs.Prelude.{◌≡◌, refl, Bool, true, false, not, ◌&&◌, ◌||◌, List, [], ◌∷◌, ◌++◌, ℕ, zero, suc, ◌+◌, ◌-◌, ◌/◌, ◌%◌, T, ltb, eqb, ℤ, pos, negsuc, length, take, drop}
use Rattle.std.proofs.Common.{sym, ap, ap₂, ◌∙◌, subst, append_assoc, append-nil, arith, ne_eqb, eqb→eq, length-append, take-append-drop, drop_at}
use Rattle.std.proofs.Math.Dec.{eqb_refl}
use Rattle.codec.specs.Pick.{pick}
use Rattle.codec.specs.Line.{Line, Held, count}
use Rattle.codec.specs.Item.{Item, chained, single, lines_of}
use Rattle.codec.specs.Field.{first_flag, next_flags, uncons, flags, Contents}
use Rattle.codec.specs.Frame.{Outcome, accepted, refused}
use Rattle.codec.specs.Meaning.{len_of}
use Rattle.codec.specs.Printed.{same_text}
use Rattle.codec.proofs.Laws.Tests.{and_in, and_l, and_r}
use Rattle.papers.specs.Names.{text, Key, hidden, shown, angle, pressure, Named, names048, names021, names007, names_of}
use Rattle.papers.specs.Papers.{paper_of}
use Rattle.scope.specs.Angle.{udeg_of, left_of}
use Rattle.scope.specs.Pressure.{eq_int, tenths_of, sense_of}
use Rattle.scope.specs.Reading.{field_of}
use Rattle.scope.specs.Sheet.{digits_of, decimal, signed_decimal, key_line, number_text, numbers_text, lines_there, lines_text}
use Rattle.scope.specs.Sheet.{chain_text, item_text, row_text, items_text, refusal_text, field_text, sheet_of}
use Rattle.demands.proofs.Angles.{exact_angle}
use Rattle.demands.specs.Leftovers.{Nowhere, NotLast, LineKey, Coordinate, latitude, longitude, three_lines, Lines, none, angle as three, other}

-- ---- tests of a word, which the names of the papers are computed by

unfoldable lacks : ℕ → List ℕ → Bool
lacks c [] = true
lacks c (x ∷ xs) = not (eqb x c) && lacks c xs

unfoldable ends : List ℕ → List ℕ → Bool
ends s word = same_text (drop (length word - length s) word) s

apart : (b : Bool) → T b → T (not b) → ⊥
apart true t u = u
apart false t u = t

caught : (c : ℕ) (before behind : List ℕ) → T (lacks c (before ++ (c ∷ behind))) → ⊥
unfolding lacks
caught c [] behind t = apart (eqb c c) (eqb_refl c) (and_l (not (eqb c c)) _ t)
caught c (x ∷ before) behind t = caught c before behind (and_r (not (eqb x c)) _ t)

nowhere : (c : ℕ) (word : List ℕ) → T (lacks c word) → Nowhere (c ∷ []) word
nowhere c word t before behind e = caught c before behind (subst (λ w. T (lacks c w)) e t)

same_text_lem : (s : List ℕ) → T (same_text s s)
same_text_lem [] = tt
same_text_lem (x ∷ s) = and_in (eqb x x) (same_text s s) (eqb_refl x) (same_text_lem s)

ends_last : (s before : List ℕ) → T (ends s (before ++ s))
unfolding ends
ends_last s before =
    let n : length before ≡ length (before ++ s) - length s = omega (arith, length-append before s) in
    subst (λ w. T (same_text w s)) (sym (drop_at before s (length (before ++ s) - length s) n)) (same_text_lem s)

not_last : (s word : List ℕ) → T (not (ends s word)) → NotLast s word
not_last s word t before e = apart (ends s word) (subst (λ w. T (ends s w)) (sym e) (ends_last s before)) t

text_same : (xs ys : List ℕ) → T (same_text xs ys) → xs ≡ ys
text_same [] [] t = refl
text_same [] (y ∷ ys) t = absurd t
text_same (x ∷ xs) [] t = absurd t
text_same (x ∷ xs) (y ∷ ys) t = ap₂ ◌∷◌ (eqb→eq x y (and_l (eqb x y) _ t)) (text_same xs ys (and_r (eqb x y) _ t))

last_is : (s word : List ℕ) → T (ends s word) → take (length word - length s) word ++ s ≡ word
unfolding ends
last_is s word t =
    let n = length word - length s in
    ap (take n word ++◌) (sym (text_same (drop n word) s t)) ∙ take-append-drop n word

coordinate : (key : List ℕ) → T (ends (text ".LAT") key || ends (text ".LON") key) → Coordinate key
coordinate key t = go (ends (text ".LAT") key) refl t
  where
    go : (b : Bool) → ends (text ".LAT") key ≡ b → T (b || ends (text ".LON") key) → Coordinate key
    go true e u = subst Coordinate (last_is (text ".LAT") key (subst T (sym e) tt)) (latitude (take (length key - 4) key))
    go false e u = subst Coordinate (last_is (text ".LON") key u) (longitude (take (length key - 4) key))

lacks-append : (c : ℕ) (xs ys : List ℕ) → T (lacks c xs) → T (lacks c ys) → T (lacks c (xs ++ ys))
unfolding lacks
lacks-append c [] ys t u = u
lacks-append c (x ∷ xs) ys t u = and_in (not (eqb x c)) _ (and_l (not (eqb x c)) _ t) (lacks-append c xs ys (and_r (not (eqb x c)) _ t) u)

-- ---- a line

-- what a key must be, and what one must be that is no angle's
unfoldable keyed : List ℕ → Bool
unfolding lacks
keyed key = lacks 10 key && lacks 61 key

unfoldable plain : List ℕ → Bool
unfolding keyed ends
plain key = keyed key && (not (ends (text ".LAT") key) && (not (ends (text ".LON") key) && (not (ends (text ".udeg") key) && not (ends (text ".left") key))))

line_key : (key : List ℕ) → T (keyed key) → LineKey key
unfolding keyed
line_key key t = record { in_line = nowhere 10 key (and_l (lacks 10 key) _ t); before_sign = nowhere 61 key (and_r (lacks 10 key) _ t) }

lines_append : {xs ys : List ℕ} → Lines xs → Lines ys → Lines (xs ++ ys)
lines_append none b = b
lines_append {ys = ys} (three {key} {rest} n r l k c e a) b =
    subst Lines (sym (append_assoc (three_lines key n r l) rest ys)) (three n r l k c e (lines_append a b))
lines_append {ys = ys} (other {key} {value} {rest} k v p q u w a) b =
    subst Lines (sym (append_assoc (key_line key value) rest ys)) (other k v p q u w (lines_append a b))

line : (key value : List ℕ) → T (plain key) → T (lacks 10 value) → Lines (key_line key value)
unfolding plain
line key value t u =
    let a : T (not (ends (text ".LAT") key) && (not (ends (text ".LON") key) && (not (ends (text ".udeg") key) && not (ends (text ".left") key)))) = and_r (keyed key) _ t in
    let b = and_r (not (ends (text ".LAT") key)) _ a in
    let c = and_r (not (ends (text ".LON") key)) _ b in
    subst Lines (append-nil (key_line key value))
    (other (line_key key (and_l (keyed key) _ t)) (nowhere 10 value u) (not_last (text ".LAT") key (and_l (not (ends (text ".LAT") key)) _ a))
    (not_last (text ".LON") key (and_l (not (ends (text ".LON") key)) _ b)) (not_last (text ".udeg") key (and_l (not (ends (text ".udeg") key)) _ c))
    (not_last (text ".left") key (and_r (not (ends (text ".udeg") key)) _ c)) none)

-- ---- values have no line feed

digits_feed : (f n : ℕ) → T (lacks 10 (digits_of f n))
unfolding digits_of lacks
digits_feed zero n = tt
digits_feed (suc f) n = go (ltb n 10) (digits_feed f (n / 10))
  where
    one : (d : ℕ) → T (lacks 10 ((48 + d) ∷ []))
    one d = rw (ne_eqb (48 + d) 10 (λ e. omega arith)) tt

    go : (b : Bool) → T (lacks 10 (digits_of f (n / 10))) → T (lacks 10 (pick b ((48 + n) ∷ []) (digits_of f (n / 10) ++ ((48 + n % 10) ∷ []))))
    go true t = one n
    go false t = lacks-append 10 (digits_of f (n / 10)) ((48 + n % 10) ∷ []) t (one (n % 10))

decimal_feed : (n : ℕ) → T (lacks 10 (decimal n))
unfolding decimal
decimal_feed n = digits_feed 20 n

signed_feed : (z : ℤ) → T (lacks 10 (signed_decimal z))
unfolding signed_decimal lacks
signed_feed (pos n) = decimal_feed n
signed_feed (negsuc n) = decimal_feed (suc n)

sense_feed : (z : ℤ) → T (lacks 10 (sense_of z))
unfolding sense_of lacks
sense_feed z = go (eq_int z (pos 0)) (eq_int z (pos 4_095))
  where
    go : (a b : Bool) → T (lacks 10 (pick a (text "atmost") (pick b (text "atleast") (text "equal"))))
    go true b = tt
    go false true = tt
    go false false = tt

-- ---- the names of the papers

unfoldable fine_key : Key → Bool
unfolding keyed plain ends
fine_key hidden = true
fine_key (shown k) = plain k
fine_key (angle k) = keyed k && (ends (text ".LAT") k || ends (text ".LON") k)
fine_key (pressure k) = plain k && (plain (k ++ text ".tenths") && plain (k ++ text ".sense"))

unfoldable fine_keys : List Key → Bool
unfolding fine_key
fine_keys [] = true
fine_keys (k ∷ ks) = fine_key k && fine_keys ks

unfoldable fine_lines : List (List Key) → Bool
unfolding fine_keys
fine_lines [] = true
fine_lines (ks ∷ kss) = fine_keys ks && fine_lines kss

unfoldable fine_named : Named → Bool
unfolding fine_lines lacks plain
fine_named nm = lacks 10 nm.name && (plain (nm.name ++ text ".chain") && fine_lines nm.keys)

unfoldable fine_names : List Named → Bool
unfolding fine_named
fine_names [] = true
fine_names (nm ∷ nms) = fine_named nm && fine_names nms

fine_names_lem : (cat : ℕ) → T (fine_names (names_of cat))
unfolding fine_names names_of names048 names021 names007
fine_names_lem cat = go (eqb cat 48) (eqb cat 21) (eqb cat 7)
  where
    go : (a b c : Bool) → T (fine_names (pick a names048 (pick b names021 (pick c names007 []))))
    go true b c = tt
    go false true c = tt
    go false false true = tt
    go false false false = tt

-- ---- the lines of a number, of an item, of a sheet

number_lines : (k : Key) (z : ℤ) → T (fine_key k) → Lines (number_text k z)
unfolding number_text fine_key
number_lines hidden z t = none
number_lines (shown k) z t = line k (signed_decimal z) t (signed_feed z)
number_lines (angle k) z t =
    subst Lines (append-nil (three_lines k z (udeg_of z) (left_of z)))
    (three z (udeg_of z) (left_of z) (line_key k (and_l (keyed k) _ t)) (coordinate k (and_r (keyed k) _ t)) (exact_angle z) none)
number_lines (pressure k) z t =
    let u = and_r (plain k) _ t in
    lines_append (line k (signed_decimal z) (and_l (plain k) _ t) (signed_feed z))
    (lines_append (line (k ++ text ".tenths") (signed_decimal (tenths_of z)) (and_l (plain (k ++ text ".tenths")) _ u) (signed_feed (tenths_of z)))
    (line (k ++ text ".sense") (sense_of z) (and_r (plain (k ++ text ".tenths")) _ u) (sense_feed z)))

numbers_lines : (ks : List Key) (zs : List ℤ) → T (fine_keys ks) → Lines (numbers_text ks zs)
unfolding numbers_text fine_keys
numbers_lines [] zs t = none
numbers_lines (k ∷ ks) [] t = none
numbers_lines (k ∷ ks) (z ∷ zs) t = lines_append (number_lines k z (and_l (fine_key k) _ t)) (numbers_lines ks zs (and_r (fine_key k) _ t))

pick_lines : (b : Bool) {xs : List ℕ} → Lines xs → Lines (pick b xs [])
pick_lines true a = a
pick_lines false a = none

lines_lines : (ts : List Bool) (kss : List (List Key)) (ls : List Line) (zs : List ℤ) → T (fine_lines kss) → Lines (lines_text ts kss ls zs)
unfolding lines_text fine_lines
lines_lines [] kss ls zs t = none
lines_lines (b ∷ ts) [] ls zs t = none
lines_lines (b ∷ ts) (ks ∷ kss) [] zs t = none
lines_lines (b ∷ ts) (ks ∷ kss) (l ∷ ls) zs t =
    lines_append (pick_lines b (numbers_lines ks (take (count l.pieces) zs) (and_l (fine_keys ks) _ t)))
    (lines_lines ts kss ls (drop (count l.pieces) zs) (and_r (fine_keys ks) _ t))

chain_lines : (it : Item) (nm : Named) (n : ℕ) → T (plain (nm.name ++ text ".chain")) → Lines (chain_text it nm n)
unfolding chain_text
chain_lines (chained p [] ss) nm n t = none
chain_lines (chained p (q ∷ qs) ss) nm n t = line (nm.name ++ text ".chain") (decimal n) t (decimal_feed n)
chain_lines (single l) nm n t = none

row_lines : (ds : List ℕ) (its : List Item) (nms : List Named) (vs : List Held) → T (fine_names nms) → Lines (row_text ds its nms vs)
unfolding row_text item_text fine_names fine_named
row_lines ds [] nms vs t = none
row_lines ds (it ∷ its) [] vs t = none
row_lines ds (it ∷ its) (nm ∷ nms) vs t =
    let v : Held = (uncons vs).0 in
    let keys : T (plain (nm.name ++ text ".chain") && fine_lines nm.keys) = and_r (lacks 10 nm.name) _ (and_l (fine_named nm) _ t) in
    lines_append (pick_lines (eqb (first_flag ds) 1)
    (lines_append (chain_lines it nm v.0 (and_l (plain (nm.name ++ text ".chain")) _ keys))
    (lines_lines (lines_there it v) nm.keys (lines_of it) v.1 (and_r (plain (nm.name ++ text ".chain")) _ keys))))
    (row_lines (next_flags ds) its nms (uncons vs).1 (and_r (fine_named nm) _ t))

items_feed : (comma ds : List ℕ) (nms : List Named) → T (lacks 10 comma) → T (fine_names nms) → T (lacks 10 (items_text comma ds nms))
unfolding items_text fine_names fine_named lacks
items_feed comma ds [] c t = tt
items_feed comma ds (nm ∷ nms) c t =
    go (eqb (first_flag ds) 1) (and_l (lacks 10 nm.name) _ (and_l (fine_named nm) _ t)) (items_feed (text ",") (next_flags ds) nms tt (and_r (fine_named nm) _ t)) (items_feed comma (next_flags ds) nms c (and_r (fine_named nm) _ t))
  where
    rest : List ℕ → List ℕ
    rest x = items_text x (next_flags ds) nms

    go : (b : Bool) → T (lacks 10 nm.name) → T (lacks 10 (rest (text ","))) → T (lacks 10 (rest comma)) → T (lacks 10 (pick b (comma ++ (nm.name ++ rest (text ","))) (rest comma)))
    go true n x y = lacks-append 10 comma (nm.name ++ rest (text ",")) c (lacks-append 10 nm.name (rest (text ",")) n x)
    go false n x y = y

refusal_lines_lem : (n q : ℕ) → Lines (refusal_text n q)
unfolding refusal_text plain
refusal_lines_lem n q = lines_append (line (text "refused") (decimal n) tt (decimal_feed n)) (line (text "at") (decimal q) tt (decimal_feed q))

field_lines : (cat : ℕ) (s : List ℕ) (o : Outcome Contents) → Lines (field_text cat s o)
unfolding field_text plain lacks
field_lines cat s (refused n q) = refusal_lines_lem n q
field_lines cat s (accepted r) =
    lines_append (line (text "len") (decimal (len_of s)) tt (decimal_feed (len_of s)))
    (lines_append (line (text "items") (items_text [] (flags r.0) (names_of cat)) tt (items_feed [] (flags r.0) (names_of cat) tt (fine_names_lem cat)))
    (lines_append (row_lines (flags r.0) (paper_of cat) (names_of cat) r.1 (fine_names_lem cat)) (line (text "end") (text "ok") tt tt)))

pub sheet_lines : (s : List ℕ) → Lines (sheet_of s)
unfolding sheet_of plain lacks
sheet_lines [] = lines_append (line (text "cat") (text "none") tt tt) (refusal_lines_lem 2 0)
sheet_lines (cat ∷ s) = lines_append (line (text "cat") (decimal cat) tt (decimal_feed cat)) (field_lines cat s (field_of cat s))
