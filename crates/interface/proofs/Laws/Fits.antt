-- Every place and every length that an operation answers has room in the word: those of fields are below 256.
use Rattle.std.specs.Prelude.{◌≡◌, refl, Bool, true, false, ◌&&◌, List, [], ◌∷◌, ℕ, ◌+◌, ◌-◌, ◌≤◌, ◌<◌, T, eqb, ltb, leb, ℤ, length, take, drop}
use Rattle.std.proofs.Common.{sym, ap, ◌∙◌, subst, zero-le, arith, leb→le, ltb→lt}
use Rattle.codec.specs.Pick.{pick}
use Rattle.codec.specs.Codec.{Octets}
use Rattle.codec.specs.Item.{Item}
use Rattle.codec.specs.Field.{Contents, body}
use Rattle.codec.specs.Frame.{Outcome, accepted, refused, read_frame, write_frame, okay_frame}
use Rattle.codec.specs.Meaning.{len_of}
use Rattle.codec.specs.Change.{Change, remove, put, alone, put_in, change}
use Rattle.codec.proofs.Laws.Change.{new_octets}
use Rattle.codec.proofs.Laws.Tests.{and_l, and_r}
use Rattle.codec.proofs.Laws.Within.{PlaceTo, within_body, frame_place}
use Rattle.codec.proofs.Laws.Longest.{field_size}
use Rattle.papers.specs.Papers.{known, paper_of, items_of}
use Rattle.papers.proofs.Laws.Papers.{few_octets}
use Rattle.layout.specs.declared.Record.{Record}
use Rattle.layout.specs.Answer.{Reading, Answer, Accepted, Refused, View, Shown, Hidden, Choice, place_of, length_of, view_place, view_length}
use Rattle.layout.specs.declared.Which.TheVariants.{Neither, Base, Correction}
use Rattle.layout.specs.Record.{contents}
use Rattle.scope.specs.Reading.{field_of, read_of}
use Rattle.scope.specs.Writing.{writable, written, write_of}
use Rattle.scope.specs.Outputs.{with_room, answer_of}
use Rattle.scope.specs.Sheet.{sheet_of}
use Rattle.scope.specs.Views.{is_item, present, standing, view_in, view_of, choose_in, choose_of}
use Rattle.scope.specs.Desk.{listed, afresh, edit_in, edit_of}
use Rattle.scope.specs.Visitors.{without, copy_in, copy_of}
use Rattle.scope.proofs.Laws.Reading.{read_found}
use Rattle.scope.proofs.Laws.Refusals.{place_within}
use Rattle.scope.proofs.Laws.Views.{view_inside}
use Rattle.scope.proofs.Laws.Edits.{edit_found, edited_octets, edit_afresh}
use Rattle.longest.proofs.Laws.Longest.{sheet_longest}
use Rattle.interface.specs.Packed.{Fit}
use Rattle.interface.specs.Arrays.{PLACES, are_octets, of_array, fill_answer, write_array}

-- what fits of an answer, of a view, of an outcome
abbrev pub FitAnswer : Answer → Type 0
FitAnswer a = Fit (place_of a) (length_of a)

abbrev pub FitView : View → Type 0
FitView v = Fit (view_place v) (view_length v)

len_octet : (s : List ℕ) → Octets s → len_of s < 256
unfolding len_of
len_octet [] o = omega arith
len_octet (x ∷ s) o = ltb→lt x 256 (and_l (ltb x 256) _ o)

-- ---- reading

pub read_fits : (cat : ℕ) (s : List ℕ) → Octets s → FitAnswer (read_of cat s).answer
unfolding place_of length_of
read_fits cat s o = go (read_of cat s).answer refl
  where
    small : len_of s < 256
    small = len_octet s o

    go : (a : Answer) → (read_of cat s).answer ≡ a → FitAnswer a
    go (Accepted n) e = let h : n ≡ len_of s = (read_found cat s n e).len_is in (omega arith, omega (arith, small))
    go (Refused n p) e = let h : p ≤ len_of s = place_within cat s n p e in (omega (arith, small), omega arith)

pub fill_fits : (room : ℕ) (a : Answer) → FitAnswer a → FitAnswer (fill_answer room a)
unfolding fill_answer place_of length_of
fill_fits room (Refused n p) f = f
fill_fits room (Accepted n) f = go (eqb room PLACES)
  where
    go : (b : Bool) → FitAnswer (pick b (Accepted n) (Refused 11 0))
    go true = f
    go false = (omega arith, omega arith)

-- ---- writing

-- an output's answer, by its outcome
FitOutcome : Outcome (List ℕ) → Type 0
FitOutcome (accepted b) = length b < 256
FitOutcome (refused n p) = p < 256

outcome_fits : (o : Outcome (List ℕ)) → FitOutcome o → FitAnswer (answer_of o)
unfolding FitOutcome answer_of place_of length_of
outcome_fits (accepted b) h = (omega arith, omega arith)
outcome_fits (refused n p) h = (omega arith, omega arith)

pick_fits : (b : Bool) (o q : Outcome (List ℕ)) → (b ≡ true → FitOutcome o) → FitOutcome q → FitOutcome (pick b o q)
pick_fits true o q f g = f refl
pick_fits false o q f g = g

room_fits : (room : ℕ) (b : List ℕ) → length b < 256 → FitOutcome (with_room room b)
unfolding with_room FitOutcome
room_fits room b h = pick_fits (leb (length b) room) (accepted b) (refused 11 0) (λ _. h) (omega arith)

written_short : (f : Record) → writable f ≡ true → length (written f) < 256
unfolding writable written okay_frame write_frame
written_short f e =
    let c = contents f.cat in
    let t : T (okay_frame c f) = subst T (sym e) tt in
    let h : length (c.write f) ≤ 254 = leb→le (length (c.write f)) 254 (and_r (leb 1 (length (c.write f))) _ (and_r (c.okay f) _ t)) in
    omega arith

write_outcome : (f : Record) (room : ℕ) → FitOutcome (write_of f room)
unfolding write_of FitOutcome
write_outcome f room =
    pick_fits (known f.cat) (pick (writable f) (with_room room (written f)) (refused 10 0)) (refused 1 0)
    (λ _. pick_fits (writable f) (with_room room (written f)) (refused 10 0) (λ e. room_fits room (written f) (written_short f e)) (omega arith)) (omega arith)

pub write_fits : (a : List ℤ) (room : ℕ) → FitAnswer (answer_of (write_array a room))
unfolding write_array FitOutcome
write_fits a room =
    let f : Record = of_array a in
    let o : Outcome (List ℕ) = pick (are_octets (take 9 (drop 1 a))) (write_of f room) (refused 10 0) in
    outcome_fits (write_array a room)
    (pick_fits (eqb (length a) PLACES) (pick (known f.cat) o (refused 1 0)) (refused 10 0)
    (λ _. pick_fits (known f.cat) o (refused 1 0)
    (λ _. pick_fits (are_octets (take 9 (drop 1 a))) (write_of f room) (refused 10 0) (λ _. write_outcome f room) (omega arith)) (omega arith)) (omega arith))

-- ---- views

field_place : (cat : ℕ) (s : List ℕ) → PlaceTo (len_of s) (field_of cat s)
unfolding field_of
field_place cat s = go (known cat)
  where
    go : (b : Bool) → PlaceTo (len_of s) (pick b (read_frame (body (paper_of cat)) s) (refused 1 0))
    go true = frame_place (body (paper_of cat)) (within_body (paper_of cat)) s
    go false = zero-le

Hidden-place : {n p e q : ℕ} → Hidden n p ≡ Hidden e q → p ≡ q
Hidden-place h = cc

hidden_place : (its : List Item) (item n : ℕ) (o : Outcome Contents) → PlaceTo n o → {e p : ℕ} → view_in its item o ≡ Hidden e p → p ≤ n
unfolding view_in standing
hidden_place its item n (refused m q) h g = subst (◌≤ n) (Hidden-place g) h
hidden_place its item n (accepted r) h {e} {p} g = go (is_item its item) (present r item) g
  where
    go : (x y : Bool) → pick x (pick y (standing its r item) (Hidden 15 0)) (Hidden 12 0) ≡ Hidden e p → p ≤ n
    go true true k = let z : ◌≡◌ {A = ℕ} 0 1 = cc in absurd (omega arith)
    go true false k = subst (◌≤ n) (Hidden-place k) zero-le
    go false y k = subst (◌≤ n) (Hidden-place k) zero-le

pub view_fits : (cat : ℕ) (s : List ℕ) → Octets s → (item : ℕ) → FitView (view_of cat s item)
unfolding view_place view_length view_of
view_fits cat s o item = go (view_of cat s item) refl
  where
    small : len_of s < 256
    small = len_octet s o

    place : {e p : ℕ} → view_of cat s item ≡ Hidden e p → p ≤ len_of s
    place h = hidden_place (paper_of cat) item (len_of s) (field_of cat s) (field_place cat s) h

    go : (v : View) → view_of cat s item ≡ v → FitView v
    go (Shown a m) e = let h : a + m ≤ len_of s = (view_inside cat s o item a m e).1 in (omega (arith, small), omega (arith, small))
    go (Hidden n p) e = let h : p ≤ len_of s = place e in (omega (arith, small), omega arith)

-- a choice shows what the view of one of the two fields shows, or is refused as one of them is
chosen_fits : (its : List Item) (item : ℕ) (k : Bool) (o u : Outcome Contents) → FitView (view_in its item (pick k o (refused 1 0))) → FitView (view_in its item (pick k u (refused 1 0)))
    → FitView (pick {X = Choice} k (choose_in its item o u) (record { which = Neither; view = Hidden 1 0 })).view
unfolding view_in choose_in standing
chosen_fits its item false o u f g = f
chosen_fits its item true (refused n p) u f g = f
chosen_fits its item true (accepted r) (refused n p) f g = g
chosen_fits its item true (accepted r) (accepted q) f g = go (is_item its item) (present q item) (present r item) f g
  where
    go : (x y z : Bool) → FitView (pick x (pick z (standing its r item) (Hidden 15 0)) (Hidden 12 0)) → FitView (pick x (pick y (standing its q item) (Hidden 15 0)) (Hidden 12 0))
        → FitView (pick {X = Choice} x (pick y (record { which = Correction; view = standing its q item }) (pick z (record { which = Base; view = standing its r item }) (record { which = Neither; view = Hidden 15 0 }))) (record { which = Neither; view = Hidden 12 0 })).view
    go true true z a b = b
    go true false true a b = a
    go true false false a b = a
    go false y z a b = a

pub choose_fits : (cat : ℕ) (b c : List ℕ) → Octets b → Octets c → (item : ℕ) → FitView (choose_of cat b c item).view
unfolding choose_of view_of field_of
choose_fits cat b c ob oc item =
    chosen_fits (paper_of cat) item (known cat) (read_frame (body (paper_of cat)) b) (read_frame (body (paper_of cat)) c) (view_fits cat b ob item) (view_fits cat c oc item)

-- ---- edits

Refused-place : {A : Type 0} {n p e q : ℕ} → ◌≡◌ {A = Outcome A} (refused n p) (refused e q) → p ≡ q
Refused-place h = cc

accepted≢refused : {A X : Type 0} {x : A} {n p : ℕ} → accepted x ≡ refused n p → X
accepted≢refused h = let z : ◌≡◌ {A = ℕ} 0 1 = cc in absurd (omega arith)

change_place : (its : List Item) (i : ℕ) (ch : Change) (r : Contents) {n p : ℕ} → change its i ch r ≡ refused n p → p ≡ 0
unfolding change put_in
change_place its i remove r e = accepted≢refused e
change_place its i (put t) r {n} {p} e = go (leb 1 (length t) && leb (length t) 253) (read_frame (body its) (alone i t)) e
  where
    go : (b : Bool) (o : Outcome Contents) → put_in i r b o ≡ refused n p → p ≡ 0
    go false o h = sym (Refused-place h)
    go true (refused m q) h = sym (Refused-place h)
    go true (accepted q) h = accepted≢refused h

edit_place : (its : List Item) (list item : ℕ) (ch : Change) (room len : ℕ) (o : Outcome Contents) → PlaceTo len o → {n p : ℕ} → edit_in its list item ch room o ≡ refused n p → p ≤ len
unfolding edit_in afresh with_room
edit_place its list item ch room len (refused m q) h g = subst (◌≤ len) (Refused-place g) h
edit_place its list item ch room len (accepted r) h {n} {p} g = go (is_item its item) (listed list item) g
  where
    roomy : (x : Bool) (b : List ℕ) → pick x (accepted b) (refused 11 0) ≡ refused n p → p ≤ len
    roomy true b k = accepted≢refused k
    roomy false b k = subst (◌≤ len) (Refused-place k) zero-le

    fresh : (q : Outcome Contents) → change its (item - 1) ch r ≡ q → afresh its room q ≡ refused n p → p ≤ len
    fresh (refused m q) e k = subst (◌≤ len) (sym (change_place its (item - 1) ch r e) ∙ Refused-place k) zero-le
    fresh (accepted q) e k = roomy (leb (length (write_frame (body its) q)) room) (write_frame (body its) q) k

    go : (x y : Bool) → pick x (pick y (afresh its room (change its (item - 1) ch r)) (refused 13 0)) (refused 12 0) ≡ refused n p → p ≤ len
    go true true k = fresh (change its (item - 1) ch r) refl k
    go true false k = subst (◌≤ len) (Refused-place k) zero-le
    go false y k = subst (◌≤ len) (Refused-place k) zero-le

pub edit_fits : (cat : ℕ) (s : List ℕ) (list item : ℕ) (ch : Change) (room : ℕ) → Octets s → Octets (new_octets ch) → FitAnswer (answer_of (edit_of cat s list item ch room))
unfolding FitOutcome edit_of
edit_fits cat s list item ch room os on = outcome_fits (edit_of cat s list item ch room) (go (edit_of cat s list item ch room) refl)
  where
    go : (o : Outcome (List ℕ)) → edit_of cat s list item ch room ≡ o → FitOutcome o
    go (accepted b) e =
        let d = edit_found cat s list item ch room b e in
        let l : length b ≡ len_of b = (read_found cat b (length b) (ap (λ (r : Reading). r.answer) (edit_afresh os on d).1)).len_is in
        let h : len_of b < 256 = len_octet b (edited_octets os on d) in
        omega arith
    go (refused n p) e =
        let h : p ≤ len_of s = edit_place (paper_of cat) list item ch room (len_of s) (field_of cat s) (field_place cat s) e in
        let l : len_of s < 256 = len_octet s os in
        omega arith

-- ---- copies

pub copy_fits : (cat : ℕ) (s : List ℕ) (withheld room : ℕ) → Octets s → FitAnswer (answer_of (copy_of cat s withheld room))
unfolding FitOutcome copy_of copy_in
copy_fits cat s withheld room os = outcome_fits (copy_of cat s withheld room) (go (field_of cat s) (field_place cat s))
  where
    go : (o : Outcome Contents) → PlaceTo (len_of s) o → FitOutcome (copy_in (paper_of cat) withheld room o)
    go (refused n p) h = omega (arith, h, len_octet s os)
    go (accepted r) h =
        let q : Contents = without (paper_of cat) withheld (items_of cat) r in
        room_fits room (write_frame (body (paper_of cat)) q) (omega (arith, field_size (paper_of cat) q, few_octets cat))

-- ---- sheets: the longest is longer than a field, and fits too

pub sheet_fits : (s : List ℕ) → Octets s → (room : ℕ) → FitAnswer (answer_of (with_room room (sheet_of s)))
unfolding with_room answer_of place_of length_of
sheet_fits s o room = go (leb (length (sheet_of s)) room)
  where
    go : (b : Bool) → FitAnswer (answer_of (pick b (accepted (sheet_of s)) (refused 11 0)))
    go true = (omega arith, omega (arith, sheet_longest s o))
    go false = (omega arith, omega arith)
