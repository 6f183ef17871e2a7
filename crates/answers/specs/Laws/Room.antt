-- Every answer has room in the buffer of 4,096 octets, so that what was typed is the answer, whole.
use Rattle.std.specs.Prelude.{◌≡◌, refl, Bool, true, false, List, [], ◌∷◌, ◌++◌, ℕ, ◌-◌, ◌≤◌, ◌<◌, leb, ltb, eqb, length, take, drop}
use Rattle.std.proofs.Common.{sym, ap, ◌∙◌, arith, leb-true, lt-ltb, ltb-true, ltb-false, ltb→lt, length-append, length-take, take_all}
use Rattle.codec.specs.Pick.{pick}
use Rattle.codec.specs.Codec.{Octets}
use Rattle.codec.specs.Frame.{Outcome, accepted, refused, read_frame, write_frame}
use Rattle.codec.specs.Field.{Contents, body}
use Rattle.codec.specs.Change.{Change, remove, put, change}
use Rattle.codec.specs.Meaning.{len_of}
use Rattle.codec.proofs.Laws.Tests.{and_l}
use Rattle.codec.proofs.Laws.Codec.{octets_cons}
use Rattle.papers.specs.Papers.{known, paper_of, items_of}
use Rattle.layout.specs.Answer.{Answer, Accepted, Refused, View, Shown, Hidden, which_number}
use Rattle.layout.specs.declared.Record.{Record}
use Rattle.layout.specs.declared.Which.TheVariants.{Neither, Base, Correction}
use Rattle.scope.specs.Reading.{read_of, field_of}
use Rattle.scope.specs.Outputs.{with_room}
use Rattle.scope.specs.Writing.{writable, written, write_of}
use Rattle.scope.specs.Sheet.{sheet_of}
use Rattle.scope.specs.Views.{is_item, present, standing, view_in, view_of, part_of, choose_in, choose_of, side_of, chosen_of}
use Rattle.scope.specs.Desk.{listed as onList, afresh, edit_in, edit_of}
use Rattle.scope.specs.Visitors.{without, copy_in, copy_of}
use Rattle.scope.proofs.Laws.Views.{view_inside}
use Rattle.longest.specs.Longest.{longest_sheet}
use Rattle.text.specs.Typing.{Types}
use Rattle.text.specs.Laws.Typing.{typed_front}
use Rattle.longest.proofs.Laws.Longest.{sheet_longest}
use Rattle.words.specs.Numbers.{value_in}
use Rattle.words.specs.Laws.Numbers.{value_most}
use Rattle.guess.specs.Guess.{rebuild_of}
use Rattle.guess.proofs.Laws.Rebuilt.{rebuilt_few}
use Rattle.hex_words.specs.Octets.{is_octets, octet_of, octets_of, octets_in, list_in}
use Rattle.protocol.specs.Line.{words_of, nth}
use Rattle.protocol.specs.Forms.{Judged, Asks, Wrong, parse_of}
use Rattle.protocol.specs.Record.{record_in}
use Rattle.replies.specs.Texts.{bad_request, output_text, reading_text, choice_text}
use Rattle.answers.specs.Laws.Texts.{bad_most, refusal_most, view_most, choice_most, read_most, output_most, given_most, sheet_most}
use Rattle.answers.specs.Answers.{listed, read_answer, write_answer, sheet_answer, view_answer, choose_answer, remove_answer, replace_answer, copy_answer, rebuild_answer, asked, said, answer_of}

-- ---- what an operation puts into an output of at most 300 octets

abbrev AtMost : ℕ → Outcome (List ℕ) → Type 0
AtMost room o = (b : List ℕ) → o ≡ accepted b → length b ≤ room

refused_most : (room n p : ℕ) → AtMost room (refused n p)
refused_most room n p b e = let z : ◌≡◌ {A = ℕ} 0 1 = cc in absurd (omega arith)

same_octets : {b c : List ℕ} → ◌≡◌ {A = Outcome (List ℕ)} (accepted b) (accepted c) → b ≡ c
same_octets e = cc

with_room_lem : (room : ℕ) (c : List ℕ) → AtMost room (with_room room c)
unfolding with_room
with_room_lem room c = by_room (leb (length c) room) refl
  where
    by_room : (t : Bool) → leb (length c) room ≡ t → AtMost room (pick t (accepted c) (refused 11 0))
    by_room true u b e = omega (arith, leb-true (length c) room u, ap length (same_octets e))
    by_room false u b e = refused_most room 11 0 b e

write_most : (f : Record) (room : ℕ) → AtMost room (write_of f room)
unfolding write_of
write_most f room = by-known (known f.cat) (writable f)
  where
    by-known : (k w : Bool) → AtMost room (pick k (pick w (with_room room (written f)) (refused 10 0)) (refused 1 0))
    by-known true true = with_room_lem room (written f)
    by-known true false = refused_most room 10 0
    by-known false w = refused_most room 1 0

edit_most : (cat : ℕ) (s : List ℕ) (list item : ℕ) (ch : Change) (room : ℕ) → AtMost room (edit_of cat s list item ch room)
unfolding edit_of edit_in afresh
edit_most cat s list item ch room = by_field (field_of cat s)
  where
    by_change : (o : Outcome Contents) → AtMost room (afresh (paper_of cat) room o)
    by_change (accepted r) = with_room_lem room (write_frame (body (paper_of cat)) r)
    by_change (refused n p) = refused_most room n p

    by_tests : (i j : Bool) (o : Outcome (List ℕ)) → AtMost room o → AtMost room (pick i (pick j o (refused 13 0)) (refused 12 0))
    by_tests true true o h = h
    by_tests true false o h = refused_most room 13 0
    by_tests false j o h = refused_most room 12 0

    by_field : (o : Outcome Contents) → AtMost room (edit_in (paper_of cat) list item ch room o)
    by_field (refused n p) = refused_most room n p
    by_field (accepted r) = by_tests (is_item (paper_of cat) item) (onList list item) (afresh (paper_of cat) room (change (paper_of cat) (item - 1) ch r)) (by_change (change (paper_of cat) (item - 1) ch r))

copy_most : (cat : ℕ) (s : List ℕ) (withheld room : ℕ) → AtMost room (copy_of cat s withheld room)
unfolding copy_of copy_in
copy_most cat s withheld room = by_field (field_of cat s)
  where
    by_field : (o : Outcome Contents) → AtMost room (copy_in (paper_of cat) withheld room o)
    by_field (refused n p) = refused_most room n p
    by_field (accepted r) = with_room_lem room (write_frame (body (paper_of cat)) (without (paper_of cat) withheld (items_of cat) r))

-- ---- the octets that a word writes are octets

octet_small : (a b : ℕ) → octet_of a b < 256
unfolding octet_of
octet_small a b = omega arith

octets_small : (w : List ℕ) → Octets (octets_of w)
unfolding octets_of
octets_small [] = tt
octets_small (a ∷ []) = tt
octets_small (a ∷ b ∷ w) = octets_cons (octet_of a b) (octets_of w) (octet_small a b) (octets_small w)

field_octets : (w : List ℕ) → Octets (octets_in w)
unfolding octets_in
field_octets w = by_form (is_octets w)
  where
    by_form : (b : Bool) → Octets (pick b (octets_of w) [])
    by_form true = octets_small w
    by_form false = tt

-- ---- an item's part lies in its field, before LEN

len_small : (s : List ℕ) → Octets s → len_of s ≤ 255
unfolding len_of
len_small [] o = omega arith
len_small (len ∷ t) o = omega (arith, ltb→lt len 256 (and_l (ltb len 256) _ o))

part_most : (cat : ℕ) (s : List ℕ) → Octets s → (item : ℕ) (v : View) → view_of cat s item ≡ v → length (part_of s v) ≤ 255
unfolding part_of
part_most cat s o item (Shown a m) e = omega (arith, length-take m (drop a s), (view_inside cat s o item a m e).1, len_small s o)
part_most cat s o item (Hidden n p) e = omega arith

chosen_most : (cat : ℕ) (f g : List ℕ) → Octets f → Octets g → (item : ℕ) → length (chosen_of f g (choose_of cat f g item)) ≤ 255
unfolding choose_of choose_in chosen_of side_of part_of view_of view_in field_of
chosen_most cat f g of og item = by-known (known cat) refl
  where
    stands : (s : List ℕ) → Octets s → known cat ≡ true → (r : Contents) → read_frame (body (paper_of cat)) s ≡ accepted r → is_item (paper_of cat) item ≡ true → present r item ≡ true
        → length (part_of s (standing (paper_of cat) r item)) ≤ 255
    stands s o k r e i j = part_most cat s o item (standing (paper_of cat) r item) (rw (k, e, i, j) refl)

    by_items : known cat ≡ true → (r q : Contents) → read_frame (body (paper_of cat)) f ≡ accepted r → read_frame (body (paper_of cat)) g ≡ accepted q
        → (i j l : Bool) → is_item (paper_of cat) item ≡ i → present q item ≡ j → present r item ≡ l
        → length (chosen_of f g (pick i (pick j (record { which = Correction; view = standing (paper_of cat) q item }) (pick l (record { which = Base; view = standing (paper_of cat) r item }) (record { which = Neither; view = Hidden 15 0 }))) (record { which = Neither; view = Hidden 12 0 }))) ≤ 255
    by_items k r q er eq true true l ei ej el = stands g og k q eq ei ej
    by_items k r q er eq true false true ei ej el = stands f of k r er ei el
    by_items k r q er eq true false false ei ej el = omega arith
    by_items k r q er eq false j l ei ej el = omega arith

    by_fields : known cat ≡ true → (x y : Outcome Contents) → read_frame (body (paper_of cat)) f ≡ x → read_frame (body (paper_of cat)) g ≡ y → length (chosen_of f g (choose_in (paper_of cat) item x y)) ≤ 255
    by_fields k (refused n p) y ex ey = omega arith
    by_fields k (accepted r) (refused n p) ex ey = omega arith
    by_fields k (accepted r) (accepted q) ex ey = by_items k r q ex ey (is_item (paper_of cat) item) (present q item) (present r item) refl refl refl

    by-known : (k : Bool) → known cat ≡ k
        → length (chosen_of f g (pick k (choose_in (paper_of cat) item (read_frame (body (paper_of cat)) f) (read_frame (body (paper_of cat)) g)) (record { which = Neither; view = Hidden 1 0 }))) ≤ 255
    by-known true e = by_fields e (read_frame (body (paper_of cat)) f) (read_frame (body (paper_of cat)) g) refl refl
    by-known false e = omega arith

-- ---- requests

listed_most : (a : Answer) (lines : List ℕ) → length lines ≤ longest_sheet → length (listed a lines) ≤ 2_000
unfolding listed
listed_most (Accepted n) lines h = omega (arith, sheet_most lines)
listed_most (Refused n p) lines h = omega (arith, refusal_most n p)

module _ (word : ℕ → List ℕ) where
  read_answer_most : length (read_answer word) ≤ 2_000
  unfolding read_answer reading_text
  read_answer_most = let r = read_of (value_in 255 (word 1)) (octets_in (word 2)) in read_most r.answer r.kept

  sheet_answer_most : length (sheet_answer word) ≤ 2_000
  unfolding sheet_answer
  sheet_answer_most =
      let cat = value_in 255 (word 1) in
      let field = octets_in (word 2) in
      listed_most (read_of cat field).answer (sheet_of (cat ∷ field)) (sheet_longest (cat ∷ field) (octets_cons cat field (omega (arith, value_most 255 (word 1))) (field_octets (word 2))))

  view_answer_most : length (view_answer word) ≤ 2_000
  unfolding view_answer
  view_answer_most =
      let f = octets_in (word 2) in
      let v = view_of (value_in 255 (word 1)) f (value_in 255 (word 3)) in
      omega (arith, view_most v (part_of f v) (omega (arith, part_most (value_in 255 (word 1)) f (field_octets (word 2)) (value_in 255 (word 3)) v refl)))

  choose_answer_most : length (choose_answer word) ≤ 2_000
  unfolding choose_answer choice_text
  choose_answer_most =
      let f = octets_in (word 2) in
      let g = octets_in (word 3) in
      let c = choose_of (value_in 255 (word 1)) f g (value_in 255 (word 4)) in
      omega (arith, choice_most (which_number c.which) c.view (chosen_of f g c) (omega (arith, chosen_most (value_in 255 (word 1)) f g (field_octets (word 2)) (field_octets (word 3)) (value_in 255 (word 4)))))

  output_room : (w : List ℕ) (o : Outcome (List ℕ)) → AtMost (value_in 300 w) o → length (output_text o) ≤ 2_000
  output_room w o h = omega (arith, output_most o (λ b e. omega (arith, h b e, value_most 300 w)))

  remove_answer_most : length (remove_answer word) ≤ 2_000
  unfolding remove_answer
  remove_answer_most = output_room (word 5) _ (edit_most (value_in 255 (word 1)) (octets_in (word 2)) (list_in (word 3)) (value_in 255 (word 4)) remove (value_in 300 (word 5)))

  replace_answer_most : length (replace_answer word) ≤ 2_000
  unfolding replace_answer
  replace_answer_most =
      output_room (word 6) _ (edit_most (value_in 255 (word 1)) (octets_in (word 2)) (list_in (word 3)) (value_in 255 (word 4)) (put (octets_in (word 5))) (value_in 300 (word 6)))

  copy_answer_most : length (copy_answer word) ≤ 2_000
  unfolding copy_answer
  copy_answer_most = output_room (word 4) _ (copy_most (value_in 255 (word 1)) (octets_in (word 2)) (list_in (word 3)) (value_in 300 (word 4)))

  rebuild_answer_most : length (rebuild_answer word) ≤ 2_000
  unfolding rebuild_answer
  rebuild_answer_most = given_most (rebuild_of (octets_in (word 1)) (value_in 300 (word 2))) (rebuilt_few (octets_in (word 1)) (value_in 300 (word 2))).octets

  write_answer_most : (from : ℕ → List (List ℕ)) → length (write_answer word from) ≤ 2_000
  unfolding write_answer
  write_answer_most from = output_room (word 1) _ (write_most (record_in (from 2)) (value_in 300 (word 1)))

either_most : (t : Bool) (x y : List ℕ) → length x ≤ 2_000 → length y ≤ 2_000 → length (pick t x y) ≤ 2_000
either_most true x y h k = h
either_most false x y h k = k

asked_most : (q : ℕ) (word : ℕ → List ℕ) (from : ℕ → List (List ℕ)) → length (asked q word from) ≤ 2_000
unfolding asked
asked_most q word from =
    either_most (eqb q 0) _ _ (read_answer_most word)
    (either_most (eqb q 1) _ _ (write_answer_most word from)
    (either_most (eqb q 2) _ _ (sheet_answer_most word)
    (either_most (eqb q 3) _ _ (view_answer_most word)
    (either_most (eqb q 4) _ _ (choose_answer_most word)
    (either_most (eqb q 5) _ _ (remove_answer_most word)
    (either_most (eqb q 6) _ _ (replace_answer_most word)
    (either_most (eqb q 7) _ _ (copy_answer_most word)
    (either_most (eqb q 8) _ _ (rebuild_answer_most word) (omega (arith, bad_most 1))))))))))

said_most : (j : Judged) (word : ℕ → List ℕ) (from : ℕ → List (List ℕ)) → length (said j word from) ≤ 2_000
unfolding said
said_most (Asks q) word from = asked_most q word from
said_most (Wrong n) word from = omega (arith, bad_most n)

pub answer_most : (line : List ℕ) → length (answer_of line) ≤ 4_096
unfolding answer_of
answer_most line =
    let j = (parse_of line).judged in
    let t = said j (nth (words_of line)) (λ k. drop k (words_of line)) in
    omega (arith, length-append t (10 ∷ []), said_most j (nth (words_of line)) (λ k. drop k (words_of line)))

-- so what `answer` leaves in front of the buffer is the answer, and nothing of it is left out
pub answer_whole : (line : List ℕ) {l m : List ℕ} {next : ℕ} → length l ≡ 4_096 → Types (answer_of line) l 0 m next → (next ≡ length (answer_of line)) × (take next m ≡ answer_of line)
answer_whole line k t = typed_front (answer_of line) (answer_most line) k t

-- ---- of a line that is too long its first octets are enough

too_long : (line : List ℕ) → 16_384 < length line → answer_of line ≡ bad_request 0 ++ (10 ∷ [])
unfolding answer_of parse_of said
too_long line h = rw (lt-ltb 16_384 (length line) h) refl

pub answer_front : (line : List ℕ) → answer_of (take 16_385 line) ≡ answer_of line
answer_front line = by_length (ltb 16_384 (length line)) refl
  where
    by_length : (b : Bool) → ltb 16_384 (length line) ≡ b → answer_of (take 16_385 line) ≡ answer_of line
    by_length true t =
        let h : 16_384 < length line = ltb-true 16_384 (length line) t in
        too_long (take 16_385 line) (omega (arith, length-take 16_385 line)) ∙ sym (too_long line h)
    by_length false t = ap answer_of (take_all 16_385 line (omega (arith, ltb-false 16_384 (length line) t)))
