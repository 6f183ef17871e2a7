-- Demand 1 of the defined program: what every operation refuses, and in which order.
use Rattle.std.specs.Prelude.{◌≡◌, ◌≢◌, Bool, ◌&&◌, List, [], ℕ, suc, ◌-◌, ◌≤◌, ◌<◌, T, ltb, get_or}
use Rattle.std.proofs.Math.Path.{refl, ap}
use Rattle.std.proofs.Common.{sym, ◌∙◌, subst, arith, lt→ltb}
use Rattle.std.proofs.Math.Bool.{true, false}
use Rattle.std.proofs.Math.Dec.{leb, eqb, leb→le}
use Rattle.std.proofs.Math.ListN.{length}
use borrow.Author.Tests.{lt-leb, ne_eqb}
use Rattle.codec.specs.Pick.{pick}
use Rattle.codec.specs.Codec.{Octets}
use Rattle.codec.specs.Field.{flags, Contents, body}
use Rattle.codec.specs.Frame.{Outcome, accepted, refused, read_frame}
use Rattle.codec.specs.Meaning.{len_of}
use Rattle.codec.specs.Change.{Change, put, set_flag, alone, put_in, change, remove}
use Rattle.codec.proofs.Laws.Tests.{and_in, and_l, and_r, holds, fails}
use Rattle.codec.proofs.Laws.Alone.{flag_printed}
use Rattle.codec.proofs.Laws.Change.{set_flag_lt, new_octets}
use Rattle.codec.proofs.Laws.Field.{indicator_lt}
use Rattle.codec.proofs.Laws.Frame.{frame_octets}
use Rattle.papers.specs.Papers.{known, paper_of, items_of}
use Rattle.papers.proofs.Laws.Papers.{few_items}
use Rattle.layout.specs.declared.Record.{Record}
use Rattle.layout.specs.Answer.{Refused, Hidden}
use Rattle.layout.specs.declared.Which.{Which}
use Rattle.layout.specs.Laws.Record.{lawful_contents}
use Rattle.scope.specs.Reading.{field_of, shown, read_of}
use Rattle.scope.specs.Outputs.{with_room, answer_of, after}
use Rattle.scope.specs.Writing.{writable, written, write_of}
use Rattle.scope.specs.Views.{is_item, present, view_in, view_of, part_of, choose_in, choose_of, chosen_of}
use Rattle.scope.specs.Desk.{listed, afresh, edit_in, edit_of}
use Rattle.scope.specs.Sheet.{sheet_of}
use Rattle.scope.proofs.Laws.Reading.{Read, read_made, read_front, read_okay}
use Rattle.scope.proofs.Laws.Refusals.{place_within}
use Rattle.scope.proofs.Laws.Views.{front_length}
use Rattle.demands.specs.Terms.{record_of, IsField, Fault, numbered, bit_of, refused_by}
use Rattle.demands.specs.Demands.{Shows, Chooses, WrongNew, no_octets, too_many, no_item, OfFault, OfField, OfFields, Demand1}
use Rattle.demands.specs.Defined.{handed, program}
use Rattle.demands.proofs.Kept.Fields.{holds_body, holds_field, fault_refused, field_writable, written_field, judged, numbers}

-- ---- a refusal is handed on, and the output is as it was

pub handed_refusal : {o : Outcome (List ℕ)} {n q : ℕ} → o ≡ refused n q → (out : List ℕ) → handed o out ≡ refused_by n q out
unfolding answer_of after
handed_refusal e out = ap (λ o. handed o out) e

-- ---- a choice that shows nothing

chosen_nothing : (b s : List ℕ) (w : Which) (n q : ℕ) → chosen_of b s (record { which = w; view = Hidden n q }) ≡ []
unfolding chosen_of part_of
chosen_nothing b s w n q = refl

nothing_chosen : (cat : ℕ) (b s : List ℕ) (item : ℕ) {w : Which} {n q : ℕ} → choose_of cat b s item ≡ record { which = w; view = Hidden n q } → Chooses program cat b s item w (Hidden n q) []
nothing_chosen cat b s item {w} {n} {q} e = (e, ap (chosen_of b s) e ∙ chosen_nothing b s w n q)

nothing_shown : (cat : ℕ) (s : List ℕ) (item : ℕ) {n q : ℕ} → view_of cat s item ≡ Hidden n q → Shows program cat s item (Hidden n q) []
unfolding part_of
nothing_shown cat s item e = (e, ap (part_of s) e)

-- ---- a string with a fault

in_body : (cat : ℕ) (s : List ℕ) {o : Outcome Contents} → T (known cat) → field_of cat s ≡ o → read_frame (body (paper_of cat)) s ≡ o
unfolding field_of
in_body cat s k e = sym (ap (λ b. pick b (read_frame (body (paper_of cat)) s) (refused 1 0)) (holds (known cat) k)) ∙ e

module _ (cat : ℕ) (s : List ℕ) (o : Octets s) (n q : ℕ) (f : Fault cat s n q) where
  fault_is : field_of cat s ≡ refused n q
  fault_is = fault_refused cat s o f

  fault_answer : (read_of cat s).answer ≡ Refused n q
  unfolding read_of shown
  fault_answer = ap (λ x. (shown cat s x).answer) fault_is

  pub of_fault : OfFault program cat s n q
  unfolding read_of shown edit_of edit_in view_of view_in choose_of choose_in
  of_fault = record {
    numbers = numbers f;
    place = place_within cat s n q fault_answer;
    read = ap (shown cat s) fault_is;
    edit = λ list item ch out. handed_refusal (ap (edit_in (paper_of cat) list item ch (length out)) fault_is) out;
    view = λ item. nothing_shown cat s item (ap (view_in (paper_of cat) item) fault_is);
    choose_base = λ k c item. nothing_chosen cat s c item (rw (holds (known cat) k, in_body cat s k fault_is) refl);
    choose_correction = λ {b} ob h item.
        nothing_chosen cat b s item (rw (holds (known cat) h.known_is, holds_body cat b ob h.what h.layout, in_body cat s h.known_is fault_is) refl);
  }

-- ---- a field

-- an item's place in an indicator or a list, as it is printed
pub item_bit : (cat octet item : ℕ) → octet < 256 → T (numbered cat item) → get_or (flags octet) (item - 1) 0 ≡ bit_of octet item
item_bit cat octet item h t =
    let lo : 1 ≤ item = leb→le 1 item (and_l (leb 1 item) _ t) in
    let hi : item ≤ items_of cat = leb→le item (items_of cat) (and_r (leb 1 item) _ t) in
    let few : items_of cat ≤ 8 = few_items cat in
    let k : item ≡ suc (item - 1) = omega arith in
    sym (flag_printed octet (item - 1) h (omega arith)) ∙ ap (bit_of octet) (sym k)

module _ (cat : ℕ) (s : List ℕ) (o : Octets s) (f : Record) (h : IsField cat s f) where
  pub field_was : field_of cat s ≡ accepted h.what
  field_was = holds_field cat s o h.what h.known_is h.layout

  pub body_was : read_frame (body (paper_of cat)) s ≡ accepted h.what
  body_was = holds_body cat s o h.what h.layout

  abbrev pub reading : Read cat s (len_of s)
  reading = read_made cat s h.what (holds (known cat) h.known_is) body_was

  pub indicator_small : h.what.0 < 256
  indicator_small = indicator_lt (paper_of cat) h.what (read_okay o reading)

  pub items_are : f.items ≡ h.what.0
  unfolding record_of
  items_are = ap (λ (g : Record). g.items) h.record_is

  -- an item's bit by the record, and its flag by the contents
  pub record_bit : (item : ℕ) → T (numbered cat item) → bit_of f.items item ≡ get_or (flags h.what.0) (item - 1) 0
  record_bit item t = ap (λ x. bit_of x item) items_are ∙ sym (item_bit cat h.what.0 item indicator_small t)

  -- whether an item is there
  pub present_is : (item : ℕ) → T (numbered cat item) → present h.what item ≡ eqb (bit_of f.items item) 1
  unfolding present
  present_is item t = ap (λ x. eqb x 1) (sym (record_bit item t))

  pub absent_is : (item : ℕ) → T (numbered cat item) → bit_of f.items item ≢ 1 → present h.what item ≡ false
  absent_is item t x = present_is item t ∙ ne_eqb (bit_of f.items item) 1 x

  pub present_here : (item : ℕ) → T (numbered cat item) → bit_of f.items item ≡ 1 → present h.what item ≡ true
  present_here item t e = present_is item t ∙ ap (λ x. eqb x 1) e

-- new octets that are not right

pub alone_octets : (i : ℕ) (t : List ℕ) → i < 8 → length t ≤ 253 → Octets t → Octets (alone i t)
unfolding alone
alone_octets i t hi hl o =
    and_in (ltb (suc (suc (length t))) 256) _ (lt→ltb (suc (suc (length t))) 256 (omega arith))
    (and_in (ltb (set_flag 0 i 1) 256) _ (lt→ltb (set_flag 0 i 1) 256 (set_flag_lt 0 i 1 (omega arith) hi (omega arith))) o)

module _ (cat item : ℕ) (r : Contents) (k : T (known cat)) (t : T (numbered cat item)) where
  wrong_new : (ch : Change) → Octets (new_octets ch) → WrongNew cat item ch → change (paper_of cat) (item - 1) ch r ≡ refused 14 0
  unfolding change put_in new_octets
  wrong_new remove on w = elim w [ ]
  wrong_new (put x) on no_octets = refl
  wrong_new (put x) on (too_many h) = rw (lt-leb (length x) 253 h) (both (leb 1 (length x)))
    where
      both : (b : Bool) → put_in (item - 1) r (b && false) (read_frame (body (paper_of cat)) (alone (item - 1) x)) ≡ refused 14 0
      both true = refl
      both false = refl
  wrong_new (put x) on (no_item f) = go (leb 1 (length x) && leb (length x) 253) refl
    where
      lo : 1 ≤ item
      lo = leb→le 1 item (and_l (leb 1 item) _ t)

      hi : item ≤ items_of cat
      hi = leb→le item (items_of cat) (and_r (leb 1 item) _ t)

      go : (b : Bool) → (leb 1 (length x) && leb (length x) 253) ≡ b → put_in (item - 1) r b (read_frame (body (paper_of cat)) (alone (item - 1) x)) ≡ refused 14 0
      go true e =
          let m : length x ≤ 253 = leb→le (length x) 253 (and_r (leb 1 (length x)) _ (subst T (sym e) tt)) in
          let few : items_of cat ≤ 8 = few_items cat in
          let a : 1 ≤ item = lo in
          let c : item ≤ items_of cat = hi in
          rw (in_body cat (alone (item - 1) x) k (fault_refused cat (alone (item - 1) x) (alone_octets (item - 1) x (omega arith) m on) f)) refl
      go false e = refl

module _ (cat : ℕ) (s : List ℕ) (o : Octets s) (f : Record) (h : IsField cat s f) where
  pub of_field : OfField program cat s f
  unfolding edit_of edit_in afresh listed view_of view_in is_item
  of_field = record {
    edit_no_item = λ list item ch out z. handed_refusal (rw (field_was cat s o f h, z) refl) out;
    edit_off_list = λ list item ch out l t x.
        handed_refusal (rw (field_was cat s o f h, holds (numbered cat item) t, ap (λ y. eqb y 1) (item_bit cat list item l t) ∙ ne_eqb (bit_of list item) 1 x) refl) out;
    edit_wrong = λ list item ch out l t e on w.
        handed_refusal
        (rw (field_was cat s o f h, holds (numbered cat item) t, ap (λ y. eqb y 1) (item_bit cat list item l t ∙ e), wrong_new cat item h.what h.known_is t ch on w) refl) out;
    view_no_item = λ item z. nothing_shown cat s item (rw (field_was cat s o f h, z) refl);
    view_absent = λ item t x. nothing_shown cat s item (rw (field_was cat s o f h, holds (numbered cat item) t, absent_is cat s o f h item t x) refl);
  }

module _ (cat : ℕ) (b : List ℕ) (f : Record) (s : List ℕ) (g : Record) (ob : Octets b) (h : IsField cat b f) (o : Octets s) (i : IsField cat s g) where
  pub of_fields : OfFields program cat b f s g
  unfolding choose_of choose_in is_item
  of_fields = record {
    no_item = λ item z. nothing_chosen cat b s item (rw (holds (known cat) h.known_is, body_was cat b ob f h, body_was cat s o g i, z) refl);
    absent = λ item t x y.
        nothing_chosen cat b s item
        (rw (holds (known cat) h.known_is, body_was cat b ob f h, body_was cat s o g i, holds (numbered cat item) t, absent_is cat s o g i item t x, absent_is cat b ob f h item t y) refl);
  }

-- ---- the writer

module _ (f : Record) (out : List ℕ) where
  no_field : T (known f.cat) → ((s : List ℕ) → Octets s → IsField f.cat s f → ⊥) → write_of f (length out) ≡ refused 10 0
  unfolding write_of writable written
  no_field k x =
      let w : writable f ≡ false = fails (writable f) (λ t. x (written f) (frame_octets (lawful_contents f.cat) f t) (written_field f k t)) in
      rw (holds (known f.cat) k, w) refl

  no_room : (s : List ℕ) → Octets s → IsField f.cat s f → length out < len_of s → write_of f (length out) ≡ refused 11 0
  unfolding write_of with_room
  no_room s o h lt =
      let w = field_writable f.cat s o f h in
      let l : length (written f) ≡ len_of s = ap length w.1 ∙ front_length (paper_of f.cat) s h.what (read_front o (reading f.cat s o f h)) in
      rw (holds (known f.cat) h.known_is, holds (writable f) w.0, lt-leb (length (written f)) (length out) (subst (length out <◌) (sym l) lt)) refl

pub demand1 : Demand1 program
unfolding choose_of write_of with_room
demand1 = record {
  judged = judged;
  fault = λ cat s n q o. of_fault cat s o n q;
  field = λ cat s f o. of_field cat s o f;
  fields = of_fields;
  choose_unknown = λ cat b s item z. nothing_chosen cat b s item (rw z refl);
  write_unknown = λ f out z. handed_refusal (rw z refl) out;
  write_no_field = λ f out k x. handed_refusal (no_field f out k x) out;
  write_no_room = λ f out s o h lt. handed_refusal (no_room f out s o h lt) out;
  sheet_no_room = λ s out lt. handed_refusal (rw (lt-leb (length (sheet_of s)) (length out) lt) refl) out;
}
