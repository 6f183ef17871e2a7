-- Demand 3 of the defined program, from what is printed: the edit of an accepted field by an item that is right by itself is the writing of the record with that one item changed.
use Rattle.std.specs.Prelude.{◌≡◌, ◌≢◌, true, ◌&&◌, List, [], ◌∷◌, ◌++◌, ℤ, get_or, take}
use Rattle.std.proofs.Math.Path.{refl, sym, ap, ap₂, subst}
use Rattle.std.proofs.Common.{◌∙◌, subst₂, le_trans, not-suc-le-zero, le_of_suc-le-suc}
use Prim.Native.Nat.{ℕ, zero, suc, ◌+◌, ◌-◌, ◌*◌, ◌^◌, ◌≤◌, ◌<◌}
use Rattle.std.proofs.Math.Nat.{le_refl}
use native.Mathlib.Omega.{arith}
use Rattle.std.proofs.Math.Dec.{T, leb, leb→le}
use Rattle.std.proofs.Math.ListN.{length, drop, set, length-append}
use Rattle.std.proofs.Math.Seq.{take-length}
use borrow.Author.Tests.{le-leb, eq-eqb, eqb-true}
use Rattle.codec.specs.Pick.{pick}
use Rattle.codec.specs.Radix.{join, ones}
use Rattle.codec.specs.Codec.{Octets}
use Rattle.codec.specs.Field.{flags, Contents, body, good_items, longest, flat}
use Rattle.codec.specs.Frame.{accepted, refused, read_frame, write_frame}
use Rattle.codec.specs.Meaning.{len_of, zeros_in, HasLayout}
use Rattle.codec.specs.Change.{Change, remove, put, set_flag, set_item, alone, change}
use Rattle.codec.specs.Printed.{Entry, right}
use Rattle.codec.specs.Made.{made}
use Rattle.codec.proofs.Laws.Tests.{and_l, and_r, holds}
use Rattle.codec.proofs.Laws.Flags.{set_sum}
use Rattle.codec.proofs.Laws.Field.{indicator_lt, flags-join, body_write}
use Rattle.codec.proofs.Laws.Alone.{some_octets, entry_in, removed, putted, flag_printed, AnItem, alone_is}
use Rattle.codec.proofs.Laws.Meaning.{length_items}
use Rattle.codec.proofs.Laws.Meaning as layout
use Rattle.codec.proofs.Laws.Change.{new_octets, new_flag, put_in_lem}
use Rattle.papers.specs.Papers.{LONGEST, known, paper_of, printed_of, items_of}
use Rattle.papers.proofs.Laws.Papers.{made_paper, right_paper, good_paper, few_printed, few_items, few_octets, some_octets_lem}
use Rattle.layout.specs.declared.Record.{Record}
use Rattle.layout.specs.Answer.{Reading, Accepted}
use Rattle.layout.specs.Record.{flatten}
use Rattle.scope.specs.Reading.{field_of, read_of}
use Rattle.scope.specs.Writing.{writable, written, write_of}
use Rattle.scope.specs.Outputs.{with_room, answer_of, after}
use Rattle.scope.specs.Views.{is_item}
use Rattle.scope.specs.Desk.{listed, edit_of, Edited}
use Rattle.scope.proofs.Laws.Reading.{Read, read_made, read_okay, read_then_write}
use Rattle.scope.proofs.Laws.Edits.{Edit, edit_splice, edit_read, edited_octets, edit_afresh}
use Rattle.demands.specs.Edited.{edit_gives, edit_done, others_kept}
use Rattle.demands.proofs.Kept.Fields.{holds_field, field_holds, flatten_is}
use Rattle.demands.proofs.Kept.Refusals.{alone_octets}
use Rattle.demands.proofs.Kept.Parts.{parts_with}
use Rattle.demands.specs.Terms.{record_of, IsField, bit_of, with_bit}
use Rattle.demands.specs.Defined.{handed, program}
use Rattle.demands.specs.Demands.{parts, NewItem, removal, correct, Taken, Edits, Demand3}

-- ---- one bit of an indicator

bit_sum : (n item d : ℕ) → n < 256 → 1 ≤ item → item ≤ 8 → d < 2 → set_flag n (item - 1) d + bit_of n item * 2 ^ (8 - item) ≡ n + d * 2 ^ (8 - item)
bit_sum n item d h lo hi hd =
    let k : item ≡ suc (item - 1) = omega arith in
    let m : 7 - (item - 1) ≡ 8 - item = omega arith in
    let f : get_or (flags n) (item - 1) 0 ≡ bit_of n item = sym (flag_printed n (item - 1) h (omega arith)) ∙ ap (bit_of n) (sym k) in
    let s : set_flag n (item - 1) d + get_or (flags n) (item - 1) 0 * 2 ^ (7 - (item - 1)) ≡ n + d * 2 ^ (7 - (item - 1)) = set_sum n (item - 1) d h (omega arith) hd in
    ap₂ (λ x y. set_flag n (item - 1) d + x * 2 ^ y) (sym f) (sym m) ∙ s ∙ ap (λ y. n + d * 2 ^ y) m

less : (a b r : ℕ) → a + b ≡ r → a ≡ r - b
less a b r p = omega arith

pub bit_with : (n item d : ℕ) → n < 256 → 1 ≤ item → item ≤ 8 → d < 2 → set_flag n (item - 1) d ≡ with_bit n item d
bit_with n item d h lo hi hd = less (set_flag n (item - 1) d) (bit_of n item * 2 ^ (8 - item)) (n + d * 2 ^ (8 - item)) (bit_sum n item d h lo hi hd)

pub flag_lt : (ch : Change) → new_flag ch < 2
unfolding new_flag
flag_lt remove = omega arith
flag_lt (put t) = omega arith

bit_lt : {e : Entry} {ch : Change} {d : ℕ} {v : ℕ × List ℤ} → NewItem e ch d v → d < 2
bit_lt removal = omega arith
bit_lt (correct is) = omega arith

-- ---- the change of the paper's item

changed : (e : Entry) (bs fs : List Entry) → T (right (bs ++ (e ∷ fs))) → T (good_items (made (bs ++ (e ∷ fs)))) → length (made (bs ++ (e ∷ fs))) ≤ 8 → longest (made (bs ++ (e ∷ fs))) ≤ 255
    → T (some_octets (made (bs ++ (e ∷ fs)))) → (ch : Change) → Octets (new_octets ch) → (d : ℕ) (v : ℕ × List ℤ) → NewItem e ch d v → (r : Contents)
    → change (made (bs ++ (e ∷ fs))) (length bs) ch r ≡ accepted (set_item (length bs) d v r)
unfolding new_octets
changed e bs fs h good few short some ch o d v removal r = removed e fs bs r
changed e bs fs h good few short some ch o d v (correct {t} is) r = putted e fs bs h good few short some t o is r

module _ (cat : ℕ) (s : List ℕ) (list item : ℕ) (ch : Change) (os : Octets s) (lt : list < 256) (on : Octets (new_octets ch)) (t : Taken cat s list item ch) where
  abbrev was : Contents
  was = t.was

  abbrev now : Contents
  now = (with_bit t.was.0 item t.bit, set t.was.1 (item - 1) t.value)

  paper_is : paper_of cat ≡ made (t.before ++ (t.entry ∷ t.behind))
  paper_is = sym (made_paper cat) ∙ ap made t.paper

  item_high : item ≤ items_of cat
  item_high =
      let a : items_of cat ≡ length (made (t.before ++ (t.entry ∷ t.behind))) = ap length paper_is in
      let b : length t.before < length (made (t.before ++ (t.entry ∷ t.behind))) = entry_in t.entry t.behind t.before in
      let c : item ≡ suc (length t.before) = t.turn in
      omega arith

  field_was : field_of cat s ≡ accepted was
  field_was = holds_field cat s os was t.known_is t.field

  read_was : read_frame (body (paper_of cat)) s ≡ accepted was
  unfolding field_of
  read_was = sym (ap (λ x. pick x (read_frame (body (paper_of cat)) s) (refused 1 0)) (holds (known cat) t.known_is)) ∙ field_was

  reading : Read cat s (len_of s)
  reading = read_made cat s was (holds (known cat) t.known_is) read_was

  was_lt : was.0 < 256
  unfolding reading
  was_lt = indicator_lt (paper_of cat) was (read_okay os reading)

  now_is : set_item (item - 1) t.bit t.value was ≡ now
  unfolding set_item
  now_is =
      let c : item ≡ suc (length t.before) = t.turn in
      let few : items_of cat ≤ 8 = few_items cat in
      let hi : item ≤ items_of cat = item_high in
      let e : set_flag was.0 (item - 1) t.bit ≡ now.0 = bit_with was.0 item t.bit was_lt (omega arith) (omega arith) (bit_lt t.new) in
      λ i. (e i, set was.1 (item - 1) t.value)

  change_is : change (paper_of cat) (item - 1) ch was ≡ accepted now
  change_is =
      let p : paper_of cat ≡ made (t.before ++ (t.entry ∷ t.behind)) = paper_is in
      let c : item ≡ suc (length t.before) = t.turn in
      let k : item - 1 ≡ length t.before = omega arith in
      ap₂ (λ its i. change its i ch was) p k
      ∙ changed t.entry t.before t.behind (subst (λ es. T (right es)) t.paper (right_paper cat)) (subst (λ its. T (good_items its)) p (good_paper cat))
      (subst (λ its. length its ≤ 8) p (few_items cat)) (le_trans (subst (λ its. longest its ≤ LONGEST) p (few_octets cat)) (omega arith)) (subst (λ its. T (some_octets its)) p (some_octets_lem cat))
      ch on t.bit t.value t.new was
      ∙ ap (λ i. accepted (set_item i t.bit t.value was)) (sym k) ∙ ap accepted now_is

  is_an_item : is_item (paper_of cat) item ≡ true
  unfolding is_item
  is_an_item = let c : item ≡ suc (length t.before) = t.turn in rw (le-leb 1 item (omega arith), le-leb item (items_of cat) item_high) refl

  is_listed : listed list item ≡ true
  unfolding listed
  is_listed =
      let c : item ≡ suc (length t.before) = t.turn in
      let few : items_of cat ≤ 8 = few_items cat in
      let hi : item ≤ items_of cat = item_high in
      let k : item ≡ suc (item - 1) = omega arith in
      eq-eqb (get_or (flags list) (item - 1) 0) 1 (sym (flag_printed list (item - 1) lt (omega arith)) ∙ ap (bit_of list) (sym k) ∙ t.on_list)

  -- ---- the field with that item

  abbrev new : List ℕ
  new = write_frame (body (paper_of cat)) now

  done : Edit cat s list item ch (length new) new
  unfolding reading
  done = record { read = reading; is_an_item = subst T (sym is_an_item) tt; on_list = is_listed; new = now; change_is = change_is; octets_are = refl; has_room = le_refl (length new) }

  new_read : read_frame (body (paper_of cat)) new ≡ accepted now
  unfolding done
  new_read = edit_read os on done

  new_octets_lem : Octets new
  new_octets_lem = edited_octets os on done

  record_is : flatten cat (paper_of cat) now ≡ record_of cat now
  record_is = flatten_is cat new new_octets_lem now new_read

  pub new_written : new ≡ written (record_of cat now)
  unfolding done
  new_written = (edit_afresh os on done).0 ∙ ap written record_is

  new_writable : T (writable (record_of cat now))
  unfolding done
  new_writable =
      let e : read_of cat new ≡ record { answer = Accepted (length new); kept = flatten cat (paper_of cat) now } = (edit_afresh os on done).1 in
      subst (λ (f : Record). T (writable f)) (ap (λ (r : Reading). r.kept) e ∙ record_is) (read_then_write cat new new_octets_lem (length new) (ap (λ (r : Reading). r.answer) e)).0

  -- "exactly the field written afresh"
  pub edit_is_write : (room : ℕ) → edit_of cat s list item ch room ≡ write_of (record_of cat now) room
  unfolding write_of record_of
  edit_is_write room =
      edit_gives done room ∙ ap (with_room room) new_written
      ∙ sym (ap₂ (λ x y. pick x (pick y (with_room room (written (record_of cat now))) (refused 10 0)) (refused 1 0)) (holds (known cat) t.known_is) (holds (writable (record_of cat now)) new_writable))

  pub new_field : IsField cat new (record_of cat now)
  unfolding field_of
  new_field =
      let f : field_of cat new ≡ accepted now = ap (λ x. pick x (read_frame (body (paper_of cat)) new) (refused 1 0)) (holds (known cat) t.known_is) ∙ new_read in
      record { what = now; known_is = t.known_is; layout = (field_holds cat new new_octets_lem now f).1; record_is = refl }

-- the edited field
pub edit_turns : {cat : ℕ} {s : List ℕ} {list item : ℕ} {ch : Change} {room : ℕ} {b : List ℕ} (os : Octets s) (on : Octets (new_octets ch)) (d : Edit cat s list item ch room b)
    → b ≡ length b ∷ with_bit d.read.what.0 item (new_flag ch) ∷ (parts program cat s 0 (item - 1) ++ (new_octets ch ++ parts program cat s item (items_of cat - item)))
unfolding write_frame set_flag is_item
edit_turns {cat} {s} {list} {item} {ch} {room} {b} os on d =
    let lo : 1 ≤ item = leb→le 1 item (and_l (leb 1 item) _ d.is_an_item) in
    let hi : item ≤ items_of cat = leb→le item (items_of cat) (and_r (leb 1 item) _ d.is_an_item) in
    let few : items_of cat ≤ 8 = few_items cat in
    let sp = edit_splice os on d in
    let h : d.read.what.0 < 256 = indicator_lt (paper_of cat) d.read.what (read_okay os d.read) in
    let e : d.new.0 ≡ with_bit d.read.what.0 item (new_flag ch)
    = sym (flags-join d.new.0 (indicator_lt (paper_of cat) d.new sp.okay)) ∙ ap (join ones) sp.flags_are ∙ bit_with d.read.what.0 item (new_flag ch) h lo (omega arith) (flag_lt ch) in
    let len : suc (length ((body (paper_of cat)).write d.new)) ≡ length b = ap length (sym d.octets_are) in
    d.octets_are ∙ ap₂ ◌∷◌ len (body_write (paper_of cat) d.new ∙ ap₂ ◌∷◌ e (ap flat sp.texts_are ∙ parts_with os d.read item d.is_an_item (new_octets ch)))

-- ---- and every edit that is accepted was such a one

record Split (es : List Entry) (i : ℕ) : Type 0 where
  before : List Entry
  entry : Entry
  behind : List Entry
  all : es ≡ before ++ (entry ∷ behind)
  long : length before ≡ i

split : (es : List Entry) (i : ℕ) → i < length es → Split es i
split [] i h = absurd (not-suc-le-zero h)
split (e ∷ es) zero h = record { before = []; entry = e; behind = es; all = refl; long = refl }
split (e ∷ es) (suc i) h = let r = split es i (le_of_suc-le-suc h) in record { before = e ∷ r.before; entry = r.entry; behind = r.behind; all = ap (e ∷◌) r.all; long = ap suc r.long }

alone_len : (i : ℕ) (t : List ℕ) → take (len_of (alone i t)) (alone i t) ≡ alone i t
unfolding alone len_of
alone_len i t = take-length (suc (suc (length t)) ∷ set_flag 0 i 1 ∷ t)

module _ (cat : ℕ) (e : Entry) (bs fs : List Entry) (p : printed_of cat ≡ bs ++ (e ∷ fs)) where
  put_new : (t : List ℕ) → Octets t → (r q : Contents) → change (paper_of cat) (length bs) (put t) r ≡ accepted q → AnItem e t
  unfolding change
  put_new t o r q c =
      let u = put_in_lem (length bs) r q (leb 1 (length t) && leb (length t) 253) (read_frame (body (paper_of cat)) (alone (length bs) t)) c in
      let hl : length t ≤ 253 = leb→le (length t) 253 (and_r (leb 1 (length t)) _ u.0) in
      let few : length (bs ++ (e ∷ fs)) ≤ 8 = subst (λ es. length es ≤ 8) p (few_printed cat) in
      let n : length (bs ++ (e ∷ fs)) ≡ length bs + suc (length fs) = length-append bs (e ∷ fs) in
      let hi : length bs < 8 = omega arith in
      let m : read_frame (body (made (printed_of cat))) (alone (length bs) t) ≡ accepted u.1.0 = subst (λ its. read_frame (body its) (alone (length bs) t) ≡ accepted u.1.0) (sym (made_paper cat)) u.1.1 in
      let l : HasLayout (printed_of cat) (take (len_of (alone (length bs) t)) (alone (length bs) t)) u.1.0
      = layout.field_is (printed_of cat) (right_paper cat) (few_printed cat) (alone (length bs) t) (alone_octets (length bs) t hi hl o) u.1.0 m in
      alone_is e bs fs few t u.1.0 (subst₂ (λ es x. HasLayout es x u.1.0) p (alone_len (length bs) t) l)

  pub record Found (ch : Change) : Type 0 where
    pub bit : ℕ
    pub value : ℕ × List ℤ
    pub new : NewItem e ch bit value

  new_found : (ch : Change) → Octets (new_octets ch) → (r q : Contents) → change (paper_of cat) (length bs) ch r ≡ accepted q → Found ch
  unfolding new_octets
  new_found remove o r q c = record { bit = 0; value = (0, zeros_in e); new = removal }
  new_found (put t) o r q c = let a = put_new t o r q c in record { bit = 1; value = (a.parts, a.numbers); new = correct a.is }

pub edit_taken : {cat : ℕ} {s : List ℕ} {list item : ℕ} {ch : Change} {room : ℕ} {b : List ℕ} → Octets s → list < 256 → Octets (new_octets ch) → Edit cat s list item ch room b → Taken cat s list item ch
unfolding field_of listed is_item
edit_taken {cat} {s} {list} {item} {ch} os lt on d =
    let lo : 1 ≤ item = leb→le 1 item (and_l (leb 1 item) _ d.is_an_item) in
    let hi : item ≤ items_of cat = leb→le item (items_of cat) (and_r (leb 1 item) _ d.is_an_item) in
    let few : items_of cat ≤ 8 = few_items cat in
    let n : items_of cat ≡ length (printed_of cat) = sym (ap length (made_paper cat)) ∙ length_items (printed_of cat) in
    let sp = split (printed_of cat) (item - 1) (omega arith) in
    let k : item ≡ suc (item - 1) = omega arith in
    let f = field_holds cat s os d.read.what (ap (λ x. pick x (read_frame (body (paper_of cat)) s) (refused 1 0)) d.read.known_is ∙ d.read.body_is) in
    let w = new_found cat sp.entry sp.before sp.behind sp.all ch on d.read.what d.new
    (ap (λ j. change (paper_of cat) j ch d.read.what) sp.long ∙ d.change_is) in record {
      known_is = f.0;
      was = d.read.what;
      field = f.1;
      before = sp.before;
      entry = sp.entry;
      behind = sp.behind;
      paper = sp.all;
      turn = k ∙ ap suc (sym sp.long);
      on_list = ap (bit_of list) k ∙ flag_printed list (item - 1) lt (omega arith) ∙ eqb-true (get_or (flags list) (item - 1) 0) 1 d.on_list;
      bit = w.bit;
      value = w.value;
      new = w.new;
    }

-- ---- the demand

module _ (cat : ℕ) (s : List ℕ) (list item : ℕ) (ch : Change) (out : List ℕ) (os : Octets s) (lt : list < 256) (on : Octets (new_octets ch)) (oo : Octets out) where
  abbrev wrote : Edited cat s list item ch out (answer_of (edit_of cat s list item ch (length out))) (after (edit_of cat s list item ch (length out)) out)
  wrote = record { answer = refl; output = refl }

  turns : (n : ℕ) → answer_of (edit_of cat s list item ch (length out)) ≡ Accepted n
      → after (edit_of cat s list item ch (length out)) out
      ≡ (n ∷ with_bit (read_of cat s).kept.items item (new_flag ch) ∷ (parts program cat s 0 (item - 1) ++ (new_octets ch ++ parts program cat s item (items_of cat - item)))) ++ drop n out
  unfolding flatten
  turns n e =
      let d = edit_done cat s list item ch out wrote e in
      let i : (read_of cat s).kept.items ≡ d.edit.read.what.0 = ap (λ (f : Record). f.items) d.edit.read.kept_is in
      d.output
      ∙ ap (◌++ drop n out) (edit_turns os on d.edit
      ∙ ap₂ (λ m x. m ∷ with_bit x item (new_flag ch) ∷ (parts program cat s 0 (item - 1) ++ (new_octets ch ++ parts program cat s item (items_of cat - item)))) (sym d.long) (sym i))

  off_list : (1 ≤ item → item ≤ 8 → bit_of list item ≢ 1) → (n : ℕ) → answer_of (edit_of cat s list item ch (length out)) ≢ Accepted n
  off_list x n e =
      let d = edit_done cat s list item ch out wrote e in
      let t = edit_taken os lt on d.edit in
      let c : item ≡ suc (length t.before) = t.turn in
      let few : items_of cat ≤ 8 = few_items cat in
      let hi : item ≤ items_of cat = item_high cat s list item ch os lt on t in
      x (omega arith) (omega arith) t.on_list

  pub edits : Edits program cat s list item ch out
  unfolding is_item record_of
  edits = record {
    afresh = λ t. ap (λ x. handed x out) (edit_is_write cat s list item ch os lt on t (length out));
    result = λ t. record { octets = new cat s list item ch os lt on t; are = new_octets_lem cat s list item ch os lt on t; field = new_field cat s list item ch os lt on t };
    only_these = λ n e. edit_taken os lt on (edit_done cat s list item ch out wrote e).edit;
    others = λ n e j t x. (others_kept cat s list item ch out wrote e os on oo j t x).0;
    turns = turns;
    off_list = off_list;
  }

pub demand3 : Demand3 program
demand3 = record { edits = λ cat s list item ch out os lt on oo. edits cat s list item ch out os lt on oo }
