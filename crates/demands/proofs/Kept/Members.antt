-- Two members of every desk that keeps the promise of an edit, from that promise alone: either order, and the later one alone.
use Rattle.std.specs.Prelude.{◌≡◌, refl, ◌≢◌, List, [], ◌++◌, ℕ, ◌≤◌, length}
use Rattle.std.proofs.Common.{sym, ◌∙◌, subst, append-nil, le_refl, le_trans, arith, length-take}
use Rattle.std.proofs.Math.Path.{ap}
use Rattle.std.proofs.Math.Nat.{min-le_right}
use Rattle.codec.specs.Codec.{Octets}
use Rattle.codec.specs.Field.{body}
use Rattle.codec.specs.Frame.{accepted, write_frame}
use Rattle.codec.specs.Meaning.{len_of}
use Rattle.codec.specs.Change.{Change}
use Rattle.codec.proofs.Laws.Behind.{Whole}
use Rattle.papers.specs.Papers.{paper_of, longest_of}
use Rattle.layout.specs.Answer.{Reading, Answer, Accepted}
use Rattle.scope.specs.Reading.{read_of}
use Rattle.scope.specs.Outputs.{with_room, answer_of, after}
use Rattle.scope.specs.Desk.{Edited}
use Rattle.scope.proofs.Laws.Reading.{Read, read_front}
use Rattle.scope.proofs.Laws.Views.{front_length}
use Rattle.scope.proofs.Laws.Edits.{read_edited, edited_octets, edit_afresh}
use Rattle.demands.specs.Members.{Desk, desk_of, Save, Room, Saved, Gives, Members}
use Rattle.demands.specs.Defined.{program}
use Rattle.demands.specs.Edited.{room_enough, edit_done, front_field}
use Rattle.demands.specs.Orders.{save_of, Made, save_found, either_order, later_alone, other_order}
use Rattle.demands.specs.Longest.{none_longer}
use Rattle.demands.proofs.Kept.Fields.{accepted_is_field, is_field_accepted}
use Rattle.demands.proofs.Kept.Refusals.{reading}
use Rattle.demands.proofs.Kept.Behind.{edit_behind}

-- each run of the desk is as promised
abbrev pub Keeps : Desk → Type 0
Keeps desk =
    (cat : ℕ) (s : List ℕ) (list item : ℕ) (ch : Change) (out : List ℕ) (a : Answer) (left : List ℕ) → desk cat s list item ch out a left
    → Edited cat s list item ch out a left

-- ---- fields to start from: octets that have LEN, and all that LEN counts

record Start (s : List ℕ) : Type 0 where
  are : Octets s
  whole : Whole s

field_start : {cat : ℕ} {s : List ℕ} {n : ℕ} → Octets s → Read cat s n → Start s
unfolding write_frame
field_start {cat} {s} o r =
    let f = read_front o r in
    let n : length (write_frame (body (paper_of cat)) r.what) ≡ len_of s = f.len_is in
    let k : len_of s ≤ length s = subst (◌≤ length s) (sym (length-take (len_of s) s) ∙ front_length (paper_of cat) s r.what f) (min-le_right (len_of s) (length s)) in
    record { are = o; whole = record { some = omega arith; all = k } }

module _ (cat : ℕ) {s : List ℕ} (k : Start s) (e : Save) where
  front_save : (behind : List ℕ) (room : ℕ) → save_of cat (s ++ behind) e room ≡ save_of cat s e room
  front_save behind room = edit_behind cat s behind [] k.whole e.list e.item e.change room ∙ ap (λ x. save_of cat x e room) (append-nil s)

  next_start : (room : ℕ) {b : List ℕ} → save_of cat s e room ≡ accepted b → Start b
  next_start room h =
      let m = save_found cat s e room h in
      field_start (edited_octets k.are e.octets m) (read_edited k.are e.octets m)

  -- what an edit gives is a field of the category, so it fits where they all do
  made_fits : {r : ℕ} {b : List ℕ} → Made cat s e r b → (out : List ℕ) → Room cat out → length b ≤ length out
  made_fits {r} {b} m out room =
      let o : Octets b = edited_octets k.are e.octets m in
      let i = accepted_is_field cat b o (length b) (ap (λ (x : Reading). x.answer) (edit_afresh k.are e.octets m).1) in
      subst (◌≤ length out) (sym i.1) (room b (read_of cat b).kept o i.0)

module _ (desk : Desk) (keeps : Keeps desk) (cat : ℕ) where
  -- ---- a save and the edit that it is

  module _ {s : List ℕ} (k : Start s) (e : Save) where
    saved_edit : {b : List ℕ} (h : Saved desk cat s e b) → save_of cat s e (length h.out) ≡ accepted b
    saved_edit {b} h =
        let t : List ℕ = s ++ h.behind in
        let p = keeps cat t e.list e.item e.change h.out (Accepted (length b)) h.left h.accepted in
        sym (front_save cat k e h.behind (length h.out))
        ∙ (edit_done cat t e.list e.item e.change h.out p refl).edit_is
        ∙ ap accepted (sym (front_field cat t e.list e.item e.change h.out p refl) ∙ h.begins)

    given : (b : List ℕ) → ((r : ℕ) → save_of cat s e r ≡ with_room r b) → Gives desk cat s e b
    unfolding answer_of after
    given b g behind out left a h run =
        let m = save_found cat s e (length b) (g (length b) ∙ room_enough (le_refl (length b))) in
        let o : save_of cat (s ++ behind) e (length out) ≡ accepted b = front_save cat k e behind (length out) ∙ g (length out) ∙ room_enough (made_fits cat k e m out h) in
        let p = keeps cat (s ++ behind) e.list e.item e.change out a left run in
        λ i. ((p.answer ∙ ap answer_of o) i, (p.output ∙ ap (λ x. after x out) o) i)

  -- ---- two saves

  module _ {s a b : List ℕ} (k : Start s) (d e : Save) (sa : Saved desk cat s d a) (sb : Saved desk cat a e b) where
    first : save_of cat s d (length sa.out) ≡ accepted a
    first = saved_edit k d sa

    second : save_of cat a e (length sb.out) ≡ accepted b
    second = saved_edit (next_start cat k d (length sa.out) first) e sb

    turned : d.item ≢ e.item → {c g : List ℕ} → Saved desk cat s e c → Saved desk cat c d g → b ≡ g
    turned n sc sg =
        let only = saved_edit k e sc in
        either_order cat s k.are d e (length sa.out) (length sb.out) first second n (length sc.out) (length sg.out) only
        (saved_edit (next_start cat k e (length sc.out) only) d sg)

    later : d.item ≡ e.item → Gives desk cat s e b
    later h = given k e b (later_alone cat s k.are d e (length sa.out) (length sb.out) first second h)

    other : d.item ≢ e.item → (c : List ℕ) × Gives desk cat s e c × Gives desk cat c d b
    other n =
        let o = other_order cat s k.are d e (length sa.out) (length sb.out) first second n in
        let c : List ℕ = o.0 in
        let next = next_start cat k e (length c) (o.1 (length c) ∙ room_enough (le_refl (length c))) in
        (c, given k e c o.1, given next d b o.2)

pub promised : (desk : Desk) → Keeps desk → Members desk
promised desk keeps = record {
  either_order = λ cat s f os h d e n a b c g sa sb. turned desk keeps cat (field_start os (reading cat s os f h)) d e sa sb n;
  later_alone = λ cat s f os h d e n a b sa sb. later desk keeps cat (field_start os (reading cat s os f h)) d e sa sb n;
  other_order = λ cat s f os h d e n a b sa sb. other desk keeps cat (field_start os (reading cat s os f h)) d e sa sb n;
}

-- ---- so the defined program's; and an output of the longest field, 52, 31 or 38 octets, has room

pub members : Members (desk_of program)
members = promised (desk_of program) λ cat s list item ch out a left h. record { answer = ap (λ r. r.0) (sym h); output = ap (λ r. r.1) (sym h) }

pub longest_room : (cat : ℕ) (out : List ℕ) → longest_of cat ≤ length out → Room cat out
longest_room cat out h s f o i = le_trans (none_longer cat s o (len_of s) (ap (λ (r : Reading). r.answer) (is_field_accepted cat s o f i))) h
