-- The visitors' copy (02, Ask 5): it tells nothing of what is withheld, and all else.
use Rattle.std.specs.Prelude.{◌≡◌, refl, true, false, List, [], ℕ, suc, ◌-◌, T, get_or}
use Rattle.std.proofs.Common.{sym, ap, ◌∙◌, subst, append-nil, le_trans, arith}
use Rattle.std.proofs.Math.Dec.{eqb}
use Rattle.codec.specs.Pick.{pick}
use Rattle.codec.specs.Codec.{Octets}
use Rattle.codec.specs.Field.{flags, Contents, body, texts_of}
use Rattle.codec.specs.Frame.{Outcome, accepted, refused, read_frame, write_frame}
use Rattle.codec.specs.Meaning.{len_of}
use Rattle.papers.specs.Papers.{paper_of, items_of}
use Rattle.papers.proofs.Laws.Papers.{good_paper, few_items, few_octets}
use Rattle.layout.specs.Answer.{Hidden}
use Rattle.scope.specs.Reading.{field_of}
use Rattle.scope.specs.Outputs.{with_room}
use Rattle.scope.specs.Views.{is_item, present, view_of}
use Rattle.scope.specs.Desk.{listed}
use Rattle.scope.specs.Alike.{Alike}
use Rattle.scope.specs.Visitors.{without, copy_in, copy_of}
use Rattle.scope.proofs.Laws.Reading.{Read, read_made, read_okay, afresh_read, afresh_octets}
use Rattle.scope.proofs.Laws.Views.{nth_item, item_in, item_next, view_absent}
use Rattle.scope.proofs.Laws.Alike.{alike_held, held_alike}
use Rattle.scope.proofs.Laws.Without.{hidden, hidden_under, Without, all_left, same_without, same_copy, copy_same}

-- ---- the copy of an accepted field

-- the contents of the copy, and its octets
abbrev pub left_of : {cat : ℕ} {s : List ℕ} {n : ℕ} → Read cat s n → ℕ → Contents
left_of {cat} r withheld = without (paper_of cat) withheld (items_of cat) r.what

abbrev pub copy_from : {cat : ℕ} {s : List ℕ} {n : ℕ} → Read cat s n → ℕ → List ℕ
copy_from {cat} r withheld = write_frame (body (paper_of cat)) (left_of r withheld)

-- room is asked of the copy, and of nothing else
pub copy_is : {cat : ℕ} {s : List ℕ} {n : ℕ} (r : Read cat s n) (withheld room : ℕ) → copy_of cat s withheld room ≡ with_room room (copy_from r withheld)
unfolding copy_of copy_in field_of
copy_is r withheld room = rw (r.known_is, r.body_is) refl

-- "Nothing is claimed for a field that the reader refuses, whose refusal is passed on"
pub copy_refused : (cat : ℕ) (s : List ℕ) {n p : ℕ} → field_of cat s ≡ refused n p → (withheld room : ℕ) → copy_of cat s withheld room ≡ refused n p
unfolding copy_of copy_in
copy_refused cat s e withheld room = rw e refl

module _ {cat : ℕ} {s t : List ℕ} {n m : ℕ} (os : Octets s) (ot : Octets t) (r : Read cat s n) (q : Read cat t m) (withheld : ℕ) where
  -- "the copy, its length and a refusal for room are the same"
  pub copies_alike : Alike cat withheld s t → copy_from r withheld ≡ copy_from q withheld
  copies_alike a =
      same_copy (paper_of cat) (few_items cat) withheld r.what q.what (read_okay os r) (read_okay ot q) (alike_held os ot r q withheld a)

  -- and it tells all the rest
  pub alike_copies : copy_from r withheld ≡ copy_from q withheld → Alike cat withheld s t
  alike_copies e =
      held_alike os ot r q withheld
      (copy_same (paper_of cat) (few_items cat) withheld r.what q.what (read_okay os r) (read_okay ot q) (good_paper cat) (le_trans (few_octets cat) (omega arith)) e)

module _ {cat : ℕ} {s : List ℕ} {n : ℕ} (os : Octets s) (r : Read cat s n) (withheld : ℕ) where
  left : Without (paper_of cat) withheld (items_of cat) r.what (left_of r withheld)
  left = all_left (paper_of cat) (few_items cat) withheld r.what (read_okay os r)

  -- an item on the list has no flag
  pub left_flag : (item : ℕ) → T (is_item (paper_of cat) item) → listed withheld item ≡ true → get_or (flags (left_of r withheld).0) (item - 1) 0 ≡ 0
  left_flag item i e =
      let u : hidden withheld (items_of cat) (item - 1) ≡ true = hidden_under withheld (items_of cat) (item - 1) (item_in r item i) ∙ ap (listed withheld) (item_next r item i) ∙ e in
      left.flags_left.at (item - 1) ∙ ap (λ b. pick b 0 (get_or (flags r.what.0) (item - 1) 0)) u

  pub copy_octets : Octets (copy_from r withheld)
  copy_octets = afresh_octets cat (left_of r withheld) left.okay

  -- it is accepted
  pub copy_reads : read_frame (body (paper_of cat)) (copy_from r withheld) ≡ accepted (left_of r withheld)
  copy_reads =
      subst (λ x. read_frame (body (paper_of cat)) x ≡ accepted (left_of r withheld)) (append-nil (copy_from r withheld)) (afresh_read cat (left_of r withheld) left.okay [])

  abbrev read_copy : Read cat (copy_from r withheld) (len_of (copy_from r withheld))
  read_copy = read_made cat (copy_from r withheld) (left_of r withheld) r.known_is copy_reads

  -- an item off the list is there or absent as it was, with its octets
  pub copy_alike : Alike cat withheld s (copy_from r withheld)
  copy_alike =
      held_alike os copy_octets r read_copy withheld λ j h e.
      let u : hidden withheld (items_of cat) j ≡ false = hidden_under withheld (items_of cat) j h ∙ e in (
        sym (left.flags_left.at j ∙ ap (λ b. pick b 0 (get_or (flags r.what.0) j 0)) u),
        sym (left.texts_left.at j ∙ ap (λ b. pick b [] (get_or (texts_of (paper_of cat) r.what) j [])) u),
      )

  -- an item on it is absent
  pub copy_absent : (item : ℕ) → T (is_item (paper_of cat) item) → listed withheld item ≡ true → view_of cat (copy_from r withheld) item ≡ Hidden 15 0
  unfolding present
  copy_absent item i e = view_absent read_copy item i (ap (λ x. eqb x 1) (left_flag item i e))

-- ---- "Spare places in the list have no effect": only those of the category's items are looked at

pub same_lists : (cat : ℕ) (s : List ℕ) (list other room : ℕ) → ((item : ℕ) → T (is_item (paper_of cat) item) → listed list item ≡ listed other item) → copy_of cat s list room ≡ copy_of cat s other room
unfolding copy_of copy_in
same_lists cat s list other room h = go (field_of cat s)
  where
    go : (o : Outcome Contents) → copy_in (paper_of cat) list room o ≡ copy_in (paper_of cat) other room o
    go (refused n p) = refl
    go (accepted r) = ap (λ q. with_room room (write_frame (body (paper_of cat)) q)) (same_without (paper_of cat) list other (items_of cat) r (λ j k. h (suc j) (nth_item (paper_of cat) j k)))
