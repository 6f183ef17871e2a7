-- The visitors' copy of the defined program: a copy tells nothing of what is withheld, and all else.
use Rattle.std.specs.Prelude.{◌≡◌, ◌≢◌, Bool, true, take}
use Rattle.std.proofs.Math.Path.{refl, sym, ap, ap₂}
use Rattle.std.proofs.Common.{◌∙◌, subst, arith}
use Rattle.std.proofs.Math.Bool.{false}
use mathlib.Core.List.{List, [], ◌∷◌, ◌++◌}
use Prim.Native.Nat.{ℕ, zero, suc, ◌+◌, ◌-◌, ◌≤◌, ◌<◌}
use Rattle.std.proofs.Math.Dec.{T, eqb}
use Rattle.std.proofs.Math.ListN.{length}
use Rattle.std.proofs.Math.Seq.{take-length}
use borrow.Author.Tests.{lt-leb, eq-eqb, ne_eqb, eqb-false}
use Rattle.codec.specs.Pick.{pick}
use Rattle.codec.specs.Codec.{Octets}
use Rattle.codec.specs.Field.{body}
use Rattle.codec.specs.Frame.{refused, read_frame, write_frame}
use Rattle.codec.specs.Meaning.{len_of}
use Rattle.codec.proofs.Laws.Tests.{holds}
use Rattle.papers.specs.Papers.{known, paper_of, items_of}
use Rattle.layout.specs.declared.Record.{Record}
use Rattle.layout.specs.Answer.{Accepted, view_number}
use Rattle.scope.specs.Reading.{field_of}
use Rattle.scope.specs.Outputs.{with_room, answer_of, after}
use Rattle.scope.specs.Views.{is_item, view_of, part_of}
use Rattle.scope.specs.Desk.{listed}
use Rattle.scope.specs.Alike.{Alike}
use Rattle.scope.specs.Visitors.{copy_of}
use Rattle.scope.proofs.Laws.Outputs.{room_given}
use Rattle.scope.proofs.Laws.Reading.{Read}
use Rattle.scope.proofs.Laws.Views.{nth_item, item_in, item_next, view_number_lem}
use Rattle.scope.proofs.Laws.Alike.{alike_held}
use Rattle.scope.proofs.Laws.Visitors.{left_of, copy_from, copy_is, copy_refused, copies_alike, alike_copies, left_flag, copy_octets, copy_reads, copy_alike, copy_absent, same_lists}
use Rattle.demands.specs.Terms.{record_of, IsField, numbered, bit_of}
use Rattle.demands.specs.Demands.{parts}
use Rattle.demands.specs.Visitors.{parts_off, AlikeOff, Copy, Visitors}
use Rattle.demands.specs.Defined.{handed, program}
use Rattle.demands.specs.Edited.{room_enough}
use Rattle.demands.proofs.Kept.Fields.{Holds, field_holds, fault_refused}
use Rattle.demands.proofs.Kept.Refusals.{handed_refusal, item_bit, reading, record_bit, present_is}
use Rattle.demands.proofs.Kept.Parts.{field_parts}

-- ---- a list by its printed bits

module _ (cat list : ℕ) (h : list < 256) (item : ℕ) (t : T (numbered cat item)) where
  listed_bit : listed list item ≡ eqb (bit_of list item) 1
  unfolding listed
  listed_bit = ap (λ x. eqb x 1) (item_bit cat list item h t)

  off_list : bit_of list item ≢ 1 → listed list item ≡ false
  off_list x = listed_bit ∙ ne_eqb (bit_of list item) 1 x

  list_off : listed list item ≡ false → bit_of list item ≢ 1
  list_off e = eqb-false (bit_of list item) 1 (sym listed_bit ∙ e)

-- ---- alike by the records and the parts, and by the views

record_view : (cat : ℕ) (s : List ℕ) (o : Octets s) (f : Record) (h : IsField cat s f) (item : ℕ) → T (numbered cat item) → view_number (view_of cat s item) ≡ pick (eqb (bit_of f.items item) 1) 0 15
unfolding is_item
record_view cat s o f h item t = view_number_lem (reading cat s o f h) item t ∙ ap (λ b. pick b 0 15) (present_is cat s o f h item t)

module _ (cat : ℕ) (s : List ℕ) (f : Record) (t : List ℕ) (g : Record) (os : Octets s) (hs : IsField cat s f) (ot : Octets t) (ht : IsField cat t g) (list : ℕ) (lt : list < 256) where
  abbrev r : Read cat s (len_of s)
  r = reading cat s os f hs

  abbrev q : Read cat t (len_of t)
  q = reading cat t ot g ht

  to_alike : AlikeOff program cat list s f t g → Alike cat list s t
  unfolding is_item
  to_alike a item i e =
      let b = a item i (list_off cat list lt item i e) in
      (record_view cat s os f hs item i ∙ ap (λ x. pick (eqb x 1) 0 15) b.0 ∙ sym (record_view cat t ot g ht item i), b.1)

  from_alike : Alike cat list s t → AlikeOff program cat list s f t g
  unfolding is_item
  from_alike a item i x =
      let e : listed list item ≡ false = off_list cat list lt item i x in
      (record_bit cat s os f hs item i ∙ (alike_held os ot r q list a (item - 1) (item_in r item i) (ap (listed list) (item_next r item i) ∙ e)).0 ∙ sym (record_bit cat t ot g ht item i), (a item i e).1)

  tells_nothing : AlikeOff program cat list s f t g → (room : ℕ) → copy_of cat s list room ≡ copy_of cat t list room
  tells_nothing a room = copy_is r list room ∙ ap (with_room room) (copies_alike os ot r q list (to_alike a)) ∙ sym (copy_is q list room)

-- ---- the copy of a field

copy_front : {cat : ℕ} {s : List ℕ} {m : ℕ} (r : Read cat s m) (list : ℕ) (out : List ℕ) (n : ℕ) → answer_of (copy_of cat s list (length out)) ≡ Accepted n
    → take n (after (copy_of cat s list (length out)) out) ≡ copy_from r list
copy_front r list out n = subst (λ o. answer_of o ≡ Accepted n → take n (after o out) ≡ copy_from r list) (sym (copy_is r list (length out))) (room_given (copy_from r list) out n)

module _ (cat : ℕ) (s : List ℕ) (f : Record) (os : Octets s) (hs : IsField cat s f) (list : ℕ) (lt : list < 256) where
  abbrev from : Read cat s (len_of s)
  from = reading cat s os f hs

  abbrev octets : List ℕ
  octets = copy_from from list

  abbrev held : Record
  held = record_of cat (left_of from list)

  are_all_octets : Octets octets
  are_all_octets = copy_octets os from list

  has_layout : Holds cat octets (left_of from list)
  unfolding field_of
  has_layout =
      (field_holds cat octets are_all_octets (left_of from list) (ap (λ b. pick b (read_frame (body (paper_of cat)) octets) (refused 1 0)) (holds (known cat) hs.known_is) ∙ copy_reads os from list)).1

  abbrev field : IsField cat octets held
  field = record { what = left_of from list; known_is = hs.known_is; layout = has_layout; record_is = refl }

  absent : (item : ℕ) → T (numbered cat item) → bit_of list item ≡ 1 → bit_of held.items item ≡ 0
  unfolding is_item
  absent item i e = record_bit cat octets are_all_octets held field item i ∙ left_flag os from list item i (listed_bit cat list lt item i ∙ eq-eqb (bit_of list item) 1 e)

  kept : AlikeOff program cat list s f octets held
  kept = from_alike cat s f octets held os hs are_all_octets field list lt (copy_alike os from list)

  -- part by part
  parts_off_lem : (n i : ℕ) → i + n ≤ items_of cat → parts program cat octets i n ≡ parts_off program cat s list i n
  unfolding is_item part_of
  parts_off_lem zero i h = refl
  parts_off_lem (suc n) i h = ap₂ ◌++◌ (go (eqb (bit_of list (suc i)) 1) refl) (parts_off_lem n (suc i) (omega arith))
    where
      here : T (numbered cat (suc i))
      here = nth_item (paper_of cat) i (omega arith)

      go : (b : Bool) → eqb (bit_of list (suc i)) 1 ≡ b → part_of octets (view_of cat octets (suc i)) ≡ pick b [] (part_of s (view_of cat s (suc i)))
      go true e = ap (part_of octets) (copy_absent os from list (suc i) here (listed_bit cat list lt (suc i) here ∙ e))
      go false e = sym (kept (suc i) here (eqb-false (bit_of list (suc i)) 1 e)).1

  turns : octets ≡ length octets ∷ held.items ∷ parts_off program cat s list 0 (items_of cat)
  unfolding len_of write_frame record_of
  turns =
      sym (take-length octets) ∙ field_parts are_all_octets (reading cat octets are_all_octets held field)
      ∙ ap (λ x. length octets ∷ held.items ∷ x) (parts_off_lem (items_of cat) 0 (omega arith))

  pub copied : Copy program cat s f list
  unfolding with_room answer_of after
  copied = record {
    octets = octets;
    held = held;
    field = field;
    absent = absent;
    kept = kept;
    turns = turns;
    given = λ out h. ap (λ o. handed o out) (copy_is from list (length out) ∙ room_enough {b = octets} h);
    no_room = λ out h. handed_refusal (copy_is from list (length out) ∙ rw (lt-leb (length octets) (length out) h) refl) out;
  }

-- ---- all of it

pub visitors : Visitors program
unfolding is_item
visitors = record {
  fault = λ cat s n q o f list out. handed_refusal (copy_refused cat s (fault_refused cat s o f) list (length out)) out;
  field = λ cat s f o h. copied cat s f o h;
  tells_nothing = λ cat s f t g os hs ot ht list lt a out. ap (λ x. handed x out) (tells_nothing cat s f t g os hs ot ht list lt a (length out));
  tells_all_else = λ cat s f t g os hs ot ht list lt out out' n a b e.
      let r = reading cat s os f hs in
      let q = reading cat t ot g ht in
      from_alike cat s f t g os hs ot ht list lt (alike_copies os ot r q list (sym (copy_front r list out n a) ∙ e ∙ copy_front q list out' n b));
  spare_places = λ cat s list other h k e out.
      ap (λ x. handed x out) (same_lists cat s list other (length out) (λ item i. listed_bit cat list h item i ∙ ap (λ x. eqb x 1) (e item i) ∙ sym (listed_bit cat other k item i)));
}
