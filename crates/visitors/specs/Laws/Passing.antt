-- The array between two items.
use Rattle.std.specs.Prelude.{◌≡◌, Bool, true, List, [], ◌∷◌, ◌++◌, T, take, drop, replicate}
use Rattle.std.proofs.Math.Path.{refl, sym, ap, subst}
use Rattle.std.proofs.Common.{◌∙◌, ap₂, length-take-le}
use Rattle.std.proofs.Math.Bool.{false}
use Prim.Native.Nat.{ℕ, suc, ◌-◌, ◌≤◌, ◌<◌}
use native.Mathlib.Omega.{arith}
use borrow.Author.Tests.{le-leb}
use Rattle.std.proofs.Math.Dec.{eqb}
use Rattle.std.proofs.Math.ListN.{length, get_or}
use Rattle.std.proofs.lemmas.List.{get_or-replicate}
use Rattle.std.proofs.Math.Seq.{length_front, take-length}
use Rattle.codec.specs.Pick.{pick}
use Rattle.codec.specs.Radix.{total, cut}
use Rattle.codec.specs.Codec.{Octets}
use Rattle.codec.specs.Field.{flags, Contents, body}
use Rattle.codec.specs.Frame.{accepted, refused, read_frame, write_frame}
use Rattle.codec.specs.Meaning.{len_of}
use Rattle.codec.specs.Change.{remove, set_item, blank_at, change}
use Rattle.codec.proofs.Laws.Codec.{octets_drop, octets_++}
use Rattle.codec.proofs.Laws.Field.{indicator_lt, flag_zero}
use Rattle.codec.proofs.Laws.Longest.{field_size}
use Rattle.codec.proofs.Laws.Change.{set-spliced, blank_okay, blank-text, remove_absent}
use Rattle.papers.specs.Papers.{known, paper_of, items_of}
use Rattle.papers.proofs.Laws.Papers.{few_items, few_octets}
use Rattle.layout.specs.Answer.{Answer, Accepted, Refused, Surveyed}
use Rattle.scope.specs.Reading.{field_of}
use Rattle.scope.specs.Survey.{survey_of}
use Rattle.scope.specs.Outputs.{with_room, after, Leaves}
use Rattle.scope.specs.Views.{is_item}
use Rattle.scope.specs.Desk.{listed, afresh, edit_in, edit_of, Edited}
use Rattle.scope.specs.Visitors.{without, copy_of, Copied}
use Rattle.scope.proofs.Laws.Reading.{Read, read_made, read_found, read_front, survey_answer, read_refused, read_okay, afresh_read, afresh_octets}
use Rattle.scope.proofs.Laws.Views.{field_all}
use Rattle.scope.proofs.Laws.Visitors.{left_of, copy_from, copy_is, copy_refused}
use Rattle.visitors.specs.Passing.{passed_of}

-- ---- the ways out of `passed`: i is the item's index

module _ (cat : ℕ) (kept : List ℕ) (withheld item : ℕ) {i : ℕ} (ei : i ≡ item - 1) {x : Bool} (ex : x ≡ eqb (get_or (flags withheld) i 0) 1) where
  by_list : listed withheld item ≡ x
  unfolding listed
  by_list = sym (ex ∙ ap (λ j. eqb (get_or (flags withheld) j 0) 1) ei)

  pub passed_shown : x ≡ false → kept ≡ passed_of cat kept withheld item
  unfolding passed_of
  passed_shown e = rw (by_list, e) refl

  module _ (tx : x ≡ true) {y : Bool} (ey : y ≡ eqb (get_or (flags (get_or kept 1 0)) i 0) 1) where
    by-indicator : listed (get_or kept 1 0) item ≡ y
    unfolding listed
    by-indicator = sym (ey ∙ ap (λ j. eqb (get_or (flags (get_or kept 1 0)) j 0) 1) ei)

    pub passed_absent : y ≡ false → kept ≡ passed_of cat kept withheld item
    unfolding passed_of
    passed_absent e = rw (by_list, tx, by-indicator, e) refl

    pub passed_gone : y ≡ true → {a : Answer} {next : List ℕ} → Edited cat kept 255 item remove kept a next → next ≡ passed_of cat kept withheld item
    unfolding passed_of
    passed_gone e d = d.output ∙ rw (by_list, tx, by-indicator, e) refl

-- ---- what the array holds: in front a field of these contents, behind it any octets

pub record InFront (cat : ℕ) (q : Contents) (xs : List ℕ) : Type 0 where
  pub known_is : known cat ≡ true
  pub reads : read_frame (body (paper_of cat)) xs ≡ accepted q
  pub octets : Octets xs
  pub long : length xs ≡ 255

-- what was read of it
abbrev reading : {cat : ℕ} {q : Contents} {xs : List ℕ} → InFront cat q xs → Read cat xs (len_of xs)
reading {cat} {q} {xs} h = read_made cat xs q h.known_is h.reads

-- contents written afresh into the front of an array, which has room for every field
module _ (cat : ℕ) (k : known cat ≡ true) (q : Contents) (o : T ((body (paper_of cat)).okay q)) where
  abbrev field : List ℕ
  field = write_frame (body (paper_of cat)) q

  short : length field ≤ 255
  short = omega (arith, field_size (paper_of cat) q, few_octets cat)

  in_front : (xs : List ℕ) → Octets xs → length xs ≡ 255 → InFront cat q (field ++ drop (length field) xs)
  in_front xs ox l = record {
    known_is = k;
    reads = afresh_read cat q o (drop (length field) xs);
    octets = octets_++ field (drop (length field) xs) (afresh_octets cat q o) (octets_drop (length field) xs ox);
    long = length_front xs field (length field) (sym (length-take-le (length field) xs (omega (arith, short)))) ∙ l;
  }

-- ---- before the first item: the field that was accepted, copied into the front

module _ (cat : ℕ) (s : List ℕ) (os : Octets s) {v : Surveyed} (ev : v ≡ survey_of cat s) {n : ℕ} (ea : v.answer ≡ Accepted n) where
  pub begun : Read cat s n
  begun = read_found cat s n (sym (survey_answer cat s) ∙ ap (λ (x : Surveyed). x.answer) (sym ev) ∙ ea)

  whole : take n s ≡ write_frame (body (paper_of cat)) begun.what
  whole = ap (λ m. take m s) begun.len_is ∙ (read_front os begun).front

  pub whole_long : n ≡ length (take n s)
  whole_long = begun.len_is ∙ sym (read_front os begun).len_is ∙ ap length (sym whole)

  pub has_room : length (take n s) ≤ 255
  has_room = subst (λ x. length x ≤ 255) (sym whole) (short cat begun.known_is begun.what (read_okay os begun))

  pub first_held : {xs : List ℕ} → xs ≡ take (length (take n s)) (take n s) ++ drop (length (take n s)) (replicate 255 0) → InFront cat begun.what xs
  first_held {xs} e =
      subst (InFront cat begun.what) (sym (e ∙ ap (◌++ drop (length (take n s)) (replicate 255 0)) (take-length (take n s)) ∙ ap (λ x. x ++ drop (length x) (replicate 255 0)) whole))
      (in_front cat begun.known_is begun.what (read_okay os begun) (replicate 255 0) tt refl)

  pub first_copied : {xs : List ℕ} → xs ≡ take n s → InFront cat begun.what (xs ++ drop n (replicate 255 0))
  first_copied e = first_held (ap₂ (λ x m. x ++ drop m (replicate 255 0)) (e ∙ sym (take-length (take n s))) whole_long)

-- ---- the next item

every_place : (i : ℕ) → i < 8 → listed 255 (suc i) ≡ true
unfolding listed cut total
every_place i h = let z : suc i - 1 ≡ i = omega arith in ap (λ j. eqb (get_or (replicate 8 1) j 0) 1) z ∙ ap (λ x. eqb x 1) (get_or-replicate 8 i 1 0 h)

module _ {cat : ℕ} {q : Contents} {xs : List ℕ} (h : InFront cat q xs) (i : ℕ) (hi : i < items_of cat) where
  abbrev gone : Contents
  gone = set_item i 0 (blank_at (paper_of cat) i) q

  gone_okay : T ((body (paper_of cat)).okay gone)
  gone_okay =
      (set-spliced (paper_of cat) (few_items cat) i hi 0 (omega arith) (blank_at (paper_of cat) i) (blank_okay (paper_of cat) i hi) q (read_okay h.octets (reading h)) [] (blank-text (paper_of cat) i (blank_at (paper_of cat) i))).okay

  -- the desk takes it away
  removed : edit_of cat xs 255 (suc i) remove (length xs) ≡ accepted (write_frame (body (paper_of cat)) gone)
  unfolding edit_of edit_in afresh with_room field_of change is_item
  removed =
      let z : suc i - 1 ≡ i = omega arith in
      let room : length (write_frame (body (paper_of cat)) gone) ≤ length xs = omega (arith, short cat h.known_is gone gone_okay, h.long) in
      rw (h.known_is, h.reads, le-leb 1 (suc i) (omega arith), le-leb (suc i) (items_of cat) (omega arith), every_place i (omega (arith, few_items cat)), z, le-leb (length (write_frame (body (paper_of cat)) gone)) (length xs) room) refl

  gone_held : InFront cat gone (after (edit_of cat xs 255 (suc i) remove (length xs)) xs)
  unfolding after
  gone_held = rw removed (in_front cat h.known_is gone gone_okay xs h.octets h.long)

  -- one that is not there is gone already
  none_gone : listed (get_or xs 1 0) (suc i) ≡ false → gone ≡ q
  unfolding listed change
  none_gone e =
      let k = read_okay h.octets (reading h) in
      let ind : get_or xs 1 0 ≡ q.0 = ap (λ l. get_or l 1 0) (field_all (paper_of cat) xs q (read_front h.octets (reading h))) in
      let z : suc i - 1 ≡ i = omega arith in
      let f : eqb (get_or (flags q.0) i 0) 1 ≡ false = subst (λ j. eqb (get_or (flags q.0) j 0) 1 ≡ false) z (subst (λ m. eqb (get_or (flags m) (suc i - 1) 0) 1 ≡ false) ind e) in
      let w : change (paper_of cat) i remove q ≡ accepted q = remove_absent (paper_of cat) (few_items cat) i hi q k (flag_zero q.0 i (indicator_lt (paper_of cat) q k) f) in
      cc

pub next_held : {cat : ℕ} (r : Contents) {xs : List ℕ} (withheld n : ℕ) → InFront cat (without (paper_of cat) withheld n r) xs → n < items_of cat
    → {item : ℕ} → item ≡ suc n → {ys : List ℕ} → ys ≡ passed_of cat xs withheld item → InFront cat (without (paper_of cat) withheld (suc n) r) ys
unfolding without passed_of
next_held {cat} r {xs} withheld n h hi {item} ei {ys} ey =
    subst (InFront cat (without (paper_of cat) withheld (suc n) r)) (sym (ey ∙ ap (passed_of cat xs withheld) ei)) (go (listed withheld (suc n)) (listed (get_or xs 1 0) (suc n)) refl)
  where
    go : (x y : Bool) → listed (get_or xs 1 0) (suc n) ≡ y
        → InFront cat (pick x (gone h n hi) (without (paper_of cat) withheld n r)) (pick x (pick y (after (edit_of cat xs 255 (suc n) remove (length xs)) xs) xs) xs)
    go true true e = gone_held h n hi
    go true false e = subst (λ c. InFront cat c xs) (sym (none_gone h n hi e)) h
    go false y e = h

-- ---- behind the last item: the front is the copy

len_first : (xs : List ℕ) → len_of xs ≡ get_or xs 0 0
unfolding len_of
len_first [] = refl
len_first (x ∷ xs) = refl

pub all_passed : {cat : ℕ} {s : List ℕ} {n : ℕ} (r : Read cat s n) (withheld : ℕ) {xs : List ℕ} → InFront cat (left_of r withheld) xs → {m : ℕ} → m ≡ get_or xs 0 0 → {t : List ℕ} → t ≡ take m xs
    → {out out' : List ℕ} {a : Answer} → Leaves (with_room (length out) t) out a out' → Copied cat s withheld out a out'
all_passed {cat} {s} r withheld {xs} h {m} em {t} et {out} {out'} {a} l =
    let e : t ≡ copy_from r withheld = et ∙ ap (λ k. take k xs) (em ∙ sym (len_first xs)) ∙ (read_front h.octets (reading h)).front in
    subst (λ x. Leaves x out a out') (ap (with_room (length out)) e ∙ sym (copy_is r withheld (length out))) l

-- "a field that the reader refuses, whose refusal is passed on"
pub passed_on : (cat : ℕ) (s : List ℕ) {v : Surveyed} → v ≡ survey_of cat s → {n p : ℕ} → v.answer ≡ Refused n p → (withheld room : ℕ) → copy_of cat s withheld room ≡ refused n p
passed_on cat s ev ea withheld room = copy_refused cat s (read_refused cat s (sym (survey_answer cat s) ∙ ap (λ (x : Surveyed). x.answer) (sym ev) ∙ ea)) withheld room
