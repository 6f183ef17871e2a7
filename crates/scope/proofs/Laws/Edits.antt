-- Demand 3: "An edit by a slot gives exactly the field written afresh with that one item added, replaced or removed; every other item keeps its octets
-- and its turn; an item off the slot's list is refused".
use Rattle.std.specs.Prelude.{◌≡◌, ◌≢◌, Bool, eqb, take, drop}
use Rattle.std.proofs.Math.Path.{refl, sym, ap, ap₂, subst}
use Rattle.std.proofs.Common.{◌∙◌, arith, length-append}
use Rattle.std.proofs.Math.Bool.{true, false}
use mathlib.Core.List.{List, [], ◌∷◌, ◌++◌, append-nil}
use Prim.Native.Nat.{ℕ, suc, ◌+◌, ◌-◌, ◌≤◌, ◌<◌}
use Rattle.std.proofs.Math.Dec.{T, leb, leb→le}
use Rattle.std.proofs.Math.ListN.{length, get_or}
use Rattle.std.proofs.lemmas.List.{set-get_or}
use Rattle.std.proofs.Math.Seq.{get_or-set_same}
use Rattle.codec.specs.Pick.{pick}
use Rattle.codec.specs.Radix.{join, ones}
use Rattle.codec.specs.Codec.{Octets}
use Rattle.codec.specs.Field.{flags, Contents, body, texts_of, flat}
use Rattle.codec.specs.Frame.{Outcome, accepted, refused, read_frame, write_frame}
use Rattle.codec.specs.Meaning.{len_of}
use Rattle.codec.specs.Change.{Change, remove, set_flag, change}
use Rattle.codec.proofs.Laws.Tests.{and_l, holds}
use Rattle.codec.proofs.Laws.Field.{indicator_lt, flags-join, flag_zero, body_write, length-texts}
use Rattle.codec.proofs.Laws.Frame.{refused≢accepted}
use Rattle.codec.proofs.Laws.Change.{Splice, new_octets, new_flag, spliced, flat-set, remove_absent, others_keep_text, others_keep_flag}
use Rattle.papers.specs.Papers.{known, paper_of}
use Rattle.papers.proofs.Laws.Papers.{good_paper, few_items}
use Rattle.layout.specs.Answer.{Accepted, view_number}
use Rattle.layout.specs.Record.{flatten, contents}
use Rattle.layout.specs.Laws.Record.{unflatten-flatten}
use Rattle.scope.specs.Reading.{field_of, read_of}
use Rattle.scope.specs.Outputs.{with_room}
use Rattle.scope.specs.Writing.{written}
use Rattle.scope.specs.Views.{is_item, present, view_of, part_of}
use Rattle.scope.specs.Desk.{listed, afresh, edit_in, edit_of}
use Rattle.scope.proofs.Laws.Reading.{Read, read_made, kept_made, read_front, read_okay, afresh_read, afresh_octets}
use Rattle.scope.proofs.Laws.Views.{field_is, front_length, item_in, view_number_lem, part_is_text}

sums : (xs ys zs : List ℕ) → length (xs ++ (ys ++ zs)) ≡ length xs + (length ys + length zs)
sums xs ys zs = length-append xs (ys ++ zs) ∙ ap (length xs +◌) (length-append ys zs)

-- ---- what lies behind an edit that was accepted

pub record Edit (cat : ℕ) (s : List ℕ) (list item : ℕ) (ch : Change) (room : ℕ) (b : List ℕ) : Type 0 where
  pub read : Read cat s (len_of s)
  pub is_an_item : T (is_item (paper_of cat) item)
  pub on_list : listed list item ≡ true
  pub new : Contents
  pub change_is : change (paper_of cat) (item - 1) ch read.what ≡ accepted new
  pub octets_are : b ≡ write_frame (body (paper_of cat)) new
  pub has_room : length b ≤ room

module _ (cat : ℕ) (s : List ℕ) (list item : ℕ) (ch : Change) (room : ℕ) where
  pub edit_found : (b : List ℕ) → edit_of cat s list item ch room ≡ accepted b → Edit cat s list item ch room b
  unfolding edit_of edit_in afresh with_room field_of
  edit_found b e = field (known cat) refl (read_frame (body (paper_of cat)) s) refl e
    where
      roomy : (r q : Contents) → known cat ≡ true → read_frame (body (paper_of cat)) s ≡ accepted r → is_item (paper_of cat) item ≡ true → listed list item ≡ true → change (paper_of cat) (item - 1) ch r ≡ accepted q
          → (x : Bool) → leb (length (write_frame (body (paper_of cat)) q)) room ≡ x → pick x (accepted (write_frame (body (paper_of cat)) q)) (refused 11 0) ≡ accepted b → Edit cat s list item ch room b
      roomy r q k eb ei el ec true ex h =
          let same : write_frame (body (paper_of cat)) q ≡ b = cc in record {
            read = read_made cat s r k eb;
            is_an_item = subst T (sym ei) tt;
            on_list = el;
            new = q;
            change_is = ec;
            octets_are = sym same;
            has_room = subst (λ w. length w ≤ room) same (leb→le (length (write_frame (body (paper_of cat)) q)) room (subst T (sym ex) tt));
          }
      roomy r q k eb ei el ec false ex h = refused≢accepted h

      changed : (r : Contents) → known cat ≡ true → read_frame (body (paper_of cat)) s ≡ accepted r → is_item (paper_of cat) item ≡ true → listed list item ≡ true
          → (o : Outcome Contents) → change (paper_of cat) (item - 1) ch r ≡ o → afresh (paper_of cat) room o ≡ accepted b → Edit cat s list item ch room b
      changed r k eb ei el (accepted q) ec h = roomy r q k eb ei el ec (leb (length (write_frame (body (paper_of cat)) q)) room) refl h
      changed r k eb ei el (refused n p) ec h = refused≢accepted h

      tested : (r : Contents) → known cat ≡ true → read_frame (body (paper_of cat)) s ≡ accepted r → (x y : Bool) → is_item (paper_of cat) item ≡ x → listed list item ≡ y
          → pick x (pick y (afresh (paper_of cat) room (change (paper_of cat) (item - 1) ch r)) (refused 13 0)) (refused 12 0) ≡ accepted b → Edit cat s list item ch room b
      tested r k eb true true ei el h = changed r k eb ei el (change (paper_of cat) (item - 1) ch r) refl h
      tested r k eb true false ei el h = refused≢accepted h
      tested r k eb false y ei el h = refused≢accepted h

      field : (x : Bool) → known cat ≡ x → (f : Outcome Contents) → read_frame (body (paper_of cat)) s ≡ f → edit_in (paper_of cat) list item ch room (pick x f (refused 1 0)) ≡ accepted b → Edit cat s list item ch room b
      field true k (accepted r) eb h = tested r k eb (is_item (paper_of cat) item) (listed list item) refl refl h
      field true k (refused n p) eb h = refused≢accepted h
      field false k f eb h = refused≢accepted h

-- ---- the edited field

module _ {cat : ℕ} {s : List ℕ} {list item : ℕ} {ch : Change} {room : ℕ} {b : List ℕ} (os : Octets s) (on : Octets (new_octets ch)) (d : Edit cat s list item ch room b) where
  pub edit_splice : Splice (paper_of cat) (item - 1) (new_flag ch) (new_octets ch) d.read.what d.new
  edit_splice =
      spliced (paper_of cat) (few_items cat) (item - 1) (item_in d.read item d.is_an_item) (good_paper cat) ch on d.read.what d.new (read_okay os d.read) d.change_is

  -- it is accepted, and holds the changed contents
  pub edit_read : read_frame (body (paper_of cat)) b ≡ accepted d.new
  edit_read =
      subst (λ x. read_frame (body (paper_of cat)) x ≡ accepted d.new) (append-nil (write_frame (body (paper_of cat)) d.new) ∙ sym d.octets_are)
      (afresh_read cat d.new edit_splice.okay [])

  edit_len : len_of b ≡ length b
  unfolding len_of write_frame
  edit_len = rw d.octets_are refl

  abbrev pub read_edited : Read cat b (len_of b)
  read_edited = read_made cat b d.new d.read.known_is edit_read

  pub edited_octets : Octets b
  edited_octets = subst Octets (sym d.octets_are) (afresh_octets cat d.new edit_splice.okay)

  -- "exactly the field written afresh": the writing, by demand 2's definition, of the record with the changed contents, and it reads back to it
  pub edit_afresh : (b ≡ written (flatten cat (paper_of cat) d.new)) × (read_of cat b ≡ record { answer = Accepted (length b); kept = flatten cat (paper_of cat) d.new })
  unfolding written contents flatten write_frame
  edit_afresh = (
    d.octets_are ∙ ap (λ r. write_frame (body (paper_of cat)) r) (sym (unflatten-flatten cat (paper_of cat) d.new edit_splice.okay)),
    kept_made cat b d.new d.read.known_is edit_read ∙ ap (λ m. record { answer = Accepted m; kept = flatten cat (paper_of cat) d.new }) edit_len,
  )

  -- the edited item has the new octets, none for a removal
  pub edit_own : part_of b (view_of cat b item) ≡ new_octets ch
  unfolding texts_of
  edit_own =
      part_is_text read_edited item d.is_an_item edited_octets
      ∙ ap (λ ts. get_or ts (item - 1) []) edit_splice.texts_are
      ∙ get_or-set_same (texts_of (paper_of cat) d.read.what) (item - 1) (new_octets ch) []
      (rw (length-texts (flags d.read.what.0) (paper_of cat) d.read.what.1) (item_in d.read item d.is_an_item))

  -- "every other item keeps its octets", and is there or absent as before
  module _ (j : ℕ) (h : T (is_item (paper_of cat) j)) (n : j ≢ item) where
    pub places_differ : j - 1 ≢ item - 1
    unfolding is_item
    places_differ e =
        let a : 1 ≤ j = leb→le 1 j (and_l (leb 1 j) _ h) in
        let c : 1 ≤ item = leb→le 1 item (and_l (leb 1 item) _ d.is_an_item) in
        n (omega arith)

    pub others_octets : part_of b (view_of cat b j) ≡ part_of s (view_of cat s j)
    others_octets =
        part_is_text read_edited j h edited_octets ∙ others_keep_text edit_splice (j - 1) places_differ ∙ sym (part_is_text d.read j h os)

    pub others_present : view_number (view_of cat b j) ≡ view_number (view_of cat s j)
    unfolding present
    others_present =
        view_number_lem read_edited j h
        ∙ ap (λ x. pick (eqb x 1) 0 15) (others_keep_flag edit_splice (j - 1) places_differ)
        ∙ sym (view_number_lem d.read j h)

  -- "and its turn": beside the edited item, what stands before it and what stands behind it are as they were, and only LEN and the item's own bit change
  pub record Around : Type 0 where
    pub front : List ℕ
    pub back : List ℕ
    pub was : take (len_of s) s ≡ len_of s ∷ d.read.what.0 ∷ (front ++ (part_of s (view_of cat s item) ++ back))
    pub is : b ≡ length b ∷ set_flag d.read.what.0 (item - 1) (new_flag ch) ∷ (front ++ (new_octets ch ++ back))

  edit_indicator : d.new.0 ≡ set_flag d.read.what.0 (item - 1) (new_flag ch)
  unfolding set_flag
  edit_indicator = sym (flags-join d.new.0 (indicator_lt (paper_of cat) d.new edit_splice.okay)) ∙ ap (join ones) edit_splice.flags_are

  pub edit_around : Around
  unfolding texts_of write_frame
  edit_around =
      let ts : List (List ℕ) = texts_of (paper_of cat) d.read.what in
      let i : ℕ = item - 1 in
      let h : i < length ts = rw (length-texts (flags d.read.what.0) (paper_of cat) d.read.what.1) (item_in d.read item d.is_an_item) in
      let own : get_or ts i [] ≡ part_of s (view_of cat s item) = sym (part_is_text d.read item d.is_an_item os) in
      let len : suc (length ((body (paper_of cat)).write d.new)) ≡ length b = ap length (sym d.octets_are) in record {
        front = flat (take i ts);
        back = flat (drop (suc i) ts);
        was = field_is (paper_of cat) s d.read.what (read_front os d.read)
            ∙ ap (λ x. len_of s ∷ d.read.what.0 ∷ x)
            (ap flat (sym (set-get_or ts i [])) ∙ flat-set ts i (get_or ts i []) h ∙ ap (λ x. flat (take i ts) ++ (x ++ flat (drop (suc i) ts))) own);
        is = d.octets_are
            ∙ ap₂ ◌∷◌ len (body_write (paper_of cat) d.new ∙ ap₂ ◌∷◌ edit_indicator (ap flat edit_splice.texts_are ∙ flat-set ts i (new_octets ch) h));
      }

  -- so the field grows by the difference, not by the new length
  pub edit_grows : length b + length (part_of s (view_of cat s item)) ≡ len_of s + length (new_octets ch)
  edit_grows =
      let a = edit_around in
      let p : length (take (len_of s) s) ≡ suc (suc (length a.front + (length (part_of s (view_of cat s item)) + length a.back)))
      = ap length a.was ∙ ap (λ m. suc (suc m)) (sums a.front (part_of s (view_of cat s item)) a.back) in
      let q : length b ≡ suc (suc (length a.front + (length (new_octets ch) + length a.back)))
      = ap length a.is ∙ ap (λ m. suc (suc m)) (sums a.front (new_octets ch) a.back) in
      let r : length (take (len_of s) s) ≡ len_of s = front_length (paper_of cat) s d.read.what (read_front os d.read) in
      omega arith

-- ---- "an item off the slot's list is refused"

module _ (cat : ℕ) (s : List ℕ) (list item : ℕ) (ch : Change) (room : ℕ) where
  -- whatever else is right
  pub off_list : listed list item ≡ false → (b : List ℕ) → edit_of cat s list item ch room ≡ accepted b → ⊥
  off_list h b e =
      let d = edit_found cat s list item ch room b e in
      let z : true ≡ false = sym d.on_list ∙ h in
      let y : ◌≡◌ {A = ℕ} 0 1 = cc in omega arith

  -- and by 13, where the field and the item number are right
  pub off_list_13 : (n : ℕ) → Read cat s n → T (is_item (paper_of cat) item) → listed list item ≡ false → edit_of cat s list item ch room ≡ refused 13 0
  unfolding edit_of edit_in field_of
  off_list_13 n r t h = rw (r.known_is, r.body_is, holds (is_item (paper_of cat) item) t, h) refl

  -- only the item's own place of the list counts: "its spare places have no effect"
  pub one_place : (other : ℕ) → listed list item ≡ listed other item → edit_of cat s list item ch room ≡ edit_of cat s other item ch room
  unfolding edit_of edit_in
  one_place other h = go (field_of cat s)
    where
      go : (f : Outcome Contents) → edit_in (paper_of cat) list item ch room f ≡ edit_in (paper_of cat) other item ch room f
      go (accepted r) = ap (λ x. pick (is_item (paper_of cat) item) (pick x (afresh (paper_of cat) room (change (paper_of cat) (item - 1) ch r)) (refused 13 0)) (refused 12 0)) h
      go (refused n p) = refl

-- ---- "Removing an absent item gives the field itself"

pub absent_removed : (cat : ℕ) (s : List ℕ) (list item room : ℕ) → Octets s → (n : ℕ) (r : Read cat s n) → T (is_item (paper_of cat) item) → listed list item ≡ true → present r.what item ≡ false
    → edit_of cat s list item remove room ≡ with_room room (take n s)
unfolding edit_of edit_in field_of afresh present
absent_removed cat s list item room o n r t l a =
    let f = read_front o r in
    let i : ℕ = item - 1 in
    let k : T ((body (paper_of cat)).okay r.what) = read_okay o r in
    let z : get_or (flags r.what.0) i 0 ≡ 0 = flag_zero r.what.0 i (indicator_lt (paper_of cat) r.what k) a in
    let c : change (paper_of cat) i remove r.what ≡ accepted r.what
    = remove_absent (paper_of cat) (few_items cat) i (item_in r item t) r.what k z in
    rw (r.known_is, r.body_is, holds (is_item (paper_of cat) item) t, l, c) (ap (with_room room) (sym f.front ∙ ap (λ m. take m s) (sym r.len_is)))
