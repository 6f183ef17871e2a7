-- The ways out of the desk: each answers what 01 defines.
use Rattle.std.specs.Prelude.{◌≡◌, Bool, ◌&&◌, take, replicate, Result, Ok, Err}
use Rattle.std.proofs.Math.Path.{refl, sym, ap, ap₂, subst}
use Rattle.std.proofs.Common.{◌∙◌, subst₂, leb→le, length-take}
use Rattle.std.proofs.Math.Bool.{true, false}
use mathlib.Core.List.{List, [], ◌∷◌, ◌++◌, head-eq_of_cons-eq}
use Prim.Native.Nat.{ℕ, zero, suc, ◌+◌, ◌-◌, ◌≤◌, ◌<◌}
use Rattle.std.proofs.Math.Nat.{le_trans}
use native.Mathlib.Omega.{arith}
use borrow.Author.Tests.{lt-ltb}
use Rattle.std.proofs.Math.Dec.{T, leb}
use Rattle.std.proofs.Math.ListN.{length, get_or}
use Rattle.codec.specs.Pick.{pick}
use Rattle.codec.specs.Codec.{Octets}
use Rattle.codec.specs.Field.{flags, Contents, body, texts_of, flat, before}
use Rattle.codec.specs.Frame.{Outcome, accepted, refused, read_frame, write_frame}
use Rattle.codec.specs.Meaning.{len_of}
use Rattle.codec.specs.Change.{Change, remove, put, set_flag, set_item, blank_at, alone, put_in, change}
use Rattle.codec.proofs.Laws.Tests.{and_l}
use Rattle.codec.proofs.Laws.Frame.{Front}
use Rattle.codec.proofs.Laws.Field.{length-texts}
use Rattle.codec.proofs.Laws.View.{before_most}
use Rattle.codec.proofs.Laws.Longest.{field_size}
use Rattle.codec.proofs.Laws.Change.{Splice, new_octets, new_flag, spliced}
use Rattle.papers.specs.Papers.{LONGEST, known, paper_of, items_of}
use Rattle.papers.proofs.Laws.Papers.{good_paper, few_items, few_octets}
use Rattle.layout.specs.declared.Refusal.{Refusal}
use Rattle.layout.specs.declared.Survey.{Survey}
use Rattle.layout.specs.Answer.{Answer, Accepted, Refused, Surveyed, survey_by_number}
use Rattle.scope.specs.Reading.{field_of}
use Rattle.scope.specs.Outputs.{with_room, Leaves}
use Rattle.scope.specs.Views.{is_item}
use Rattle.scope.specs.Desk.{listed, is_accepted, right_of, item_is, afresh, edit_in, edit_of, Edited}
use Rattle.layout.specs.Laws.Answer.{Refused≢Accepted, Accepted≢Refused}
use Rattle.scope.proofs.Laws.Reading.{Read, read_made, read_front, read_okay}
use Rattle.scope.proofs.Laws.Views.{field_is, front_length, item_in}
use Rattle.scope.specs.Survey.{starts_from, surveyed, survey_of}
use Rattle.reader.specs.Laws.Surveys.{begins, ends}
use Rattle.desk.specs.Asking.{asked_of}
use Rattle.desk.specs.Laws.Asking.{asked_right}
use Rattle.desk.specs.Splicing.{splice_of}
use Rattle.desk.specs.Laws.Splicing.{splice_afresh}
use Rattle.desk.specs.Edits.{with_number, allowed_by, allowed_of, emptied_by, emptied, exchange_of, Exchangeable}

-- the ways out of `allowed`
module _ (cat : ℕ) (s : List ℕ) (list item : ℕ) {v : Surveyed} (ev : v ≡ survey_of cat s) where
  by_answer : {a : Answer} → v.answer ≡ a → allowed_of cat s list item ≡ allowed_by (asked_of cat list item) v a
  unfolding allowed_of
  by_answer ea = ap₂ (λ x y. allowed_by (asked_of cat list item) x y) (sym ev) (ap (λ (x : Surveyed). x.answer) (sym ev) ∙ ea)

  pub allowed_refused : {n p : ℕ} → v.answer ≡ Refused n p → v ≡ allowed_of cat s list item
  allowed_refused ea = sym (by_answer ea)

  module _ {n : ℕ} (ea : v.answer ≡ Accepted n) {no : ℕ} (eno : no ≡ asked_of cat list item) where
    by_number : allowed_of cat s list item ≡ with_number no v
    by_number = by_answer ea ∙ ap (λ m. with_number m v) (sym eno)

    pub allowed_yes : no ≡ 0 → v ≡ allowed_of cat s list item
    allowed_yes z = sym (by_number ∙ ap (λ m. with_number m v) z)

    pub allowed_no : (no ≡ 0 → ⊥) → ◌≡◌ {A = Surveyed} (record { answer = Refused no 0; items = v.items; starts = v.starts }) (allowed_of cat s list item)
    allowed_no h = go no h ∙ sym by_number
      where
        go : (m : ℕ) → (m ≡ 0 → ⊥) → ◌≡◌ {A = Surveyed} (record { answer = Refused m 0; items = v.items; starts = v.starts }) (with_number m v)
        go zero h = absurd (h refl)
        go (suc m) h = refl

-- what the code surveys is so emptied
pub emptied_told : (r : Result Survey Refusal) → survey_by_number r ≡ emptied (survey_by_number r)
emptied_told (Ok v) = refl
emptied_told (Err r) = refl

-- and so is every survey: that of a refused field has zeros
pub emptied_survey : (cat : ℕ) (s : List ℕ) → survey_of cat s ≡ emptied (survey_of cat s)
unfolding survey_of surveyed
emptied_survey cat s = go (field_of cat s)
  where
    go : (y : Outcome Contents) → surveyed cat s y ≡ emptied (surveyed cat s y)
    go (accepted r) = refl
    go (refused n p) = refl

-- the ways out of `allowed` as code gives them
module _ (cat : ℕ) (s : List ℕ) (list item : ℕ) {v : Surveyed} (ev : v ≡ survey_of cat s) where
  still : v ≡ emptied v
  still = ev ∙ emptied_survey cat s ∙ ap emptied (sym ev)

  pub emptied_refused : {n p : ℕ} → v.answer ≡ Refused n p → v ≡ emptied (allowed_of cat s list item)
  emptied_refused ea = still ∙ ap emptied (allowed_refused cat s list item ev ea)

  module _ {n : ℕ} (ea : v.answer ≡ Accepted n) {no : ℕ} (eno : no ≡ asked_of cat list item) where
    pub emptied_yes : no ≡ 0 → v ≡ emptied (allowed_of cat s list item)
    emptied_yes z = still ∙ ap emptied (allowed_yes cat s list item ev ea eno z)

    pub emptied_no : (no ≡ 0 → ⊥) → ◌≡◌ {A = Surveyed} (record { answer = Refused no 0; items = 0; starts = replicate 9 0 }) (emptied (allowed_of cat s list item))
    emptied_no h = ap emptied (allowed_no cat s list item ev ea eno h)

-- the way out of `exchanged`: w is the item's number
module _ (f : List ℕ) (len : ℕ) (starts : List ℕ) (item : ℕ) (t : List ℕ) {w : ℕ} (ew : w ≡ item) where
  module _ {from to : ℕ} (ef : from ≡ get_or starts (w - 1) 0) (et : to ≡ get_or starts w 0) where
    pub exchange_parts : Exchangeable f len starts item t → (2 ≤ from) × (from ≤ to) × (to ≤ length (take len f)) × (from + length t + (length (take len f) - to) ≤ 255)
    exchange_parts x = rw (ef, et, ew) x.parts

    pub exchange_leaves : (n : ℕ) {out out' : List ℕ} {a : Answer} → Leaves (with_room (length out) (splice_of n (take len f) from to t)) out a out' → Leaves (with_room (length out) (exchange_of n f len starts item t)) out a out'
    unfolding exchange_of
    exchange_leaves n {out} {out'} {a} l =
        subst (λ i. Leaves (with_room (length out) (splice_of n (take len f) (get_or starts (i - 1) 0) (get_or starts i 0) t)) out a out') ew
        (subst₂ (λ x y. Leaves (with_room (length out) (splice_of n (take len f) x y t)) out a out') ef et l)

module _ (cat : ℕ) (s : List ℕ) {v : Surveyed} (ev : v ≡ survey_of cat s) where
  -- "A refusal of the field is the answer, with its number and place"
  pub edit_refused : {n p : ℕ} → v.answer ≡ Refused n p → (list item : ℕ) (ch : Change) (room : ℕ) → edit_of cat s list item ch room ≡ refused n p
  unfolding edit_of edit_in survey_of surveyed
  edit_refused {n} {p} e list item ch room = go (field_of cat s) (sym (ap (λ (x : Surveyed). x.answer) ev) ∙ e)
    where
      go : (o : Outcome Contents) → (surveyed cat s o).answer ≡ Refused n p → edit_in (paper_of cat) list item ch room o ≡ refused n p
      go (accepted r) h = Accepted≢Refused h
      go (refused m q) h = cc

  -- what was surveyed of a field that was accepted
  pub record Found (n : ℕ) : Type 0 where
    pub read : Read cat s (len_of s)
    pub len_is : n ≡ len_of s
    pub items_are : v.items ≡ read.what.0
    pub starts_are : v.starts ≡ starts_from 2 (texts_of (paper_of cat) read.what) ++ replicate (8 - items_of cat) 0

  pub edit_found : {n : ℕ} → v.answer ≡ Accepted n → Found n
  unfolding survey_of surveyed field_of
  edit_found {n} e = go (known cat) refl (read_frame (body (paper_of cat)) s) refl ev (sym (ap (λ (x : Surveyed). x.answer) ev) ∙ e)
    where
      go : (b : Bool) → known cat ≡ b → (o : Outcome Contents) → read_frame (body (paper_of cat)) s ≡ o → v ≡ surveyed cat s (pick b o (refused 1 0)) → (surveyed cat s (pick b o (refused 1 0))).answer ≡ Accepted n → Found n
      go true eb (accepted r) eo w h = record { read = read_made cat s r eb eo; len_is = cc; items_are = ap (λ (x : Surveyed). x.items) w; starts_are = ap (λ (x : Surveyed). x.starts) w }
      go true eb (refused m q) eo w h = Refused≢Accepted h
      go false eb o eo w h = Refused≢Accepted h

-- the field stands in the slice
pub len_within : (cat : ℕ) (s : List ℕ) → Octets s → {v : Surveyed} → v ≡ survey_of cat s → {n : ℕ} → v.answer ≡ Accepted n → (n ≤ length s) × (length (take n s) ≡ n)
len_within cat s os ev {n} ea =
    let f = edit_found cat s ev ea in
    let l : length (take n s) ≡ n = ap (λ m. length (take m s)) f.len_is ∙ front_length (paper_of cat) s f.read.what (read_front os f.read) ∙ sym f.len_is in
    (omega (arith, length-take n s, l), l)

-- ---- the field was accepted

module _ (cat : ℕ) (s : List ℕ) {v : Surveyed} (ev : v ≡ survey_of cat s) {n : ℕ} (ea : v.answer ≡ Accepted n) where
  pub found : Found cat s ev n
  found = edit_found cat s ev ea

  abbrev pub r : Contents
  r = found.read.what

  by_item : (list item : ℕ) (ch : Change) (room : ℕ) → edit_of cat s list item ch room ≡ edit_in (paper_of cat) list item ch room (accepted r)
  unfolding edit_of field_of
  by_item list item ch room = rw (found.read.known_is, found.read.body_is) refl

  -- 12, 13
  pub edit_unasked : (list item : ℕ) (ch : Change) (room : ℕ) {no : ℕ} → no ≡ asked_of cat list item → (no ≡ 0 → ⊥) → edit_of cat s list item ch room ≡ refused no 0
  unfolding edit_in asked_of
  edit_unasked list item ch room {no} e h = by_item list item ch room ∙ go (is_item (paper_of cat) item) (listed list item) e
    where
      go : (x y : Bool) → no ≡ pick x (pick y 0 13) 12 → pick x (pick y (afresh (paper_of cat) room (change (paper_of cat) (item - 1) ch r)) (refused 13 0)) (refused 12 0) ≡ refused no 0
      go true true e = absurd (h e)
      go true false e = ap (λ m. refused m 0) (sym e)
      go false y e = ap (λ m. refused m 0) (sym e)

  module _ (list item : ℕ) {no : ℕ} (eno : no ≡ asked_of cat list item) (z : no ≡ 0) where
    asked : (is_item (paper_of cat) item ≡ true) × (listed list item ≡ true)
    asked = asked_right cat list item (sym eno ∙ z)

    item_there : item - 1 < items_of cat
    item_there = item_in found.read item (subst T (sym asked.0) tt)

    pub item_low : (1 ≤ item) × (item - 1 < 8)
    unfolding is_item
    item_low =
        let t : T (leb 1 item && leb item (items_of cat)) = subst T (sym asked.0) tt in
        (leb→le 1 item (and_l (leb 1 item) _ t), omega (arith, item_there, few_items cat))

    by_change : (ch : Change) (room : ℕ) → edit_of cat s list item ch room ≡ afresh (paper_of cat) room (change (paper_of cat) (item - 1) ch r)
    unfolding edit_in
    by_change ch room = by_item list item ch room ∙ rw (asked.0, asked.1) refl

    alone_is : (t : List ℕ) → field_of cat (alone (item - 1) t) ≡ read_frame (body (paper_of cat)) (alone (item - 1) t)
    unfolding field_of
    alone_is t = rw found.read.known_is refl

    -- the octets were asked of an item of the category
    pub item_asked : (t : List ℕ) {i : ℕ} → i ≡ item - 1 → {b : Bool} → b ≡ item_is cat i t → b ≡ right_of cat (item - 1) t
    unfolding item_is
    item_asked t ei eb = eb ∙ ap (λ j. item_is cat j t) ei ∙ rw (found.read.known_is, lt-ltb (item - 1) (items_of cat) item_there) refl

    -- 14
    pub edit_wrong : (t : List ℕ) (room : ℕ) → right_of cat (item - 1) t ≡ false → edit_of cat s list item (put t) room ≡ refused 14 0
    unfolding right_of change afresh put_in
    edit_wrong t room e =
        by_change (put t) room
        ∙ ap (afresh (paper_of cat) room) (go (leb 1 (length t) && leb (length t) 253) (read_frame (body (paper_of cat)) (alone (item - 1) t)) (ap (λ o. (leb 1 (length t) && leb (length t) 253) && is_accepted o) (sym (alone_is t)) ∙ e))
      where
        go : (b : Bool) (o : Outcome Contents) → b && is_accepted o ≡ false → put_in (item - 1) r b o ≡ refused 14 0
        go false o h = refl
        go true (refused m p) h = refl
        go true (accepted q) h = absurd (subst T h tt)

    pub edit_right : (t : List ℕ) → right_of cat (item - 1) t ≡ true → (q : Contents) × (change (paper_of cat) (item - 1) (put t) r ≡ accepted q)
    unfolding right_of change put_in
    edit_right t e = go (leb 1 (length t) && leb (length t) 253) (read_frame (body (paper_of cat)) (alone (item - 1) t)) (ap (λ o. (leb 1 (length t) && leb (length t) 253) && is_accepted o) (sym (alone_is t)) ∙ e)
      where
        go : (b : Bool) (o : Outcome Contents) → b && is_accepted o ≡ true → (q : Contents) × (put_in (item - 1) r b o ≡ accepted q)
        go false o h = absurd (subst T (sym h) tt)
        go true (refused m p) h = absurd (subst T (sym h) tt)
        go true (accepted q) h = (set_item (item - 1) 1 (get_or q.1 (item - 1) (0, [])) r, refl)

    -- a removal is always right
    pub edit_removes : (q : Contents) × (change (paper_of cat) (item - 1) remove r ≡ accepted q)
    unfolding change
    edit_removes = (set_item (item - 1) 0 (blank_at (paper_of cat) (item - 1)) r, refl)

    -- ---- the changed field is spliced

    module _ (os : Octets s) (ch : Change) (on : Octets (new_octets ch)) (q : Contents) (ec : change (paper_of cat) (item - 1) ch r ≡ accepted q) where
      front : Front (body (paper_of cat)) s r
      front = read_front os found.read

      splice : Splice (paper_of cat) (item - 1) (new_flag ch) (new_octets ch) r q
      splice = spliced (paper_of cat) (few_items cat) (item - 1) item_there (good_paper cat) ch on r q (read_okay os found.read) ec

      from_is : get_or v.starts (item - 1) 0 ≡ 2 + before (texts_of (paper_of cat) r) (item - 1)
      from_is = ap (λ x. get_or x (item - 1) 0) found.starts_are ∙ begins cat r (replicate (8 - items_of cat) 0) (item - 1) item_there

      to_is : get_or v.starts (suc (item - 1)) 0 ≡ 2 + before (texts_of (paper_of cat) r) (item - 1) + length (get_or (texts_of (paper_of cat) r) (item - 1) [])
      to_is = ap (λ x. get_or x (suc (item - 1)) 0) found.starts_are ∙ ends cat r (replicate (8 - items_of cat) 0) (item - 1) item_there

      field_there : take n s ≡ len_of s ∷ r.0 ∷ flat (texts_of (paper_of cat) r)
      field_there = ap (λ m. take m s) found.len_is ∙ field_is (paper_of cat) s r front

      afresh_is : splice_of (set_flag r.0 (item - 1) (new_flag ch)) (take n s) (get_or v.starts (item - 1) 0) (get_or v.starts (suc (item - 1)) 0) (new_octets ch) ≡ write_frame (body (paper_of cat)) q
      afresh_is = splice_afresh (paper_of cat) (item - 1) (new_flag ch) (new_octets ch) r q splice item_there (len_of s) field_there from_is to_is

      -- it is what the edit gives
      edit_spliced : {ind from to : ℕ} → ind ≡ set_flag v.items (item - 1) (new_flag ch) → from ≡ get_or v.starts (item - 1) 0 → to ≡ get_or v.starts (suc (item - 1)) 0
          → {out out' : List ℕ} {a : Answer} → Leaves (with_room (length out) (splice_of ind (take n s) from to (new_octets ch))) out a out' → Edited cat s list item ch out a out'
      unfolding afresh
      edit_spliced {ind} {from} {to} ei ef et {out} {out'} {a} w =
          let e : splice_of ind (take n s) from to (new_octets ch) ≡ write_frame (body (paper_of cat)) q
          = (λ j. splice_of ((ei ∙ ap (λ x. set_flag x (item - 1) (new_flag ch)) found.items_are) j) (take n s) (ef j) (et j) (new_octets ch)) ∙ afresh_is in
          let o : with_room (length out) (splice_of ind (take n s) from to (new_octets ch)) ≡ edit_of cat s list item ch (length out)
          = ap (with_room (length out)) e ∙ sym (by_change ch (length out) ∙ ap (afresh (paper_of cat) (length out)) ec) in
          subst (λ x. Leaves x out a out') o w

      -- and may be put together
      splice-asks : (2 ≤ get_or v.starts (item - 1) 0) × (get_or v.starts (item - 1) 0 ≤ get_or v.starts (suc (item - 1)) 0) × (get_or v.starts (suc (item - 1)) 0 ≤ length (take n s))
          × (get_or v.starts (item - 1) 0 + length (new_octets ch) + (length (take n s) - get_or v.starts (suc (item - 1)) 0) ≤ 255)
      unfolding splice_of write_frame texts_of
      splice-asks =
          let ts : List (List ℕ) = texts_of (paper_of cat) r in
          let a = from_is in
          let b = to_is in
          let long : length (take n s) ≡ suc (suc (length (flat ts))) = ap length field_there in
          let most : before ts (item - 1) + length (get_or ts (item - 1) []) ≤ length (flat ts) = before_most ts (item - 1) (subst (item - 1 <◌) (sym (length-texts (flags r.0) (paper_of cat) r.1)) item_there) in
          let size : length (write_frame (body (paper_of cat)) q) ≤ LONGEST = le_trans (field_size (paper_of cat) q) (few_octets cat) in
          let e : get_or v.starts (item - 1) 0 + length (new_octets ch) + (length (take n s) - get_or v.starts (suc (item - 1)) 0) ≡ length (write_frame (body (paper_of cat)) q) = head-eq_of_cons-eq afresh_is in
          (omega arith, omega arith, omega arith, omega arith)

      same_item : suc (item - 1) ≡ item
      same_item = let l = item_low.0 in omega (arith, l)

      -- as the code asks it, and has it
      pub exchange_asks : Exchangeable s n v.starts item (new_octets ch)
      exchange_asks =
          let w = len_within cat s os ev ea in record {
            low = item_low.0;
            high = let l = item_low in omega (arith, l);
            within = w.0;
            whole = w.1;
            parts = subst (λ k. (2 ≤ get_or v.starts (item - 1) 0) × (get_or v.starts (item - 1) 0 ≤ get_or v.starts k 0) × (get_or v.starts k 0 ≤ length (take n s))
                × (get_or v.starts (item - 1) 0 + length (new_octets ch) + (length (take n s) - get_or v.starts k 0) ≤ 255)) same_item splice-asks;
          }

      pub edit_made : {ind : ℕ} → ind ≡ set_flag v.items (item - 1) (new_flag ch) → {out out' : List ℕ} {a : Answer}
          → Leaves (with_room (length out) (exchange_of ind s n v.starts item (new_octets ch))) out a out' → Edited cat s list item ch out a out'
      unfolding exchange_of
      edit_made ei l = edit_spliced ei refl (ap (λ j. get_or v.starts j 0) (sym same_item)) l

-- ---- what is allowed: the refusal is the edit's, and a field that is allowed was accepted and asked for rightly

module _ (cat : ℕ) (s : List ℕ) (list item : ℕ) {w : Surveyed} (ew : w ≡ allowed_of cat s list item) where
  pub allowed-found : {n : ℕ} → w.answer ≡ Accepted n → (w ≡ survey_of cat s) × (asked_of cat list item ≡ 0)
  unfolding allowed_of
  allowed-found {n} e = go (survey_of cat s).answer refl (asked_of cat list item) ew (ap (λ (x : Surveyed). x.answer) (sym ew) ∙ e)
    where
      go : (a : Answer) → (survey_of cat s).answer ≡ a → (m : ℕ) → w ≡ allowed_by m (survey_of cat s) a → (allowed_by m (survey_of cat s) a).answer ≡ Accepted n → (w ≡ survey_of cat s) × (m ≡ 0)
      go (Accepted k) ea zero x h = (x, refl)
      go (Accepted k) ea (suc m) x h = Refused≢Accepted h
      go (Refused k p) ea m x h = Refused≢Accepted (sym ea ∙ h)

  pub allowed-fell : {n p : ℕ} → w.answer ≡ Refused n p → (ch : Change) (room : ℕ) → edit_of cat s list item ch room ≡ refused n p
  unfolding allowed_of
  allowed-fell {n} {p} e ch room = go (survey_of cat s).answer refl (asked_of cat list item) refl (ap (λ (x : Surveyed). x.answer) (sym ew) ∙ e)
    where
      go : (a : Answer) → (survey_of cat s).answer ≡ a → (m : ℕ) → m ≡ asked_of cat list item → (allowed_by m (survey_of cat s) a).answer ≡ Refused n p → edit_of cat s list item ch room ≡ refused n p
      go (Accepted k) ea zero em h = Accepted≢Refused (sym ea ∙ h)
      go (Accepted k) ea (suc m) em h =
          let a1 : suc m ≡ n = cc in
          let a2 : 0 ≡ p = cc in
          edit_unasked cat s refl ea list item ch room em (λ z. omega arith) ∙ ap₂ refused a1 a2
      go (Refused k q) ea m em h = edit_refused cat s refl h list item ch room

-- as the code has it
module _ (cat : ℕ) (s : List ℕ) (list item : ℕ) {w : Surveyed} (ew : w ≡ emptied (allowed_of cat s list item)) where
  answer_is : (allowed_of cat s list item).answer ≡ w.answer
  answer_is = sym (by_case (allowed_of cat s list item) (allowed_of cat s list item).answer refl) ∙ ap (λ (x : Surveyed). x.answer) (sym ew)
    where
      by_case : (v : Surveyed) (a : Answer) → v.answer ≡ a → (emptied_by a v).answer ≡ a
      by_case v (Accepted n) e = e
      by_case v (Refused n p) e = refl

  pub emptied-found : {n : ℕ} → w.answer ≡ Accepted n → (w ≡ survey_of cat s) × (asked_of cat list item ≡ 0)
  emptied-found e = allowed-found cat s list item (ew ∙ ap (λ a. emptied_by a (allowed_of cat s list item)) (answer_is ∙ e)) e

  pub emptied-fell : {n p : ℕ} → w.answer ≡ Refused n p → (ch : Change) (room : ℕ) → edit_of cat s list item ch room ≡ refused n p
  emptied-fell e = allowed-fell cat s list item refl (answer_is ∙ e)
