-- 01, 'Views and the choice between two fields': "The views of the present items don't overlap and in order cover offsets 2 to LEN-1".
use Rattle.std.specs.Prelude.{◌≡◌, Bool, leb, take, drop}
use Rattle.std.proofs.Math.Path.{refl, sym, ap, ap₂}
use Rattle.std.proofs.Common.{◌∙◌, subst, le→leb, take-append-drop, drop_of_length-le, drop-cons}
use Rattle.std.proofs.Math.Bool.{true, false}
use mathlib.Core.List.{List, [], ◌∷◌, ◌++◌}
use Prim.Native.Nat.{ℕ, zero, suc, ◌+◌, ◌-◌, ◌≤◌, ◌<◌}
use native.Mathlib.Omega.{arith}
use Rattle.std.proofs.Math.Dec.{T, leb→le}
use Rattle.std.proofs.Math.ListN.{length, get_or}
use Rattle.std.proofs.Math.Seq.{drop-append-add}
use Rattle.codec.specs.Pick.{pick}
use Rattle.codec.specs.Codec.{Octets}
use Rattle.codec.specs.Item.{Item}
use Rattle.codec.specs.Field.{flags, Contents, body, texts_of, flat, before}
use Rattle.codec.specs.Frame.{Outcome, accepted, refused, read_frame, write_frame}
use Rattle.codec.specs.Meaning.{len_of}
use Rattle.codec.proofs.Laws.Tests.{and_in, and_l, and_r, holds}
use Rattle.codec.proofs.Laws.Field.{body_write, length-texts, text_absent}
use Rattle.codec.proofs.Laws.Frame.{Front}
use Rattle.codec.proofs.Laws.View.{view_flat, before_mono, before_most}
use Rattle.papers.specs.Papers.{known, paper_of, items_of}
use Rattle.layout.specs.Answer.{View, Shown, Hidden, view_number}
use Rattle.layout.specs.declared.Which.TheVariants.{Neither, Base, Correction}
use Rattle.scope.specs.Reading.{field_of}
use Rattle.scope.specs.Views.{is_item, present, standing, view_in, view_of, part_of, choose_in, choose_of}
use Rattle.scope.proofs.Laws.Reading.{Read, read_made, one_reading, read_front}

-- ---- a field that was read is LEN, the indicator and the texts of its items, and then whatever follows

pub field_is : (its : List Item) (s : List ℕ) (r : Contents) → Front (body its) s r → take (len_of s) s ≡ len_of s ∷ r.0 ∷ flat (texts_of its r)
unfolding write_frame
field_is its s r f = f.front ∙ ap₂ ◌∷◌ f.len_is (body_write its r)

pub field_all : (its : List Item) (s : List ℕ) (r : Contents) → Front (body its) s r → s ≡ len_of s ∷ r.0 ∷ (flat (texts_of its r) ++ drop (len_of s) s)
field_all its s r f = sym (take-append-drop (len_of s) s) ∙ ap (◌++ drop (len_of s) s) (field_is its s r f)

pub front_length : (its : List Item) (s : List ℕ) (r : Contents) → Front (body its) s r → length (take (len_of s) s) ≡ len_of s
front_length its s r f = ap length f.front ∙ f.len_is

standing_part : (its : List Item) (s : List ℕ) (r : Contents) → Front (body its) s r → (item : ℕ) → item - 1 < length its
    → part_of s (standing its r item) ≡ get_or (texts_of its r) (item - 1) []
unfolding part_of standing texts_of
standing_part its s r f item h =
    let ts : List (List ℕ) = texts_of its r in
    let i : ℕ = item - 1 in
    let rest : List ℕ = drop (len_of s) s in
    let k : i < length ts = subst (i <◌) (sym (length-texts (flags r.0) its r.1)) h in
    ap (λ x. take (length (get_or ts i [])) (drop (2 + before ts i) x)) (field_all its s r f)
    ∙ ap (take (length (get_or ts i []))) (drop-append-add (len_of s ∷ r.0 ∷ []) (flat ts ++ rest) (before ts i))
    ∙ view_flat ts rest i k

absent_part : (its : List Item) (r : Contents) (item : ℕ) → present r item ≡ false → get_or (texts_of its r) (item - 1) [] ≡ []
unfolding present texts_of
absent_part its r item e = text_absent (flags r.0) its r.1 (item - 1) e

IsShown : View → Type 0
IsShown (Shown a m) = Unit {0}
IsShown (Hidden e p) = ⊥

Hidden≢Shown {ℓ} : {X : Type ℓ} {e p a m : ℕ} → Hidden e p ≡ Shown a m → X
unfolding IsShown
Hidden≢Shown h = absurd (subst IsShown (sym h) tt)

-- ---- items and their indices: items are counted from 1

pub nth_item : (its : List Item) (i : ℕ) → i < length its → T (is_item its (suc i))
unfolding is_item
nth_item its i h = and_in (leb 1 (suc i)) _ (le→leb 1 (suc i) (omega arith)) (le→leb (suc i) (length its) (omega arith))

-- ---- the part that a view names, of an item that is there or not

module _ {cat : ℕ} {s : List ℕ} {n : ℕ} (r : Read cat s n) (item : ℕ) (h : T (is_item (paper_of cat) item)) where
  item_low : 1 ≤ item
  unfolding is_item
  item_low = leb→le 1 item (and_l (leb 1 item) _ h)

  pub item_in : item - 1 < items_of cat
  unfolding is_item
  item_in = let a : 1 ≤ item = item_low in let b : item ≤ items_of cat = leb→le item (items_of cat) (and_r (leb 1 item) _ h) in omega arith

  pub item_next : suc (item - 1) ≡ item
  item_next = let a : 1 ≤ item = item_low in omega arith

  viewed : {b : Bool} → present r.what item ≡ b → view_of cat s item ≡ pick b (standing (paper_of cat) r.what item) (Hidden 15 0)
  unfolding view_of view_in field_of
  viewed e = rw (r.known_is, r.body_is, holds (is_item (paper_of cat) item) h, e) refl

  pub view_present : present r.what item ≡ true → view_of cat s item ≡ standing (paper_of cat) r.what item
  view_present e = viewed e

  pub view_absent : present r.what item ≡ false → view_of cat s item ≡ Hidden 15 0
  view_absent e = viewed e

  -- its number says whether the item is there
  pub view_number_lem : view_number (view_of cat s item) ≡ pick (present r.what item) 0 15
  unfolding view_number standing
  view_number_lem = ap view_number (viewed refl) ∙ go (present r.what item)
    where
      go : (b : Bool) → view_number (pick b (standing (paper_of cat) r.what item) (Hidden 15 0)) ≡ pick b 0 15
      go true = refl
      go false = refl

  pub part_is_text : Octets s → part_of s (view_of cat s item) ≡ get_or (texts_of (paper_of cat) r.what) (item - 1) []
  unfolding part_of
  part_is_text o = go (present r.what item) refl
    where
      go : (b : Bool) → present r.what item ≡ b → part_of s (view_of cat s item) ≡ get_or (texts_of (paper_of cat) r.what) (item - 1) []
      go true e = ap (part_of s) (view_present e) ∙ standing_part (paper_of cat) s r.what (read_front o r) item item_in
      go false e = ap (part_of s) (view_absent e) ∙ sym (absent_part (paper_of cat) r.what item e)

-- ---- inside LEN, behind each other

-- what lies behind an item that is shown
pub record Seen (cat : ℕ) (s : List ℕ) (item a m : ℕ) : Type 0 where
  pub read : Read cat s (len_of s)
  pub is_an_item : T (is_item (paper_of cat) item)
  pub start_is : a ≡ 2 + before (texts_of (paper_of cat) read.what) (item - 1)
  pub length_is : m ≡ length (get_or (texts_of (paper_of cat) read.what) (item - 1) [])

pub seen : (cat : ℕ) (s : List ℕ) (item a m : ℕ) → view_of cat s item ≡ Shown a m → Seen cat s item a m
unfolding view_of view_in field_of standing
seen cat s item a m e = known_or (known cat) refl (read_frame (body (paper_of cat)) s) refl e
  where
    there : (r : Contents) → known cat ≡ true → read_frame (body (paper_of cat)) s ≡ accepted r → (x y : Bool) → is_item (paper_of cat) item ≡ x
        → pick x (pick y (standing (paper_of cat) r item) (Hidden 15 0)) (Hidden 12 0) ≡ Shown a m → Seen cat s item a m
    there r k b true true ex h = record {
      read = read_made cat s r k b;
      is_an_item = subst T (sym ex) tt;
      start_is = cc;
      length_is = cc;
    }
    there r k b true false ex h = Hidden≢Shown h
    there r k b false y ex h = Hidden≢Shown h

    known_or : (x : Bool) → known cat ≡ x → (f : Outcome Contents) → read_frame (body (paper_of cat)) s ≡ f → view_in (paper_of cat) item (pick x f (refused 1 0)) ≡ Shown a m → Seen cat s item a m
    known_or true k (accepted r) b h = there r k b (is_item (paper_of cat) item) (present r item) refl h
    known_or true k (refused e p) b h = Hidden≢Shown h
    known_or false k f b h = Hidden≢Shown h

module _ (cat : ℕ) (s : List ℕ) (o : Octets s) where
  texts-many : (q : Read cat s (len_of s)) → length (texts_of (paper_of cat) q.what) ≡ items_of cat
  unfolding texts_of
  texts-many q = length-texts (flags q.what.0) (paper_of cat) q.what.1

  pub view_inside : (item a m : ℕ) → view_of cat s item ≡ Shown a m → (2 ≤ a) × (a + m ≤ len_of s)
  view_inside item a m e =
      let q = seen cat s item a m e in
      let ts : List (List ℕ) = texts_of (paper_of cat) q.read.what in
      let h : item - 1 < length ts = subst (item - 1 <◌) (sym (texts-many q.read)) (item_in q.read item q.is_an_item) in
      let k : before ts (item - 1) + length (get_or ts (item - 1) []) ≤ length (flat ts) = before_most ts (item - 1) h in
      let l : suc (suc (length (flat ts))) ≡ len_of s = ap length (sym (field_is (paper_of cat) s q.read.what (read_front o q.read))) ∙ front_length (paper_of cat) s q.read.what (read_front o q.read) in
      let ea : a ≡ 2 + before ts (item - 1) = q.start_is in
      let em : m ≡ length (get_or ts (item - 1) []) = q.length_is in
      (omega arith, omega arith)

  -- "don't overlap": the view of an earlier item ends before that of a later one begins
  pub views-apart : (i j a m b k : ℕ) → i < j → view_of cat s i ≡ Shown a m → view_of cat s j ≡ Shown b k → a + m ≤ b
  views-apart i j a m b k h p q =
      let u = seen cat s i a m p in
      let v = seen cat s j b k q in
      let ts : List (List ℕ) = texts_of (paper_of cat) u.read.what in
      let same : texts_of (paper_of cat) v.read.what ≡ ts = ap (texts_of (paper_of cat)) (one_reading v.read u.read) in
      let hi : i - 1 < length ts = subst (i - 1 <◌) (sym (texts-many u.read)) (item_in u.read i u.is_an_item) in
      let lo : 1 ≤ i = item_low u.read i u.is_an_item in
      let lt : i - 1 < j - 1 = omega arith in
      let w : before ts (i - 1) + length (get_or ts (i - 1) []) ≤ before ts (j - 1) = before_mono ts (i - 1) (j - 1) lt hi in
      let ea : a ≡ 2 + before ts (i - 1) = u.start_is in
      let em : m ≡ length (get_or ts (i - 1) []) = u.length_is in
      let eb : b ≡ 2 + before ts (j - 1) = v.start_is ∙ ap (λ x. 2 + before x (j - 1)) same in
      omega arith

-- ---- "in order cover offsets 2 to LEN-1": the parts of all items, one after the other, are those octets

unfoldable pub parts_from : ℕ → List ℕ → ℕ → ℕ → List (List ℕ)
parts_from cat s i zero = []
parts_from cat s i (suc n) = part_of s (view_of cat s (suc i)) ∷ parts_from cat s (suc i) n

module _ {cat : ℕ} {s : List ℕ} {n : ℕ} (o : Octets s) (r : Read cat s n) where
  parts_drop : (k i : ℕ) → i + k ≡ items_of cat → parts_from cat s i k ≡ drop i (texts_of (paper_of cat) r.what)
  unfolding parts_from is_item texts_of
  parts_drop zero i e = sym (drop_of_length-le (texts_of (paper_of cat) r.what) {i = i} (rw (length-texts (flags r.what.0) (paper_of cat) r.what.1) (omega arith)))
  parts_drop (suc k) i e =
      let ts : List (List ℕ) = texts_of (paper_of cat) r.what in
      let h : i < length ts = rw (length-texts (flags r.what.0) (paper_of cat) r.what.1) (omega arith) in
      let z : suc i - 1 ≡ i = omega arith in
      let t : T (is_item (paper_of cat) (suc i)) = nth_item (paper_of cat) i (omega arith) in
      ap₂ ◌∷◌ (part_is_text r (suc i) t o ∙ ap (λ x. get_or ts x []) z) (parts_drop k (suc i) (omega arith)) ∙ sym (drop-cons ts i [] h)

  pub views_cover : flat (parts_from cat s 0 (items_of cat)) ≡ drop 2 (take (len_of s) s)
  views_cover = ap flat (parts_drop (items_of cat) 0 (omega arith)) ∙ sym (ap (drop 2) (field_is (paper_of cat) s r.what (read_front o r)))

-- ---- "the choice returns the correction's own part if it has the item, else the base's own part"

module _ {cat : ℕ} {base correction : List ℕ} {n m : ℕ} (p : Read cat base n) (q : Read cat correction m) (item : ℕ) (h : T (is_item (paper_of cat) item)) where
  chosen : {x y : Bool} → present q.what item ≡ x → present p.what item ≡ y
      → choose_of cat base correction item
      ≡ pick x (record { which = Correction; view = standing (paper_of cat) q.what item })
      (pick y (record { which = Base; view = standing (paper_of cat) p.what item }) (record { which = Neither; view = Hidden 15 0 }))
  unfolding choose_of choose_in
  chosen ex ey = rw (p.known_is, p.body_is, q.body_is, holds (is_item (paper_of cat) item) h, ex, ey) refl

  pub choice_correction : present q.what item ≡ true → choose_of cat base correction item ≡ record { which = Correction; view = view_of cat correction item }
  choice_correction e = chosen e refl ∙ ap (λ v. record { which = Correction; view = v }) (sym (view_present q item h e))

  pub choice_base : present q.what item ≡ false → present p.what item ≡ true → choose_of cat base correction item ≡ record { which = Base; view = view_of cat base item }
  choice_base e f = chosen e f ∙ ap (λ v. record { which = Base; view = v }) (sym (view_present p item h f))

  pub choice_none : present q.what item ≡ false → present p.what item ≡ false → choose_of cat base correction item ≡ record { which = Neither; view = Hidden 15 0 }
  choice_none e f = chosen e f
