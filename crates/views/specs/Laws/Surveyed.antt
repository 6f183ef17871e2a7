-- What was surveyed gives the view that 01 defines, and the view lies in the slice.
use Rattle.std.specs.Prelude.{◌≡◌, refl, Bool, true, false, ◌&&◌, T, leb, take, drop, replicate}
use Rattle.std.proofs.Common.{sym, ◌∙◌, leb→le, take-append-drop, length-append}
use Rattle.std.proofs.Math.Path.{ap, ap₂, subst}
use mathlib.Core.List.{List, [], ◌++◌}
use Prim.Native.Nat.{ℕ, suc, ◌+◌, ◌-◌, ◌≤◌, ◌<◌}
use native.Mathlib.Omega.{arith}
use Rattle.std.proofs.Math.ListN.{length, get_or}
use Rattle.codec.specs.Pick.{pick}
use Rattle.codec.specs.Codec.{Octets}
use Rattle.codec.specs.Field.{Contents, texts_of, before}
use Rattle.codec.specs.Frame.{Outcome, accepted, refused}
use Rattle.codec.specs.Meaning.{len_of}
use Rattle.codec.proofs.Laws.Tests.{and_l, and_r}
use Rattle.papers.specs.Papers.{paper_of, items_of}
use Rattle.layout.specs.Answer.{Accepted, Refused, View, Shown, Hidden, Surveyed}
use Rattle.scope.specs.Reading.{field_of}
use Rattle.scope.specs.Views.{is_item, present, standing, view_in, view_of}
use Rattle.layout.specs.Laws.Answer.{Accepted≢Refused, Refused≢Accepted}
use Rattle.scope.proofs.Laws.Reading.{read_front}
use Rattle.scope.proofs.Laws.Views.{seen, view_inside, front_length}
use Rattle.scope.specs.Survey.{starts_from, surveyed, survey_of}
use Rattle.reader.specs.Laws.Surveys.{begins, ends}
use Rattle.views.specs.Standing.{Rising, stands_at}

item_bounds : (cat item : ℕ) → is_item (paper_of cat) item ≡ true → (1 ≤ item) × (item ≤ items_of cat)
unfolding is_item
item_bounds cat item e =
    let t : T (leb 1 item && leb item (items_of cat)) = subst T (sym e) tt in
    (leb→le 1 item (and_l (leb 1 item) _ t), leb→le item (items_of cat) (and_r (leb 1 item) _ t))

pick_same : (x : Bool) (a b c : View) → (x ≡ true → a ≡ b) → pick x a c ≡ pick x b c
pick_same true a b c f = f refl
pick_same false a b c f = refl

module _ (cat : ℕ) (r : Contents) (zs : List ℕ) where
  rising_in : Rising cat (starts_from 2 (texts_of (paper_of cat) r) ++ zs)
  unfolding Rising
  rising_in i h = let a = begins cat r zs i h in let b = ends cat r zs i h in omega (arith, a, b)

  shown_in : (item : ℕ) → 1 ≤ item → item ≤ items_of cat
      → Shown (get_or (starts_from 2 (texts_of (paper_of cat) r) ++ zs) (item - 1) 0) (get_or (starts_from 2 (texts_of (paper_of cat) r) ++ zs) item 0 - get_or (starts_from 2 (texts_of (paper_of cat) r) ++ zs) (item - 1) 0)
      ≡ standing (paper_of cat) r item
  unfolding standing
  shown_in item lo hi =
      let ts : List (List ℕ) = texts_of (paper_of cat) r in
      let ps : List ℕ = starts_from 2 ts ++ zs in
      let h : item - 1 < items_of cat = omega arith in
      let j : item ≡ suc (item - 1) = omega arith in
      let a : get_or ps (item - 1) 0 ≡ 2 + before ts (item - 1) = begins cat r zs (item - 1) h in
      let b : get_or ps item 0 ≡ 2 + before ts (item - 1) + length (get_or ts (item - 1) []) = ap (λ x. get_or ps x 0) j ∙ ends cat r zs (item - 1) h in
      let l : get_or ps item 0 - get_or ps (item - 1) 0 ≡ length (get_or ts (item - 1) []) = omega (arith, a, b) in
      ap₂ Shown a l

  stands_in : (item : ℕ) → stands_at cat r.0 (starts_from 2 (texts_of (paper_of cat) r) ++ zs) item ≡ view_in (paper_of cat) item (accepted r)
  unfolding stands_at view_in present
  stands_in item =
      pick_same (is_item (paper_of cat) item) _ _ (Hidden 12 0) λ e.
      let k = item_bounds cat item e in ap (λ w. pick (present r item) w (Hidden 15 0)) (shown_in item k.0 k.1)

-- ---- the ways out of the code

module _ (cat : ℕ) (s : List ℕ) {v : Surveyed} (e : v ≡ survey_of cat s) where
  pub view_refused : (item : ℕ) {n p : ℕ} → v.answer ≡ Refused n p → Hidden n p ≡ view_of cat s item
  unfolding view_of view_in survey_of surveyed
  view_refused item {n} {p} h = go (field_of cat s) (sym (ap (λ (x : Surveyed). x.answer) e) ∙ h)
    where
      go : (o : Outcome Contents) → (surveyed cat s o).answer ≡ Refused n p → Hidden n p ≡ view_in (paper_of cat) item o
      go (accepted r) k = Accepted≢Refused k
      go (refused m q) k = cc

  pub view_rising : {n : ℕ} → v.answer ≡ Accepted n → Rising cat v.starts
  unfolding survey_of surveyed
  view_rising {n} h = subst (λ (x : Surveyed). Rising cat x.starts) (sym e) (go (field_of cat s) (sym (ap (λ (x : Surveyed). x.answer) e) ∙ h))
    where
      go : (o : Outcome Contents) → (surveyed cat s o).answer ≡ Accepted n → Rising cat (surveyed cat s o).starts
      go (accepted r) k = rising_in cat r (replicate (8 - items_of cat) 0)
      go (refused m q) k = Refused≢Accepted k

  pub view_stands : (item : ℕ) {n : ℕ} → v.answer ≡ Accepted n → stands_at cat v.items v.starts item ≡ view_of cat s item
  unfolding view_of survey_of surveyed
  view_stands item {n} h = ap (λ (x : Surveyed). stands_at cat x.items x.starts item) e ∙ go (field_of cat s) (sym (ap (λ (x : Surveyed). x.answer) e) ∙ h)
    where
      go : (o : Outcome Contents) → (surveyed cat s o).answer ≡ Accepted n → stands_at cat (surveyed cat s o).items (surveyed cat s o).starts item ≡ view_in (paper_of cat) item o
      go (accepted r) k = stands_in cat r (replicate (8 - items_of cat) 0) item
      go (refused m q) k = Refused≢Accepted k

-- ---- what is shown lies in the slice

pub view_within : (cat : ℕ) (s : List ℕ) → Octets s → (item a m : ℕ) → view_of cat s item ≡ Shown a m → a + m ≤ length s
view_within cat s o item a m e =
    let q = seen cat s item a m e in
    let l : length (take (len_of s) s) ≡ len_of s = front_length (paper_of cat) s q.read.what (read_front o q.read) in
    let k : length (take (len_of s) s) + length (drop (len_of s) s) ≡ length s = sym (length-append (take (len_of s) s) (drop (len_of s) s)) ∙ ap length (take-append-drop (len_of s) s) in
    let i : a + m ≤ len_of s = (view_inside cat s o item a m e).1 in
    omega (arith, l, k, i)
