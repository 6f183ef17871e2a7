-- Where an item stands, as the code finds it: by the indicator and by where each item begins.
use Rattle.std.specs.Prelude.{◌≡◌, Bool, true, List, leb, eqb}
use Rattle.std.proofs.Math.Path.{refl, sym, ap, subst}
use Rattle.std.proofs.Common.{ap₂, ◌∙◌, leb→le}
use Rattle.std.proofs.Math.Bool.{false}
use Prim.Native.Nat.{ℕ, suc, ◌-◌, ◌≤◌, ◌<◌}
use native.Mathlib.Omega.{arith}
use Rattle.std.proofs.Math.Dec.{T}
use Rattle.std.proofs.Math.ListN.{get_or}
use Rattle.codec.specs.Pick.{pick}
use Rattle.codec.specs.Field.{flags}
use Rattle.layout.specs.Answer.{Shown, Hidden}
use Rattle.codec.proofs.Laws.Tests.{and_l, and_r}
use Rattle.papers.specs.Papers.{paper_of, items_of, numbered}
use Rattle.papers.proofs.Laws.Papers.{few_items}
use Rattle.scope.specs.Views.{is_item}
use Rattle.views.specs.Standing.{Rising, stands_at}

-- one law for each way out
module _ (cat ind : ℕ) (starts : List ℕ) (item : ℕ) {b : Bool} (eb : b ≡ numbered cat item) where
  pub stands_none : b ≡ false → Hidden 12 0 ≡ stands_at cat ind starts item
  unfolding stands_at is_item
  stands_none z = let e : numbered cat item ≡ false = sym eb ∙ z in rw e refl

  module _ (t : b ≡ true) {i : ℕ} (ei : i ≡ item) where
    is_an_item : is_item (paper_of cat) item ≡ true
    unfolding is_item
    is_an_item = sym eb ∙ t

    low : 1 ≤ i
    unfolding is_item
    low = subst (1 ≤◌) (sym ei) (leb→le 1 item (and_l (leb 1 item) _ (subst T (sym is_an_item) tt)))

    high : i ≤ items_of cat
    unfolding is_item
    high = subst (◌≤ items_of cat) (sym ei) (leb→le item (items_of cat) (and_r (leb 1 item) _ (subst T (sym is_an_item) tt)))

    pub item_low : i - 1 < 8
    item_low = let few : items_of cat ≤ 8 = few_items cat in let lo : 1 ≤ i = low in let hi : i ≤ items_of cat = high in omega arith

    pub item_some : 1 ≤ i
    item_some = low

    pub rises : Rising cat starts → get_or starts (i - 1) 0 ≤ get_or starts i 0
    unfolding Rising
    rises r =
        let lo : 1 ≤ i = low in
        let hi : i ≤ items_of cat = high in
        let e : suc (i - 1) ≡ i = omega arith in
        let h : i - 1 < items_of cat = omega arith in
        subst (λ j. get_or starts (i - 1) 0 ≤ get_or starts j 0) e (r (i - 1) h)

    module _ {u : Bool} (et : u ≡ eqb (get_or (flags ind) (i - 1) 0) 1) where
      flag_is : eqb (get_or (flags ind) (item - 1) 0) 1 ≡ u
      flag_is = sym (et ∙ ap (λ j. eqb (get_or (flags ind) (j - 1) 0) 1) ei)

      pub stands_there : u ≡ true → Shown (get_or starts (i - 1) 0) (get_or starts i 0 - get_or starts (i - 1) 0) ≡ stands_at cat ind starts item
      unfolding stands_at
      stands_there z =
          ap (λ j. Shown (get_or starts (j - 1) 0) (get_or starts j 0 - get_or starts (j - 1) 0)) ei
          ∙ sym (ap₂ (λ t u. pick t (pick u (Shown (get_or starts (item - 1) 0) (get_or starts item 0 - get_or starts (item - 1) 0)) (Hidden 15 0)) (Hidden 12 0)) is_an_item (flag_is ∙ z))

      pub stands_absent : u ≡ false → Hidden 15 0 ≡ stands_at cat ind starts item
      unfolding stands_at
      stands_absent z =
          sym (ap₂ (λ t u. pick t (pick u (Shown (get_or starts (item - 1) 0) (get_or starts item 0 - get_or starts (item - 1) 0)) (Hidden 15 0)) (Hidden 12 0)) is_an_item (flag_is ∙ z))
