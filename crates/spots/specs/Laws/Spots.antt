-- The items at the spots of a category are its paper's.
use Rattle.std.specs.Prelude.{◌≡◌, refl, Bool, true, false, List, ℕ, ◌+◌, ◌≤◌, ◌<◌, T, eqb, length}
use Rattle.std.proofs.Common.{sym, ap, ap₂, ◌∙◌, subst, arith, eqb-true}
use Rattle.codec.specs.Pick.{pick}
use Rattle.codec.specs.Line.{count}
use Rattle.codec.specs.Item.{Item, slots_of, slots}
use Rattle.papers.specs.Cat048.{cat048}
use Rattle.papers.specs.Cat021.{cat021}
use Rattle.papers.specs.Cat007.{cat007}
use Rattle.papers.specs.Papers.{known, paper_of, items_of}
use Rattle.papers.proofs.Laws.Papers.{paper_048, paper_021, paper_007, few_items}
use Rattle.lengths.specs.Lines.{items}
use Rattle.shapes.specs.Shapes.{item_at}
use Rattle.spots.specs.Spots.{spots_from, spots, spot_at, spot_of, spot_ok, row_ok, items_from}

-- what holds of the spots of a category: its items, slots that begin at 0 and follow each other
pub record Spots (cat : ℕ) : Type 0 where
  pub items_are : items_from (spot_of cat) (items_of cat) ≡ paper_of cat
  pub row_is : T (row_ok (spot_of cat) (items_of cat))
  pub begins : (spot_at (spot_of cat)).1 ≡ 0
  pub few : spot_of cat < 100

spots-of : (cat : ℕ) (its : List Item) (k : ℕ) → paper_of cat ≡ its → spot_of cat ≡ k → items_from k (length its) ≡ its → T (row_ok k (length its)) → (spot_at k).1 ≡ 0 → k < 100 → Spots cat
spots-of cat its k ep ek ei r z h = record {
  items_are = ap₂ (λ x y. items_from x (length y)) ek ep ∙ ei ∙ sym ep;
  row_is = subst (λ x. T (row_ok (spot_of cat) (length x))) (sym ep) (subst (λ x. T (row_ok x (length its))) (sym ek) r);
  begins = ap (λ x. (spot_at x).1) ek ∙ z;
  few = subst (◌< 100) (sym ek) h;
}

spots_048 : (cat : ℕ) → cat ≡ 48 → Spots cat
unfolding items_from row_ok spot_ok spot_of spot_at spots spots_from item_at items slots slots_of count cat048 cat021 cat007
spots_048 cat e = spots-of cat cat048 0 (paper_048 cat e).0 (rw e refl) refl tt refl (omega arith)

spots_021 : (cat : ℕ) → cat ≡ 21 → Spots cat
unfolding items_from row_ok spot_ok spot_of spot_at spots spots_from item_at items slots slots_of count cat048 cat021 cat007
spots_021 cat e = spots-of cat cat021 5 (paper_021 cat e).0 (rw e refl) refl tt refl (omega arith)

spots_007 : (cat : ℕ) → cat ≡ 7 → Spots cat
unfolding items_from row_ok spot_ok spot_of spot_at spots spots_from item_at items slots slots_of count cat048 cat021 cat007
spots_007 cat e = spots-of cat cat007 13 (paper_007 cat e).0 (rw e refl) refl tt refl (omega arith)

pub spots_right : (cat : ℕ) → known cat ≡ true → Spots cat
unfolding known
spots_right cat h = go (eqb cat 48) refl (eqb cat 21) refl (eqb cat 7) refl
  where
    go : (x : Bool) → eqb cat 48 ≡ x → (y : Bool) → eqb cat 21 ≡ y → (z : Bool) → eqb cat 7 ≡ z → Spots cat
    go true ex y ey z ez = spots_048 cat (eqb-true cat 48 ex)
    go false ex true ey z ez = spots_021 cat (eqb-true cat 21 ey)
    go false ex false ey true ez = spots_007 cat (eqb-true cat 7 ez)
    go false ex false ey false ez =
        let f : pick (eqb cat 48) true (pick (eqb cat 21) true (eqb cat 7)) ≡ false = rw (ex, ey, ez) refl in
        let w : true ≡ false = sym h ∙ f in
        let q : ◌≡◌ {A = ℕ} 0 1 = cc in absurd (omega arith)

-- ---- what a walk over the spots of a category asks

pub row-asks : (cat : ℕ) → known cat ≡ true → {k n : ℕ} → k ≡ spot_of cat → n ≡ items_of cat → (k + n ≤ 200) × (0 + n ≤ 8) × T (row_ok k n)
row-asks cat h ek en =
    let s : Spots cat = spots_right cat h in
    let few : items_of cat ≤ 8 = few_items cat in
    let low : spot_of cat < 100 = s.few in
    rw (ek, en) (omega arith, omega arith, s.row_is)
