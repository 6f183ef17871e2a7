-- What holds of the shape of every item, by computed tests.
use Rattle.std.specs.Prelude.{◌≡◌, refl, Bool, true, ◌&&◌, List, [], ◌∷◌, map, T, leb, eqb, length, get_or}
use Rattle.std.proofs.Math.Path.{sym, ap}
use Rattle.std.proofs.Common.{◌∙◌, subst, le_of_suc-le-suc, not-suc-le-zero, ne_eqb, leb→le, eqb→eq}
use Prim.Native.Nat.{ℕ, zero, suc, ◌+◌, ◌-◌, ◌≤◌, ◌<◌}
use native.Mathlib.Omega.{arith}
use Rattle.std.proofs.Math.ListN.{get_or-map, get_or-eq_default}
use Rattle.codec.specs.Pick.{pick}
use Rattle.codec.specs.Line.{Line, count}
use Rattle.codec.specs.Item.{Item, single, slots_of, lines_of}
use Rattle.codec.proofs.Laws.Tests.{and_l, and_r}
use Rattle.papers.specs.Cat048.{cat048}
use Rattle.papers.specs.Cat021.{cat021}
use Rattle.papers.specs.Cat007.{cat007}
use Rattle.lengths.specs.Lines.{items, no_line, placed_from, placed_in, placed, placed_at, line_at, first_at}
use Rattle.lengths.specs.Laws.Lines.{every_at}
use Rattle.shapes.specs.declared.Shape.{Shape}
use Rattle.shapes.specs.Shapes.{NO_LINE, item_at, lines_from, flags_under, item_of, shape_of, shapes_from, shapes, shape_at, in_turn}

-- ---- what stands at a place of a table

-- within a list, what stands at a place does not depend on what is behind its end
pub within : {A : Type 0} (xs : List A) (d e : A) (i : ℕ) → i < length xs → get_or xs i d ≡ get_or xs i e
within [] d e i h = absurd (not-suc-le-zero h)
within (x ∷ xs) d e zero h = refl
within (x ∷ xs) d e (suc i) h = within xs d e i (le_of_suc-le-suc h)

pub past_item : (k : ℕ) → 14 ≤ k → item_at k ≡ single no_line
unfolding item_at items cat048 cat021 cat007
past_item k h = get_or-eq_default items (single no_line) h

-- ---- an item is what its shape says

abbrev made : ℕ → ℕ → ℕ → Item
made b zero n = single (line_at b)
made b (suc p) n = item_of b p n

abbrev shaped : Shape → Item
shaped s = made s.0 s.1 s.2

items_shaped : map shaped shapes ≡ items
unfolding shapes shapes_from shape_of item_of lines_from placed_at placed placed_in placed_from lines_of items cat048 cat021 cat007
items_shaped = refl

none_shaped : shaped (NO_LINE, 0, 0) ≡ single no_line
unfolding placed_at placed placed_in placed_from lines_of items cat048 cat021 cat007
none_shaped = refl

shape_right : (k : ℕ) → shaped (shape_at k) ≡ item_at k
unfolding shape_at item_at
shape_right k =
    sym (get_or-map shaped shapes k (NO_LINE, 0, 0)) ∙ ap (λ l. get_or l k (shaped (NO_LINE, 0, 0))) items_shaped ∙ ap (get_or items k) none_shaped

module _ (k : ℕ) {s : Shape} (es : s ≡ shape_at k) where
  pub shape_single : s.1 ≡ 0 → item_at k ≡ single (line_at s.0)
  shape_single z = sym (shape_right k) ∙ ap shaped (sym es) ∙ ap (λ p. made s.0 p s.2) z

  pub shape_chained : (s.1 ≡ 0 → ⊥) → item_at k ≡ item_of s.0 (s.1 - 1) s.2
  unfolding item_of
  shape_chained h = sym (shape_right k) ∙ ap shaped (sym es) ∙ go s.1 h
    where
      go : (p : ℕ) → (p ≡ 0 → ⊥) → made s.0 p s.2 ≡ item_of s.0 (p - 1) s.2
      go zero h = absurd (h refl)
      go (suc p) h = let e : p ≡ suc p - 1 = omega arith in ap (λ j. item_of s.0 j s.2) e

-- ---- its lines stand in turn from slot 0 on, and its subfields' flags are numbers of its chain

abbrev okay : ℕ → ℕ → ℕ → Bool
okay b p n =
    leb (b + p + n) NO_LINE
    && (eqb (first_at b) 0
    && (in_turn b p && (in_turn (b + p) n && (flags_under (slots_of (lines_from b p)) (lines_from (b + p) n) && pick (eqb n 0) true (eqb (first_at (b + p)) (slots_of (lines_from b p)))))))

abbrev shape_ok : Shape → Bool
shape_ok s = okay s.0 s.1 s.2

shapes_ok : (k : ℕ) → T (shape_ok (shape_at k))
unfolding shape_at shapes shapes_from shape_of in_turn flags_under lines_from slots_of count placed_at placed placed_in placed_from lines_of items cat048 cat021 cat007
shapes_ok k = every_at shape_ok shapes (NO_LINE, 0, 0) tt tt k

pub record Shaped (s : Shape) : Type 0 where
  pub few : s.0 + s.1 + s.2 ≤ NO_LINE
  pub begins : first_at s.0 ≡ 0
  pub parts_turn : T (in_turn s.0 s.1)
  pub subfields_turn : T (in_turn (s.0 + s.1) s.2)
  pub flags_are_under : T (flags_under (slots_of (lines_from s.0 s.1)) (lines_from (s.0 + s.1) s.2))
  pub meet : (s.2 ≡ 0 → ⊥) → first_at (s.0 + s.1) ≡ slots_of (lines_from s.0 s.1)

pub shaped-well : (k : ℕ) {s : Shape} → s ≡ shape_at k → Shaped s
shaped-well k {s} es =
    let b : ℕ = s.0 in
    let p : ℕ = s.1 in
    let n : ℕ = s.2 in
    let c : List Line = lines_from b p in
    let t1 : T (shape_ok s) = subst (λ x. T (shape_ok x)) (sym es) (shapes_ok k) in
    let t2 = and_r (leb (b + p + n) NO_LINE) _ t1 in
    let t3 = and_r (eqb (first_at b) 0) _ t2 in
    let t4 = and_r (in_turn b p) _ t3 in
    let t5 = and_r (in_turn (b + p) n) _ t4 in record {
      few = leb→le (b + p + n) NO_LINE (and_l (leb (b + p + n) NO_LINE) _ t1);
      begins = eqb→eq (first_at b) 0 (and_l (eqb (first_at b) 0) _ t2);
      parts_turn = and_l (in_turn b p) _ t3;
      subfields_turn = and_l (in_turn (b + p) n) _ t4;
      flags_are_under = and_l (flags_under (slots_of c) (lines_from (b + p) n)) _ t5;
      meet = λ h. eqb→eq (first_at (b + p)) (slots_of c) (subst (λ x. T (pick x true (eqb (first_at (b + p)) (slots_of c)))) (ne_eqb n 0 h) (and_r (flags_under (slots_of c) (lines_from (b + p) n)) _ t5));
    }
