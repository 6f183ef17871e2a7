-- A row of spots: the first, and the rest behind it.
use Rattle.std.specs.Prelude.{◌≡◌, refl, eqb, ℤ, get_or, take}
use Rattle.std.proofs.Common.{sym, ap₂, ◌∙◌, add-one, drop-drop}
use Rattle.std.proofs.Math.Path.{ap}
use mathlib.Core.List.{List, [], ◌∷◌}
use Prim.Native.Nat.{ℕ, zero, suc, ◌+◌, ◌-◌}
use native.Mathlib.Omega.{arith}
use Rattle.std.proofs.Math.Dec.{T, eqb→eq}
use Rattle.std.proofs.Math.ListN.{drop}
use Rattle.codec.specs.Item.{slots}
use Rattle.codec.specs.Field.{first_flag, next_flags}
use Rattle.codec.proofs.Laws.Tests.{and_l, and_r}
use Rattle.layout.specs.Record.{regroup}
use Rattle.spots.specs.Spots.{spot_at, item_on, spot_ok, row_ok, items_from, numbers_on, held_from}

-- ---- the flag of an index, and those behind it

pub first_drop : (i : ℕ) (xs : List ℕ) → first_flag (drop i xs) ≡ get_or xs i 0
unfolding first_flag
first_drop zero [] = refl
first_drop zero (x ∷ xs) = refl
first_drop (suc i) [] = refl
first_drop (suc i) (x ∷ xs) = first_drop i xs

pub next_drop : (i : ℕ) (xs : List ℕ) → next_flags (drop i xs) ≡ drop (i + 1) xs
unfolding next_flags
next_drop i xs = go i xs ∙ ap (λ j. drop j xs) (sym (add-one i))
  where
    go : (i : ℕ) (xs : List ℕ) → next_flags (drop i xs) ≡ drop (suc i) xs
    go zero [] = refl
    go zero (x ∷ xs) = refl
    go (suc i) [] = refl
    go (suc i) (x ∷ xs) = go i xs

-- ---- spots in turn

module _ (k left : ℕ) (some : left ≡ 0 → ⊥) where
  pub items_on : items_from k left ≡ item_on k ∷ items_from (k + 1) (left - 1)
  unfolding items_from
  items_on = go left some
    where
      go : (left : ℕ) → (left ≡ 0 → ⊥) → items_from k left ≡ item_on k ∷ items_from (k + 1) (left - 1)
      go zero z = absurd (z refl)
      go (suc n) z = let e : n ≡ suc n - 1 = omega arith in ap (λ j. item_on k ∷ items_from (k + 1) j) e

  module _ (ok : T (row_ok k left)) where
    -- the first spot is good, and so are the rest
    pub row_first : T (spot_ok k) × T (row_ok (k + 1) (left - 1))
    unfolding row_ok
    row_first = go left some ok
      where
        go : (left : ℕ) → (left ≡ 0 → ⊥) → T (row_ok k left) → T (spot_ok k) × T (row_ok (k + 1) (left - 1))
        go zero z t = absurd (z refl)
        go (suc zero) z t = (t, tt)
        go (suc (suc n)) z t =
            let e : suc (suc n) - 1 ≡ suc n = omega arith in
            (and_l (spot_ok k) _ t, rw e (and_r (eqb (spot_at (k + 1)).1 ((spot_at k).1 + slots (item_on k))) _ (and_r (spot_ok k) _ t)))

    -- where there is a second, its slots begin behind those of the first
    pub row_next : (left - 1 ≡ 0 → ⊥) → (spot_at (k + 1)).1 ≡ (spot_at k).1 + slots (item_on k)
    unfolding row_ok
    row_next more = go left more ok
      where
        go : (left : ℕ) → (left - 1 ≡ 0 → ⊥) → T (row_ok k left) → (spot_at (k + 1)).1 ≡ (spot_at k).1 + slots (item_on k)
        go zero m t = absurd (m refl)
        go (suc zero) m t = absurd (m refl)
        go (suc (suc n)) m t = eqb→eq (spot_at (k + 1)).1 ((spot_at k).1 + slots (item_on k)) (and_l (eqb (spot_at (k + 1)).1 ((spot_at k).1 + slots (item_on k))) _ (and_r (spot_ok k) _ t))

    -- the first holds its parts and numbers, and the rest what stands behind
    pub held_on : (i : ℕ) (ps : List ℕ) (ns : List ℤ) → held_from k left i ps ns ≡ (get_or ps i 0, numbers_on k ns) ∷ held_from (k + 1) (left - 1) (i + 1) ps ns
    unfolding row_ok items_from held_from numbers_on regroup
    held_on i ps ns = go left some ok
      where
        step : (left : ℕ) (qs : List ℕ) {slot : ℕ} → slot ≡ (spot_at k).1 + slots (item_on k) → regroup (items_from (k + 1) left) qs (drop (slots (item_on k)) (drop (spot_at k).1 ns)) ≡ regroup (items_from (k + 1) left) qs (drop slot ns)
        step left qs e = ap (regroup (items_from (k + 1) left) qs) (drop-drop (slots (item_on k)) (spot_at k).1 ns ∙ ap (λ j. drop j ns) (sym e))

        go : (left : ℕ) → (left ≡ 0 → ⊥) → T (row_ok k left) → held_from k left i ps ns ≡ (get_or ps i 0, numbers_on k ns) ∷ held_from (k + 1) (left - 1) (i + 1) ps ns
        go zero z t = absurd (z refl)
        go (suc zero) z t = ap (λ x. (x, take (slots (item_on k)) (drop (spot_at k).1 ns)) ∷ []) (first_drop i ps)
        go (suc (suc n)) z t =
            let e : (spot_at (k + 1)).1 ≡ (spot_at k).1 + slots (item_on k)
            = eqb→eq (spot_at (k + 1)).1 ((spot_at k).1 + slots (item_on k)) (and_l (eqb (spot_at (k + 1)).1 ((spot_at k).1 + slots (item_on k))) _ (and_r (spot_ok k) _ t)) in
            let w : suc n ≡ suc (suc n) - 1 = omega arith in
            ap₂ (λ x y. (x, take (slots (item_on k)) (drop (spot_at k).1 ns)) ∷ y) (first_drop i ps)
            (step (suc n) (next_flags (drop i ps)) e ∙ ap₂ (λ x y. regroup (items_from (k + 1) x) y (drop (spot_at (k + 1)).1 ns)) w (next_drop i ps))
