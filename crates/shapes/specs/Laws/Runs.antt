-- Runs of lines: the first, and the rest behind it.
use Rattle.std.specs.Prelude.{◌≡◌, refl, ◌∷◌, ℕ, zero, suc, ◌+◌, ◌-◌, T, eqb}
use Rattle.std.proofs.Common.{ap, arith, eqb→eq}
use Rattle.codec.proofs.Laws.Tests.{and_l, and_r}
use Rattle.lengths.specs.Lines.{line_at, first_at, count_at}
use Rattle.shapes.specs.Shapes.{lines_from, in_turn}

-- ---- lines in turn

pub turn_rest : (b left : ℕ) → (left ≡ 0 → ⊥) → T (in_turn b left) → T (in_turn (b + 1) (left - 1))
unfolding in_turn
turn_rest b zero h t = absurd (h refl)
turn_rest b (suc zero) h t = tt
turn_rest b (suc (suc n)) h t = let e : suc (suc n) - 1 ≡ suc n = omega arith in rw e (and_r (eqb (first_at (b + 1)) (first_at b + count_at b)) _ t)

pub turn_first : (b left : ℕ) → (left - 1 ≡ 0 → ⊥) → T (in_turn b left) → first_at (b + 1) ≡ first_at b + count_at b
unfolding in_turn
turn_first b zero h t = absurd (h refl)
turn_first b (suc zero) h t = absurd (h refl)
turn_first b (suc (suc n)) h t = eqb→eq (first_at (b + 1)) (first_at b + count_at b) (and_l (eqb (first_at (b + 1)) (first_at b + count_at b)) _ t)

pub lines_on : (b left : ℕ) → (left ≡ 0 → ⊥) → lines_from b left ≡ line_at b ∷ lines_from (b + 1) (left - 1)
unfolding lines_from
lines_on b zero z = absurd (z refl)
lines_on b (suc n) z = let e : n ≡ suc n - 1 = omega arith in ap (λ j. line_at b ∷ lines_from (b + 1) j) e
