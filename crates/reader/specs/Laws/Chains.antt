-- What the codec of a chain reads, by what its first part's line does.
use Rattle.std.specs.Prelude.{◌≡◌, eqb, ℤ, length, drop}
use Rattle.std.proofs.Math.Path.{refl, ap}
use Rattle.std.proofs.Common.{◌∙◌, subst, arith, ne_eqb}
use mathlib.Core.List.{List, ◌∷◌, ◌++◌}
use Prim.Native.Nat.{ℕ, zero, suc, ◌+◌, ◌^◌, ◌<◌}
use Rattle.codec.specs.Codec.{Res, got, bad, map_res, check, shift, opt}
use Rattle.codec.specs.Line.{Held, line}
use Rattle.codec.specs.Item.{slots_of, nothing, beside, chain}
use Rattle.codec.proofs.Laws.Tests.{not_one}
use Rattle.codec.proofs.Laws.Long.{LongBy, many, long_shift, long_line, Under, under_line, under_shift}
use Rattle.lengths.specs.Lines.{line_at, count_at}
use Rattle.shapes.specs.Shapes.{lines_from}
use Rattle.reader.specs.Steps.{run, line_run}
use Rattle.reader.specs.Laws.Steps.{map-map, run-map, beside_bad, beside_got}
use Rattle.reader.specs.Chains.{chain_at}

-- ---- what the chain's codec reads after its first part

-- the numbers of a line that was read
pub line_many : (b : ℕ) (xs : List ℕ) (at : ℕ) {c n : ℕ} {v : List ℤ} → line_run b xs at ≡ got (c, v) n → length v ≡ count_at b
unfolding line_run
line_many b xs at e = subst (LongBy many (count_at b)) e (long_shift many (count_at b) at ((line (line_at b)).read (drop at xs)) ((long_line (line_at b)).long (drop at xs)))

-- a chain of one part, by what the part's line answered
alone_bad : (at : ℕ) (m : Res Held) {e p : ℕ} → shift at m ≡ bad e p → shift at (map_res {A = Held} {B = Held} (λ v. (1, v.1)) (check 7 (λ v. eqb v.0 0) m)) ≡ bad e p
alone_bad at (got a n) h = let z : ◌≡◌ {A = ℕ} 0 1 = cc in absurd (omega arith)
alone_bad at (bad q r) h = h

alone_over : (at : ℕ) (m : Res Held) {v : List ℤ} {n : ℕ} → shift at m ≡ got (1, v) n → shift at (map_res {A = Held} {B = Held} (λ v. (1, v.1)) (check 7 (λ v. eqb v.0 0) m)) ≡ bad 7 at
alone_over at (bad q r) h = let z : ◌≡◌ {A = ℕ} 0 1 = cc in absurd (omega arith)
alone_over at (got a k) {v} {n} h =
    let e : a ≡ (1, v) = cc in
    let z : at + 0 ≡ at = omega arith in
    rw (e, z) refl

alone_last : (at : ℕ) (m : Res Held) {v : List ℤ} {n : ℕ} → shift at m ≡ got (0, v) n → shift at (map_res {A = Held} {B = Held} (λ v. (1, v.1)) (check 7 (λ v. eqb v.0 0) m)) ≡ got (1, v) n
alone_last at (bad q r) h = let z : ◌≡◌ {A = ℕ} 0 1 = cc in absurd (omega arith)
alone_last at (got a k) {v} {n} h =
    let e : a ≡ (0, v) = cc in
    let z : at + k ≡ n = cc in
    rw (e, z) refl

module _ (b : ℕ) (xs : List ℕ) (at : ℕ) where
  pub part_bad : (left : ℕ) {e p : ℕ} → line_run b xs at ≡ bad e p → chain_at b xs at left ≡ bad e p
  unfolding chain lines_from line_run
  part_bad zero h = alone_bad at ((line (line_at b)).read (drop at xs)) h
  part_bad (suc left) h =
      run-map (λ (a : (ℕ × ℕ) × List ℤ). (suc a.0.1, a.1)) (beside (count_at b) (line (line_at b)) (λ v. opt (nothing (slots_of (line_at (b + 1) ∷ lines_from (b + 1 + 1) left))) (eqb v.0 1) (chain (line_at (b + 1)) (lines_from (b + 1 + 1) left)))).read xs at
      ∙ rw (beside_bad (count_at b) (line (line_at b)) (λ v. opt (nothing (slots_of (line_at (b + 1) ∷ lines_from (b + 1 + 1) left))) (eqb v.0 1) (chain (line_at (b + 1)) (lines_from (b + 1 + 1) left))) xs at h) refl

  pub part_over : {v : List ℤ} {n : ℕ} → line_run b xs at ≡ got (1, v) n → chain_at b xs at 0 ≡ bad 7 at
  unfolding chain lines_from line_run
  part_over h = alone_over at ((line (line_at b)).read (drop at xs)) h

  pub part_last : {v : List ℤ} {n : ℕ} → line_run b xs at ≡ got (0, v) n → chain_at b xs at 0 ≡ got (1, v) n
  unfolding chain lines_from line_run
  part_last h = alone_last at ((line (line_at b)).read (drop at xs)) h

  -- with further parts defined: where FX is 0 they are absent, where it is 1 they follow
  pub part_then : (left : ℕ) {x n : ℕ} {v : List ℤ} → line_run b xs at ≡ got (x, v) n
      → chain_at b xs at (suc left) ≡ map_res {A = Held} (λ w. (suc w.0, v ++ w.1)) (run (opt (nothing (slots_of (lines_from (b + 1) (suc left)))) (eqb x 1) (chain (line_at (b + 1)) (lines_from (b + 1 + 1) left))).read xs n)
  unfolding chain lines_from line_run
  part_then left {x} {n} {v} h =
      run-map (λ (a : (ℕ × ℕ) × List ℤ). (suc a.0.1, a.1)) (beside (count_at b) (line (line_at b)) (λ v. opt (nothing (slots_of (line_at (b + 1) ∷ lines_from (b + 1 + 1) left))) (eqb v.0 1) (chain (line_at (b + 1)) (lines_from (b + 1 + 1) left)))).read xs at
      ∙ ap (map_res (λ (a : (ℕ × ℕ) × List ℤ). (suc a.0.1, a.1))) (beside_got (count_at b) (line (line_at b)) (λ v. opt (nothing (slots_of (line_at (b + 1) ∷ lines_from (b + 1 + 1) left))) (eqb v.0 1) (chain (line_at (b + 1)) (lines_from (b + 1 + 1) left))) xs at h)
      ∙ map-map (λ (w : Held). ((x, w.0), v ++ w.1)) (λ (a : (ℕ × ℕ) × List ℤ). (suc a.0.1, a.1)) (run (opt (nothing (slots_of (line_at (b + 1) ∷ lines_from (b + 1 + 1) left))) (eqb x 1) (chain (line_at (b + 1)) (lines_from (b + 1 + 1) left))).read xs n)

-- FX of a part that is not 1 is 0
pub line_zero : (b : ℕ) (xs : List ℕ) (at : ℕ) → (line_at b).fx ≡ 1 → {x n : ℕ} {v : List ℤ} → line_run b xs at ≡ got (x, v) n → (x ≡ 1 → ⊥) → x ≡ 0
unfolding line_run
line_zero b xs at f {x} {n} {v} e h =
    let u : x < 2 ^ (line_at b).fx = subst (Under (2 ^ (line_at b).fx)) e (under_shift (2 ^ (line_at b).fx) at ((line (line_at b)).read (drop at xs)) (under_line (line_at b) (drop at xs))) in
    not_one x (subst (λ j. x < 2 ^ j) f u) (ne_eqb x 1 h)
