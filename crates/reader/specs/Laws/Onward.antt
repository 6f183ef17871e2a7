-- Chains by their steps: each further part is read if the part that ends at the step goes on.
use Rattle.std.specs.Prelude.{◌≡◌, refl, Bool, true, false, List, ◌++◌, ℕ, zero, suc, ◌+◌, ◌*◌, ◌≤◌, ◌<◌, T, eqb, ℤ, pos, replicate}
use Rattle.std.proofs.Common.{sym, ap, ◌∙◌, subst, arith, eqb-true, eqb→eq}
use Rattle.std.proofs.lemmas.Bool.{eqb-false}
use Rattle.codec.specs.Codec.{Res, got}
use Rattle.codec.specs.Line.{Held}
use Rattle.codec.specs.Item.{slots_of}
use Rattle.codec.proofs.Laws.Tests.{and_l}
use Rattle.lengths.specs.Lines.{line_at}
use Rattle.shapes.specs.Shapes.{lines_from, parts_ok}
use Rattle.reader.specs.Steps.{line_run}
use Rattle.reader.specs.Chains.{chain_at}
use Rattle.reader.specs.Seen.{Ends, Went, goes_on}
use Rattle.reader.specs.Laws.Chains.{part_bad, part_over, part_last, part_then, line_zero}
use Rattle.reader.specs.Laws.Parts.{fx_goes_on}
use Rattle.reader.specs.Laws.Seen.{ends_got, ends_bad, ended, ends_map, ends_same}

pub part_fx : (b left : ℕ) → T (parts_ok b left) → (line_at b).fx ≡ 1
unfolding parts_ok
part_fx b zero t = eqb→eq (line_at b).fx 1 t
part_fx b (suc left) t = eqb→eq (line_at b).fx 1 (and_l (eqb (line_at b).fx 1) _ t)

-- ---- the ways out of `only`: its line was answered by a

module _ (b : ℕ) (xs : List ℕ) (at : ℕ) (ok : T (parts_ok b 0)) {a : ℕ} (s : Ends (line_run b xs at) a) where
  pub only_stops : 65_536 ≤ a → Ends (chain_at b xs at 0) a
  only_stops h = ended s (λ _ _ g. absurd (omega (arith, g, h))) (λ e p ex er f. ends_bad e p (part_bad b xs at 0 ex) er f)

  module _ (h : a < 65_536) {t : Bool} (et : t ≡ goes_on xs a) where
    fx_is : {x : ℕ} {v : List ℤ} → line_run b xs at ≡ got (x, v) a → eqb x 1 ≡ t
    fx_is ex = fx_goes_on b xs at (part_fx b 0 ok) ex ∙ sym et

    pub only_over : t ≡ true → at < 65_536 → Ends (chain_at b xs at 0) (7 * 65_536 + at)
    only_over e g = ended s
        (λ w ex _. ends_bad 7 at (part_over b xs at (ex ∙ ap (λ y. got (y, w.1) a) (eqb-true w.0 1 (fx_is ex ∙ e)))) refl (omega arith, omega arith, g))
        (λ q p ex er f. absurd (omega (arith, h, er, f.0)))

    pub only_ends : t ≡ false → Ends (chain_at b xs at 0) a
    only_ends e = ended s
        (λ w ex _. ends_got (1, w.1) a (part_last b xs at (ex ∙ ap (λ y. got (y, w.1) a) (line_zero b xs at (part_fx b 0 ok) ex (eqb-false w.0 1 (fx_is ex ∙ e))))) refl h)
        (λ q p ex er f. absurd (omega (arith, h, er, f.0)))

-- ---- a first part that was answered by a, and what follows it

module _ (b : ℕ) (xs : List ℕ) (left : ℕ) (ok : T (parts_ok b (suc left))) where
  pub chain-from : (at : ℕ) {a r : ℕ} → Ends (line_run b xs at) a → Went (goes_on xs a) (chain_at (b + 1) xs a left) a r → Ends (chain_at b xs at (suc left)) r
  chain-from at {a} {r} s w = ended s
      (λ v ex h. go v ex h (goes_on xs a) refl)
      (λ e p ex er f. ends_bad e p (part_bad b xs at (suc left) ex) (w.stops (omega (arith, er, f.0)) ∙ er) f)
    where
      go : (v : Held) → line_run b xs at ≡ got v a → a < 65_536 → (t : Bool) → goes_on xs a ≡ t → Ends (chain_at b xs at (suc left)) r
      go v ex h true e =
          ends_same (ends_map (λ (q : Held). (suc q.0, v.1 ++ q.1)) (w.there h e))
          (sym (part_then b xs at left (ex ∙ ap (λ y. got (y, v.1) a) (eqb-true v.0 1 (fx_goes_on b xs at (part_fx b (suc left) ok) ex ∙ e)))))
      go v ex h false e =
          let j : ℕ = slots_of (lines_from (b + 1) (suc left)) in
          let z : a + 0 ≡ a = omega arith in
          let no : v.0 ≡ 0 = line_zero b xs at (part_fx b (suc left) ok) ex (eqb-false v.0 1 (fx_goes_on b xs at (part_fx b (suc left) ok) ex ∙ e)) in
          ends_got (1, v.1 ++ replicate j (pos 0)) a (part_then b xs at left (ex ∙ ap (λ y. got (y, v.1) a) no) ∙ ap (got (1, v.1 ++ replicate j (pos 0))) z) (w.absent h e) h

  -- a part in the middle; c is where it ends
  pub chain_on : {a c r : ℕ} → Went (goes_on xs a) (line_run b xs a) a c → Went (goes_on xs c) (chain_at (b + 1) xs c left) c r → Went (goes_on xs a) (chain_at b xs a (suc left)) a r
  chain_on {a} {c} {r} s w = record {
    stops = λ h. w.stops (subst (65_536 ≤◌) (sym (s.stops h)) h) ∙ s.stops h;
    absent = λ h e. let k : c ≡ a = s.absent h e in w.absent (subst (◌< 65_536) (sym k) h) (ap (goes_on xs) k ∙ e) ∙ k;
    there = λ h e. chain-from a (s.there h e) w;
  }

-- the code asks the last flag of the octet before the step
pub by_octet : {A : Type 0} (xs : List ℕ) {t : Bool} {x : Res A} {a r : ℕ} → t ≡ goes_on xs a → Went t x a r → Went (goes_on xs a) x a r
by_octet xs {x = x} {a = a} {r = r} e w = subst (λ t. Went t x a r) e w
