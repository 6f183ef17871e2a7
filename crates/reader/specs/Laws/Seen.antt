-- Steps: what a number tells of the reading that it stands for.
use Rattle.std.specs.Prelude.{◌≡◌, refl, Bool, true, false, ℕ, ◌+◌, ◌*◌, ◌≤◌, ◌<◌, Result, Err, IsErrAnd}
use Rattle.std.proofs.Common.{sym, ap, ◌∙◌, subst, arith}
use Rattle.std.proofs.lemmas.Result.{err_from_is_err_and}
use Rattle.codec.specs.Codec.{Res, got, bad, map_res}
use Rattle.layout.specs.declared.Reason.{Reason}
use Rattle.layout.specs.Answer.{reason_number}
use Rattle.reader.specs.declared.lines.Stop.{Stop}
use Rattle.reader.specs.Seen.{step_number, code_of, Coded, Ends, Asked, Went}

pub ends_got : {A : Type 0} {x : Res A} {r : ℕ} (a : A) (n : ℕ) → x ≡ got a n → r ≡ n → n < 65_536 → Ends x r
ends_got a n ex er h = record { is = er ∙ ap code_of (sym ex); fits = subst Coded (sym ex) h }

pub ends_bad : {A : Type 0} {x : Res A} {r : ℕ} (e p : ℕ) → x ≡ bad e p → r ≡ e * 65_536 + p → (5 ≤ e) × (e ≤ 8) × (p < 65_536) → Ends x r
ends_bad e p ex er h = record { is = er ∙ ap code_of (sym ex); fits = subst Coded (sym ex) h }

-- by what was read
pub ended {ℓ} : {A : Type 0} {X : Type ℓ} {x : Res A} {r : ℕ} → Ends x r
    → ((a : A) → x ≡ got a r → r < 65_536 → X) → ((e p : ℕ) → x ≡ bad e p → r ≡ e * 65_536 + p → (5 ≤ e) × (e ≤ 8) × (p < 65_536) → X) → X
ended {A = A} {X = X} {x = x} {r = r} s f g = go x refl s.is s.fits
  where
    go : (y : Res A) → x ≡ y → r ≡ code_of y → Coded y → X
    go (got a n) ey er h = f a (ey ∙ ap (got a) (sym er)) (subst (◌< 65_536) (sym er) h)
    go (bad e p) ey er h = g e p ey er h

pub ends_map : {A B : Type 0} (f : A → B) {x : Res A} {r : ℕ} → Ends x r → Ends (map_res f x) r
ends_map f {x} {r} s = ended s (λ a ex h. ends_got (f a) r (ap (map_res f) ex) refl h) (λ e p ex er h. ends_bad e p (ap (map_res f) ex) er h)

pub ends_same : {A : Type 0} {x y : Res A} {r : ℕ} → Ends x r → x ≡ y → Ends y r
ends_same {r = r} s e = subst (λ y. Ends y r) e s

-- a refusal is no place
reason_some : (r : Reason) → 1 ≤ reason_number r
reason_some r = grind arith

pub err_big : (e : Stop) → 65_536 ≤ step_number (Err e)
err_big e = omega (arith, reason_some e.reason)

-- a refusal that `?` hands on
pub handed : {A : Type 0} {x : Res A} (r : Result ℕ Stop) (e : Stop) → IsErrAnd r (λ y. y ≡ e) → Ends x (step_number (Err e)) → Ends x (step_number r)
handed r e h s = let p = err_from_is_err_and r h in rw (p.1, p.2) s

-- ---- what is read behind a place

pub went_stop : {A : Type 0} {t : Bool} {x : Res A} {a : ℕ} → 65_536 ≤ a → Went t x a a
went_stop h = record { stops = λ _. refl; absent = λ g _. absurd (omega (arith, g, h)); there = λ g _. absurd (omega (arith, g, h)) }

module _ {A : Type 0} {t : Bool} {x : Res A} {a : ℕ} (h : a < 65_536) {u : Bool} (eu : u ≡ t) where
  pub went_absent : u ≡ false → Went t x a a
  went_absent e = record { stops = λ _. refl; absent = λ _ _. refl; there = λ _ f. let z : false ≡ true = sym (sym eu ∙ e) ∙ f in let q : ◌≡◌ {A = ℕ} 0 1 = cc in absurd (omega arith) }

  pub went_there : u ≡ true → {r : ℕ} → Ends x r → Went t x a r
  went_there e s = record { stops = λ g. absurd (omega (arith, g, h)); absent = λ _ f. let z : true ≡ false = sym (sym eu ∙ e) ∙ f in let q : ◌≡◌ {A = ℕ} 0 1 = cc in absurd (omega arith); there = λ _ _. s }

pub went_same : {A : Type 0} {t : Bool} {x y : Res A} {a r : ℕ} → Went t x a r → x ≡ y → Went t y a r
went_same {t = t} {a = a} {r = r} w e = subst (λ z. Went t z a r) e w

-- by what is called, behind a place
pub went_by : {A : Type 0} {t : Bool} {x : Res A} {P : Result ℕ Stop → Type 0} {a : ℕ} {r : Result ℕ Stop} → Asked t P a r → (P r → Ends x (step_number r)) → Went t x a (step_number r)
went_by q f = record { stops = λ g. absurd (omega (arith, g, q.few)); absent = λ _ e. ap step_number (q.absent e); there = λ _ e. f (q.there e) }
