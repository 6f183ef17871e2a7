-- Facts on tests.
use Rattle.std.specs.Prelude.{◌≡◌, refl, Bool, true, false, ◌&&◌, ℕ, zero, suc, ◌<◌, T, eqb}
use Rattle.std.proofs.Common.{sym, subst, not-suc-le-zero, arith, eqb-true}
use Rattle.std.proofs.lemmas.Bool.{eqb-false}
use Rattle.codec.specs.Pick.{pick}

pub and_in : (a b : Bool) → T a → T b → T (a && b)
and_in true b p q = q
and_in false b p q = p

pub and_l : (a b : Bool) → T (a && b) → T a
and_l true b t = tt
and_l false b t = t

pub and_r : (a b : Bool) → T (a && b) → T b
and_r true b t = t
and_r false b t = absurd t

pub ruleset tests = (and_l, and_r, and_in)

pub pick_yes {ℓ} : {X : Type ℓ} (t : Bool) (x y : X) → T t → pick t x y ≡ x
pick_yes true x y t = refl
pick_yes false x y t = absurd t

pub holds : (b : Bool) → T b → b ≡ true
holds true t = refl
holds false t = absurd t

pub fails : (b : Bool) → (T b → ⊥) → b ≡ false
fails true x = absurd (x tt)
fails false x = refl

pub not_one : (x : ℕ) → x < 2 → eqb x 1 ≡ false → x ≡ 0
not_one zero h e = refl
not_one (suc zero) h e = absurd (eqb-false 1 1 e refl)
not_one (suc (suc x)) h e = absurd (omega arith)

-- a test passes at every number below n
abbrev pub up_to : (ℕ → Bool) → ℕ → Bool
up_to f zero = true
up_to f (suc n) = f n && up_to f n

pub up_to_lem : (f : ℕ → Bool) (n : ℕ) → T (up_to f n) → (k : ℕ) → k < n → T (f k)
up_to_lem f zero t k h = absurd (not-suc-le-zero h)
up_to_lem f (suc n) t k h = go (eqb k n) refl (λ l. up_to_lem f n (and_r (f n) _ t) k l)
  where
    go : (b : Bool) → eqb k n ≡ b → (k < n → T (f k)) → T (f k)
    go true e ih = subst (λ j. T (f j)) (sym (eqb-true k n e)) (and_l (f n) _ t)
    go false e ih = let x : k ≡ n → ⊥ = eqb-false k n e in ih (omega arith)
