-- The sets of the numbers from 0 to 4,095: every setting belongs to exactly one of them, and each number's own `tenths` are in its set.
use Rattle.std.specs.Prelude.{◌≡◌, refl, ◌≢◌, Bool, true, false, ℕ, ◌+◌, ◌-◌, ◌≤◌, T, leb, eqb, ℤ, pos, negsuc}
use Rattle.std.proofs.Common.{sym, ap, ◌∙◌, subst, zero-le, arith, leb-true, leb-false, eqb-true, eq-eqb, ne_eqb, eqb→eq}
use Rattle.std.proofs.lemmas.Bool.{eqb-false, lt-leb}
use Rattle.std.proofs.Math.Dec.{eqb_refl}
use Rattle.std.specs.Int.Signed.{le_z}
use Rattle.codec.specs.Pick.{pick}
use Rattle.scope.specs.Pressure.{eq_int, tenths_of, stands}

-- numbers that the test takes for the same are the same
pub eq_int-same : (y z : ℤ) → T (eq_int y z) → y ≡ z
unfolding eq_int
eq_int-same (pos a) (pos b) t = ap pos (eqb→eq a b t)
eq_int-same (pos a) (negsuc b) t = absurd t
eq_int-same (negsuc a) (pos b) t = absurd t
eq_int-same (negsuc a) (negsuc b) t = ap negsuc (eqb→eq a b t)

-- ---- the three kinds of number

pub stands_lowest : (t : ℤ) → stands (pos 0) t ≡ le_z t (pos 8_000)
unfolding stands
stands_lowest t = refl

pub stands_highest : (t : ℤ) → stands (pos 4_095) t ≡ le_z (pos 12_095) t
unfolding stands
stands_highest t = refl

pub stands_between : (n : ℕ) → n ≢ 0 → n ≢ 4_095 → (t : ℤ) → stands (pos n) t ≡ eq_int t (tenths_of (pos n))
unfolding stands
stands_between n p q t = rw (ne_eqb n 0 p, ne_eqb n 4_095 q) refl

-- ---- the number of a setting

-- its tenths from 8,000 on, none below, and 4,095 from 12,095 on
unfoldable pub number_of : ℤ → ℕ
number_of (pos t) = pick (leb 12_095 t) 4_095 (t - 8_000)
number_of (negsuc t) = 0

pub number_few : (t : ℤ) → number_of t ≤ 4_095
unfolding number_of
number_few (negsuc t) = zero-le
number_few (pos t) = go (leb 12_095 t) refl
  where
    go : (c : Bool) → leb 12_095 t ≡ c → pick c 4_095 (t - 8_000) ≤ 4_095
    go true e = omega arith
    go false e = omega (arith, leb-false 12_095 t e)

-- the test of each kind of number is whether the setting's number is n; c and d are what the tests of t say
module _ (n t : ℕ) (h : n ≤ 4_095) where
  lowest : (c d : Bool) → n ≡ 0 → leb 12_095 t ≡ c → leb t 8_000 ≡ d → leb t 8_000 ≡ eqb n (pick c 4_095 (t - 8_000))
  lowest true d e f g = lt-leb t 8_000 (omega (arith, leb-true 12_095 t f)) ∙ sym (ne_eqb n 4_095 (λ x. omega arith))
  lowest false true e f g = g ∙ sym (eq-eqb n (t - 8_000) (omega (arith, leb-true t 8_000 g)))
  lowest false false e f g = g ∙ sym (ne_eqb n (t - 8_000) (λ x. omega (arith, leb-false t 8_000 g)))

  highest : (c : Bool) → n ≡ 4_095 → leb 12_095 t ≡ c → leb 12_095 t ≡ eqb n (pick c 4_095 (t - 8_000))
  highest true e f = f ∙ sym (eq-eqb n 4_095 e)
  highest false e f = f ∙ sym (ne_eqb n (t - 8_000) (λ x. omega (arith, leb-false 12_095 t f)))

  between : (c d : Bool) → n ≢ 0 → n ≢ 4_095 → leb 12_095 t ≡ c → eqb t (8_000 + n) ≡ d → eqb t (8_000 + n) ≡ eqb n (pick c 4_095 (t - 8_000))
  between true d p q f g = ne_eqb t (8_000 + n) (λ x. q (omega (arith, leb-true 12_095 t f))) ∙ sym (ne_eqb n 4_095 q)
  between false true p q f g = g ∙ sym (eq-eqb n (t - 8_000) (omega (arith, eqb-true t (8_000 + n) g)))
  between false false p q f g = g ∙ sym (ne_eqb n (t - 8_000) (λ x. eqb-false t (8_000 + n) g (omega (arith, x))))

-- a number stands for the settings whose number it is, and for no other
pub stands_number : (n : ℕ) (t : ℤ) → n ≤ 4_095 → stands (pos n) t ≡ eqb n (number_of t)
unfolding stands number_of
stands_number n (pos t) h = go (eqb n 0) (eqb n 4_095) refl refl
  where
    go : (a b : Bool) → eqb n 0 ≡ a → eqb n 4_095 ≡ b
        → pick a (leb t 8_000) (pick b (leb 12_095 t) (eqb t (8_000 + n))) ≡ eqb n (pick (leb 12_095 t) 4_095 (t - 8_000))
    go true b e f = lowest n t h (leb 12_095 t) (leb t 8_000) (eqb-true n 0 e) refl refl
    go false true e f = highest n t h (leb 12_095 t) (eqb-true n 4_095 f) refl
    go false false e f = between n t h (leb 12_095 t) (eqb t (8_000 + n)) (eqb-false n 0 e) (eqb-false n 4_095 f) refl refl
stands_number n (negsuc t) h = go (eqb n 0) (eqb n 4_095)
  where
    go : (a b : Bool) → pick a true (pick b false false) ≡ a
    go true b = refl
    go false true = refl
    go false false = refl

-- ---- every setting belongs to exactly one number

pub some_number : (t : ℤ) → T (stands (pos (number_of t)) t)
some_number t = subst T (sym (stands_number (number_of t) t (number_few t))) (eqb_refl (number_of t))

pub one_number : (m n : ℕ) (t : ℤ) → m ≤ 4_095 → n ≤ 4_095 → T (stands (pos m) t) → T (stands (pos n) t) → m ≡ n
one_number m n t h k a b = of m h a ∙ sym (of n k b)
  where
    of : (n : ℕ) → n ≤ 4_095 → T (stands (pos n) t) → n ≡ number_of t
    of n h a = eqb→eq n (number_of t) (subst T (stands_number n t h) a)

-- and a number's own `tenths` are among its settings
pub own_tenths : (n : ℕ) → n ≤ 4_095 → T (stands (pos n) (pos (8_000 + n)))
unfolding number_of
own_tenths n h = subst T (sym (stands_number n (pos (8_000 + n)) h ∙ ap (eqb n) (sym (back (leb 12_095 (8_000 + n)) refl)))) (eqb_refl n)
  where
    back : (c : Bool) → leb 12_095 (8_000 + n) ≡ c → n ≡ pick c 4_095 (8_000 + n - 8_000)
    back true e = omega (arith, leb-true 12_095 (8_000 + n) e)
    back false e = omega arith
