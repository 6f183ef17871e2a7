-- The comparison of two texts: one law for each way through the code.
use Rattle.std.specs.Prelude.{◌≡◌, Bool, true, false, ◌&&◌, List, [], ◌∷◌, Some, None, ltb, ℕ, ◌+◌, ◌≤◌, ◌<◌, ◌⊎◌, eqb, length, get_or, take, drop}
use Rattle.std.proofs.Common.{refl, sym, ap, ◌∙◌, arith, inl, inr, drop_of_length-le, drop-cons}
use Rattle.std.proofs.Math.Numerals.{add-one}
use Rattle.std.specs.Cmp.Lexicographic.{pointwise}
use Rattle.std.proofs.lemmas.Bool.{lt-ltb, ltb-true, ltb-false}
use Rattle.std.specs.Bool.{then_some}
use borrow.Author.Tests.{eq-eqb, ne_eqb, eqb-true, eqb-false}
use Rattle.guess.specs.Guess.{begins, first_wrong}
use Rattle.compare.specs.Lines.{line_of}

-- ---- whether a text begins with a word

turned : (o x : ℕ) → eqb o x ≡ eqb x o
turned o x = by_test (eqb x o) refl
  where
    by_test : (b : Bool) → eqb x o ≡ b → eqb o x ≡ b
    by_test true t = eq-eqb o x (sym (eqb-true x o t))
    by_test false t = ne_eqb o x (λ e. eqb-false x o t (sym e))

pub begins_is : (w t : List ℕ) → pointwise eqb w (take (length w) t) ≡ begins w t
unfolding begins
begins_is [] t = refl
begins_is (o ∷ w) [] = refl
begins_is (o ∷ w) (x ∷ t) = ap (λ b. b && pointwise eqb w (take (length w) t)) (turned o x) ∙ ap (λ b. eqb x o && b) (begins_is w t)

-- ---- the comparison, k being the line that stands here

pub wrong_end : (k : ℕ) (s t : List ℕ) (i : ℕ) → length s ≤ i → length t ≤ i → 0 ≡ first_wrong k (drop i s) (drop i t)
unfolding first_wrong
wrong_end k s t i h g = rw (drop_of_length-le s h, drop_of_length-le t g) refl

pub wrong_more_text : (k : ℕ) (s t : List ℕ) (i : ℕ) → length s ≤ i → i < length t → k ≡ first_wrong k (drop i s) (drop i t)
unfolding first_wrong
wrong_more_text k s t i h g = rw (drop_of_length-le s h, drop-cons t i 0 g) refl

module _ (k : ℕ) (s t : List ℕ) (i : ℕ) (h : i < length s) where
  pub wrong_less-text : length t ≤ i → k ≡ first_wrong k (drop i s) (drop i t)
  unfolding first_wrong
  wrong_less-text g = rw (drop-cons s i 0 h, drop_of_length-le t g) refl

  pub wrong_here : i < length t → (get_or s i 0 ≡ get_or t i 0 → ⊥) → k ≡ first_wrong k (drop i s) (drop i t)
  unfolding first_wrong
  wrong_here g e = rw (drop-cons s i 0 h, drop-cons t i 0 g, ne_eqb (get_or s i 0) (get_or t i 0) e) refl

-- as code gives it
is_line : {n k : ℕ} → n ≡ k → 0 < k → Some k ≡ line_of n
is_line {n} {k} e h = rw (e, lt-ltb 0 k h) refl

pub wrong_none : (k : ℕ) (s t : List ℕ) → length s ≡ 0 → length t ≡ 0 → None ≡ line_of (first_wrong k s t)
wrong_none k s t e f = ap line_of (wrong_end k s t 0 (omega (arith, e)) (omega (arith, f)))

pub end_line : (k : ℕ) (s t : List ℕ) → 0 < k → (length s ≡ 0) ⊎ (length t ≡ 0) → (length s ≡ length t → ⊥) → Some k ≡ line_of (first_wrong k s t)
end_line k s t h (inl e) f = is_line (sym (wrong_more_text k s t 0 (omega (arith, e)) (omega (arith, e, f)))) h
end_line k s t h (inr e) f = is_line (sym (wrong_less-text k s t 0 (omega (arith, e, f)) (omega (arith, e)))) h

-- the octets that stand here, and what is left
module _ (k : ℕ) {s t : List ℕ} {x y : ℕ} {r u : List ℕ} (es : s ≡ x ∷ r) (et : t ≡ y ∷ u) where
  pub here_line : 0 < k → (x ≡ y → ⊥) → Some k ≡ line_of (first_wrong k s t)
  here_line h n = rw (es, et) (is_line (sym (wrong_here k (x ∷ r) (y ∷ u) 0 (omega arith) (omega arith) n)) h)

  pub wrong_feed : x ≡ y → x ≡ 10 → first_wrong k s t ≡ first_wrong (k + 1) r u
  unfolding first_wrong
  wrong_feed e f = rw (add-one k, es, et, eq-eqb x y e, eq-eqb x 10 f) refl

  pub wrong_on : x ≡ y → (x ≡ 10 → ⊥) → first_wrong k s t ≡ first_wrong k r u
  unfolding first_wrong
  wrong_on e n = rw (es, et, eq-eqb x y e, ne_eqb x 10 n) refl

-- ---- what the answer says of the line: nothing is lost

pub line_none : (n : ℕ) → line_of n ≡ None → n ≡ 0
line_none n e = by_test (ltb 0 n) refl e
  where
    by_test : (b : Bool) → ltb 0 n ≡ b → then_some b n ≡ None → n ≡ 0
    by_test true t u = cc
    by_test false t u = omega (arith, ltb-false 0 n t)

pub line_some : (n k : ℕ) → line_of n ≡ Some k → (k ≡ n) × (k ≡ 0 → ⊥)
line_some n k e = by_test (ltb 0 n) refl e
  where
    by_test : (b : Bool) → ltb 0 n ≡ b → then_some b n ≡ Some k → (k ≡ n) × (k ≡ 0 → ⊥)
    by_test true t u = let same : n ≡ k = cc in (sym same, λ z. omega (arith, ltb-true 0 n t))
    by_test false t u = cc
