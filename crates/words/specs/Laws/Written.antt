-- What is taken is what was written: a word is the plain decimal of the number that is taken from it, and of no other; and the first word of
-- a line is the one that was put there with a space behind it.
use Rattle.std.specs.Prelude.{◌≡◌, refl, Bool, true, false, not, ◌&&◌, List, [], ◌∷◌, ◌++◌, ℕ, zero, suc, ◌+◌, ◌-◌, ◌*◌, ◌/◌, ◌%◌, ◌^◌, ◌≤◌, ◌<◌, ltb, leb, eqb, ℤ, pos, negsuc, length, get_or, take, drop}
use Rattle.std.proofs.Common.{sym, ap, ◌∙◌, append-nil, append_assoc, pow-suc, mul-le-mul_right, mul_comm, mul_assoc, arith, ne_eqb, le-leb, lt-ltb, le-ltb, ltb-true, ltb-false, leb-true, eqb-true}
use Rattle.std.proofs.Math.Nat.{pow-le-pow_right}
use Rattle.std.proofs.lemmas.Bool.{eqb-false, not-true}
use Rattle.std.proofs.Math.Seq.{take-append_seam, take-length}
use Rattle.std.specs.Int.Signed.{mag}
use Rattle.codec.specs.Pick.{pick}
use Rattle.codec.proofs.Laws.Tests.{holds}
use Rattle.scope.specs.Sheet.{digits_of, decimal, signed_decimal}
use Rattle.text.specs.Decimals.{value_from, value_of, is_digit}
use Rattle.text.specs.Laws.Decimals.{are_digits, value_decimal, all_digits, no_zero_in_front, some_digit, decimal_zero}
use Rattle.words.specs.Lines.{word_length, word_of}
use Rattle.words.specs.Numbers.{leads, goes_on, is_number, number_in, is_signed, signed_value}
use Rattle.words.specs.Laws.Numbers.{number_value, digit_least}

-- two tests that hold together
both : (a b : Bool) → a && b ≡ true → (a ≡ true) × (b ≡ true)
both true b e = (refl, e)
both false b e = let z : ◌≡◌ {A = ℕ} 0 1 = cc in absurd (omega arith)

together : (a b : Bool) → a ≡ true → b ≡ true → a && b ≡ true
together a b p q = rw (p, q) refl

-- ---- a number that is written is taken

first_octet : (w : List ℕ) → 0 < length w → get_or w 0 48 ≡ get_or w 0 0
first_octet [] h = absurd (omega arith)
first_octet (x ∷ w) h = refl

decimal_leads : (n : ℕ) → n < 10 ^ 20 → leads (decimal n) ≡ true
unfolding leads decimal
decimal_leads n h = by_zero (eqb (get_or (digits_of 20 n) 0 48) 48) refl
  where
    zero_alone : n ≡ 0 → eqb (length (digits_of 20 n)) 1 ≡ true
    zero_alone e = rw e refl

    by_zero : (b : Bool) → eqb (get_or (digits_of 20 n) 0 48) 48 ≡ b → pick b (eqb (length (digits_of 20 n)) 1) true ≡ true
    by_zero true e = zero_alone (no_zero_in_front 20 n h (sym (first_octet (digits_of 20 n) (some_digit 19 n)) ∙ eqb-true (get_or (digits_of 20 n) 0 48) 48 e))
    by_zero false e = refl

pub written_is_number : (limit n : ℕ) → n ≤ limit → limit < 2 ^ 64 → is_number limit (decimal n) ≡ true
unfolding is_number goes_on value_of decimal
written_is_number limit n h k =
    let v : value_from 0 (digits_of 20 n) ≡ n = value_decimal n (omega arith) in
    together (leads (digits_of 20 n)) _ (decimal_leads n (omega arith))
    (together (are_digits (digits_of 20 n)) _ (holds (are_digits (digits_of 20 n)) (all_digits 20 n)) (le-leb (value_from 0 (digits_of 20 n)) limit (omega arith)))

pub written_taken : (limit n : ℕ) → n ≤ limit → limit < 2 ^ 64 → number_in limit (decimal n) ≡ n
written_taken limit n h k = number_value limit (decimal n) (written_is_number limit n h k) ∙ value_decimal n (omega arith)

-- ---- a number that is taken is written so

digit_most : (o : ℕ) → is_digit o ≡ true → o < 58
unfolding is_digit
digit_most o e = ltb-true o 58 (both (ltb 47 o) _ e).1

-- one digit more, and its number is ten times what it was and the digit
next_digit : (f v o : ℕ) → 1 ≤ v → is_digit o ≡ true → digits_of (suc f) (v * 10 + (o - 48)) ≡ digits_of f v ++ (o ∷ [])
unfolding digits_of
next_digit f v o h d =
    let l : 48 ≤ o = digit_least o d in
    let k : o < 58 = digit_most o d in
    let q : (v * 10 + (o - 48)) / 10 ≡ v = omega arith in
    let r : 48 + (v * 10 + (o - 48)) % 10 ≡ o = omega arith in
    rw (le-ltb (v * 10 + (o - 48)) 10 (omega arith), q, r) refl

-- digits that go on a number that is not 0 stand behind its own
more_digits : (f v : ℕ) (os : List ℕ) → 1 ≤ v → are_digits os ≡ true → digits_of (length os + f) (value_from v os) ≡ digits_of f v ++ os
unfolding are_digits value_from
more_digits f v [] h d = let e : 0 + f ≡ f = omega arith in ap (λ k. digits_of k v) e ∙ sym (append-nil (digits_of f v))
more_digits f v (o ∷ os) h d =
    let p : (is_digit o ≡ true) × (are_digits os ≡ true) = both (is_digit o) _ d in
    let e : suc (length os) + f ≡ length os + suc f = omega arith in
    ap (λ k. digits_of k (value_from (v * 10 + (o - 48)) os)) e
    ∙ more_digits (suc f) (v * 10 + (o - 48)) os (omega arith) p.1
    ∙ ap (λ x. x ++ os) (next_digit f v o h p.0)
    ∙ append_assoc (digits_of f v) (o ∷ []) os

-- and they make it at least ten times as large, each of them
grows : (v : ℕ) (os : List ℕ) → v * 10 ^ length os ≤ value_from v os
unfolding value_from
grows v [] = omega arith
grows v (o ∷ os) =
    let e : 10 ^ suc (length os) ≡ 10 ^ length os * 10 = pow-suc 10 (length os) in
    let m : v * 10 * 10 ^ length os ≤ (v * 10 + (o - 48)) * 10 ^ length os = mul-le-mul_right (10 ^ length os) (omega arith) in
    let a : v * (10 ^ length os * 10) ≡ v * 10 * 10 ^ length os = ap (v *◌) (mul_comm (10 ^ length os) 10) ∙ sym (mul_assoc v 10 (10 ^ length os)) in
    omega (arith, grows (v * 10 + (o - 48)) os, ap (v *◌) e, a, m)

few_digits : (v : ℕ) (os : List ℕ) → 1 ≤ v → value_from v os < 10 ^ 20 → length os < 20
few_digits v os h k = by_length (ltb (length os) 20) refl
  where
    by_length : (b : Bool) → ltb (length os) 20 ≡ b → length os < 20
    by_length true e = ltb-true (length os) 20 e
    by_length false e =
        let p : 10 ^ 20 ≤ 10 ^ length os = pow-le-pow_right {n = 10} (omega arith) {i = 20} {j = length os} (ltb-false (length os) 20 e) in
        let m : 1 * 10 ^ length os ≤ v * 10 ^ length os = mul-le-mul_right (10 ^ length os) h in
        absurd (omega (arith, p, m, grows v os, k))

one_digit : (f v : ℕ) → 1 ≤ f → v < 10 → digits_of f v ≡ (48 + v) ∷ []
unfolding digits_of
one_digit zero v h k = absurd (omega arith)
one_digit (suc f) v h k = rw (lt-ltb v 10 k) refl

-- digits with no 0 in front
long_number : (o : ℕ) (os : List ℕ) → are_digits (o ∷ os) ≡ true → (o ≡ 48 → ⊥) → value_of (o ∷ os) < 10 ^ 20 → decimal (value_of (o ∷ os)) ≡ o ∷ os
unfolding are_digits value_of value_from decimal
long_number o os d x k =
    let p : (is_digit o ≡ true) × (are_digits os ≡ true) = both (is_digit o) _ d in
    let l : 48 ≤ o = digit_least o p.0 in
    let m : o < 58 = digit_most o p.0 in
    let n : length os < 20 = few_digits (0 * 10 + (o - 48)) os (omega arith) k in
    let e : 20 ≡ length os + (20 - length os) = omega arith in
    let f : 48 + (0 * 10 + (o - 48)) ≡ o = omega arith in
    ap (λ j. digits_of j (value_from (0 * 10 + (o - 48)) os)) e
    ∙ more_digits (20 - length os) (0 * 10 + (o - 48)) os (omega arith) p.1
    ∙ ap (λ x. x ++ os) (one_digit (20 - length os) (0 * 10 + (o - 48)) (omega arith) (omega arith) ∙ ap (◌∷ []) f)

zero_alone : (o : ℕ) (os : List ℕ) → o ≡ 48 → length (o ∷ os) ≡ 1 → decimal (value_of (o ∷ os)) ≡ o ∷ os
unfolding value_of value_from
zero_alone o [] e h = rw e decimal_zero
zero_alone o (x ∷ os) e h = absurd (omega arith)

pub taken_written : (limit : ℕ) (w : List ℕ) → limit < 10 ^ 20 → is_number limit w ≡ true → decimal (value_of w) ≡ w
unfolding is_number leads goes_on value_of
taken_written limit [] k e = let z : ◌≡◌ {A = ℕ} 0 1 = cc in absurd (omega arith)
taken_written limit (o ∷ os) k e = by_zero (eqb o 48) refl (both (pick (eqb o 48) (eqb (suc (length os)) 1) true) _ e)
  where
    by_zero : (b : Bool) → eqb o 48 ≡ b → (pick b (eqb (suc (length os)) 1) true ≡ true) × (goes_on limit 0 (o ∷ os) ≡ true) → decimal (value_of (o ∷ os)) ≡ o ∷ os
    by_zero true t p = zero_alone o os (eqb-true o 48 t) (eqb-true (suc (length os)) 1 p.0)
    by_zero false t p =
        let g : (are_digits (o ∷ os) ≡ true) × (leb (value_from 0 (o ∷ os)) limit ≡ true) = both (are_digits (o ∷ os)) _ p.1 in
        long_number o os g.0 (eqb-false o 48 t) (omega (arith, leb-true (value_from 0 (o ∷ os)) limit g.1))

-- so the answer n is given to the decimal of n and to no other word
pub one_word : (limit n : ℕ) (w : List ℕ) → limit < 2 ^ 64 → n ≤ limit → number_in limit w ≡ n → w ≡ decimal n
unfolding number_in
one_word limit n w k h e = by_form (is_number limit w) refl e
  where
    by_form : (b : Bool) → is_number limit w ≡ b → pick b (value_of w) (limit + 1) ≡ n → w ≡ decimal n
    by_form true t u = sym (taken_written limit w (omega arith) t) ∙ ap decimal u
    by_form false t u = absurd (omega arith)

-- ---- signed numbers of 32 bits

first_digit : (w : List ℕ) → are_digits w ≡ true → 0 < length w → 48 ≤ get_or w 0 0
unfolding are_digits
first_digit [] d h = absurd (omega arith)
first_digit (o ∷ w) d h = digit_least o (both (is_digit o) _ d).0

no_sign : (n : ℕ) → get_or (decimal n) 0 0 ≡ 45 → ⊥
unfolding decimal
no_sign n e = omega (arith, first_digit (digits_of 20 n) (holds (are_digits (digits_of 20 n)) (all_digits 20 n)) (some_digit 19 n))

-- a number of 32 bits
abbrev pub Signed32 : ℤ → Type 0
Signed32 z = mag z < 2_147_483_648

pub signed_is_number : (z : ℤ) → Signed32 z → is_signed (signed_decimal z) ≡ true
unfolding is_signed signed_decimal
signed_is_number (pos n) h = rw (ne_eqb (get_or (decimal n) 0 0) 45 (no_sign n)) (written_is_number 2_147_483_647 n (omega arith) (omega arith))
signed_is_number (negsuc n) h =
    let v : value_of (decimal (suc n)) ≡ suc n = value_decimal (suc n) (omega arith) in
    together (is_number 2_147_483_648 (decimal (suc n))) _ (written_is_number 2_147_483_648 (suc n) (omega arith) (omega arith)) (le-leb 1 (value_of (decimal (suc n))) (omega arith))

pub signed_taken : (z : ℤ) → Signed32 z → signed_value (signed_decimal z) ≡ z
unfolding signed_value signed_decimal
signed_taken (pos n) h = rw (ne_eqb (get_or (decimal n) 0 0) 45 (no_sign n)) (ap pos (value_decimal n (omega arith)))
signed_taken (negsuc n) h = let e : suc n - 1 ≡ n = omega arith in ap (λ k. negsuc (k - 1)) (value_decimal (suc n) (omega arith)) ∙ ap negsuc e

sign_first : (w : List ℕ) → get_or w 0 0 ≡ 45 → w ≡ 45 ∷ drop 1 w
sign_first [] e = absurd (omega arith)
sign_first (o ∷ w) e = ap (◌∷ w) e

pub signed_written : (w : List ℕ) → is_signed w ≡ true → signed_decimal (signed_value w) ≡ w
unfolding is_signed signed_value signed_decimal
signed_written w e = by_sign (eqb (get_or w 0 0) 45) refl e
  where
    by_sign : (b : Bool) → eqb (get_or w 0 0) 45 ≡ b → pick b (is_number 2_147_483_648 (drop 1 w) && leb 1 (value_of (drop 1 w))) (is_number 2_147_483_647 w) ≡ true
        → signed_decimal (pick b (negsuc (value_of (drop 1 w) - 1)) (pos (value_of w))) ≡ w
    by_sign true t u =
        let p : (is_number 2_147_483_648 (drop 1 w) ≡ true) × (leb 1 (value_of (drop 1 w)) ≡ true) = both (is_number 2_147_483_648 (drop 1 w)) _ u in
        let v : suc (value_of (drop 1 w) - 1) ≡ value_of (drop 1 w) = omega (arith, leb-true 1 (value_of (drop 1 w)) p.1) in
        ap (λ k. 45 ∷ decimal k) v ∙ ap (45 ∷◌) (taken_written 2_147_483_648 (drop 1 w) (omega arith) p.0) ∙ sym (sign_first w (eqb-true (get_or w 0 0) 45 t))
    by_sign false t u = taken_written 2_147_483_647 w (omega arith) u

-- ---- words

unfoldable pub no_space : List ℕ → Bool
no_space [] = true
no_space (o ∷ w) = not (eqb o 32) && no_space w

word_length_lem : (w s : List ℕ) → no_space w ≡ true → word_length (w ++ s) ≡ length w + word_length s
unfolding no_space word_length
word_length_lem [] s n = omega arith
word_length_lem (o ∷ w) s n =
    let p : (not (eqb o 32) ≡ true) × (no_space w ≡ true) = both (not (eqb o 32)) _ n in
    rw (not-true (eqb o 32) p.0) (omega (arith, word_length_lem w s p.1))

-- a word with a space behind it, and the last word of a line
pub word_before : (w s : List ℕ) → no_space w ≡ true → word_of (w ++ (32 ∷ s)) ≡ w
unfolding word_of word_length
word_before w s n =
    let e : word_length (w ++ (32 ∷ s)) ≡ length w = word_length_lem w (32 ∷ s) n ∙ omega arith in
    ap (λ k. take k (w ++ (32 ∷ s))) e ∙ take-append_seam w (32 ∷ s)

pub word_last : (w : List ℕ) → no_space w ≡ true → word_of w ≡ w
unfolding word_of word_length
word_last w n =
    let e : word_length w ≡ length w = ap word_length (sym (append-nil w)) ∙ word_length_lem w [] n ∙ omega arith in
    ap (λ k. take k w) e ∙ take-length w
