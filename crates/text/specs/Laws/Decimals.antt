-- What a number in decimal says: its digits read back to it, they are digits, no 0 stands in front, and how many there are at most.
use Rattle.std.specs.Prelude.{◌≡◌, Bool, true, false, ◌&&◌, List, [], ◌∷◌, ◌++◌, ℕ, zero, suc, ◌+◌, ◌-◌, ◌*◌, ◌^◌, ◌/◌, ◌%◌, ◌≤◌, ◌<◌, T, ltb, ℤ, pos, negsuc, nat_abs, length, get_or}
use Rattle.std.proofs.Math.Path.{refl}
use Rattle.std.proofs.Common.{sym, ◌∙◌, pow-suc, arith, ltb-true, ltb-false, lt→ltb, ltb→lt, length-append}
use Rattle.codec.specs.Pick.{pick}
use Rattle.codec.specs.Signed.{in_signed}
use Rattle.codec.proofs.Laws.Tests.{and_in, and_l, and_r}
use Rattle.scope.specs.Sheet.{digits_of, decimal, signed_decimal}
use Rattle.text.specs.Decimals.{value_from, value_of, is_digit}

-- ---- cases of the digits: the only one, or those of the tenth before the last one

module _ {ℓ} (P : List ℕ → Type ℓ) (f n : ℕ) where
  by_test : (b : Bool) → ltb n 10 ≡ b → (n < 10 → P ((48 + n) ∷ [])) → (10 ≤ n → P (digits_of f (n / 10) ++ ((48 + n % 10) ∷ []))) → P (pick b ((48 + n) ∷ []) (digits_of f (n / 10) ++ ((48 + n % 10) ∷ [])))
  by_test true e x y = x (ltb-true n 10 e)
  by_test false e x y = y (ltb-false n 10 e)

  cases : (n < 10 → P ((48 + n) ∷ [])) → (10 ≤ n → P (digits_of f (n / 10) ++ ((48 + n % 10) ∷ []))) → P (digits_of (suc f) n)
  unfolding digits_of
  cases x y = by_test (ltb n 10) refl x y

-- a tenth of a number has a digit less
tenth : (f n : ℕ) → n < 10 ^ suc f → n / 10 < 10 ^ f
tenth f n h = omega (arith, h, pow-suc 10 f)

value_last : (v : ℕ) (os : List ℕ) (o : ℕ) → value_from v (os ++ (o ∷ [])) ≡ value_from v os * 10 + (o - 48)
unfolding value_from
value_last v [] o = refl
value_last v (x ∷ os) o = value_last (v * 10 + (x - 48)) os o

-- the digits of a number say it, if there are enough of them
pub value_digits : (f n : ℕ) → n < 10 ^ f → value_of (digits_of f n) ≡ n
unfolding digits_of value_of value_from
value_digits zero n h = omega arith
value_digits (suc f) n h =
    cases (λ os. value_of os ≡ n) f n
    (λ less. omega arith)
    (λ more.
    let e : value_from 0 (digits_of f (n / 10)) ≡ n / 10 = value_digits f (n / 10) (tenth f n h) in
    value_last 0 (digits_of f (n / 10)) (48 + n % 10) ∙ omega (arith, e))

-- twenty are, for every number of 64 bits
pub value_decimal : (n : ℕ) → n < 2 ^ 64 → value_of (decimal n) ≡ n
unfolding decimal
value_decimal n h = value_digits 20 n (omega (arith, h))

unfoldable pub are_digits : List ℕ → Bool
unfolding is_digit
are_digits [] = true
are_digits (o ∷ os) = is_digit o && are_digits os

digit_is : (d : ℕ) → d < 10 → T (is_digit (48 + d))
unfolding is_digit
digit_is d h = and_in (ltb 47 (48 + d)) _ (lt→ltb 47 (48 + d) (omega arith)) (lt→ltb (48 + d) 58 (omega arith))

digits_last : (os : List ℕ) (d : ℕ) → d < 10 → T (are_digits os) → T (are_digits (os ++ ((48 + d) ∷ [])))
unfolding are_digits
digits_last [] d h t = and_in (is_digit (48 + d)) true (digit_is d h) tt
digits_last (o ∷ os) d h t = and_in (is_digit o) _ (and_l (is_digit o) _ t) (digits_last os d h (and_r (is_digit o) _ t))

pub all_digits : (f n : ℕ) → T (are_digits (digits_of f n))
unfolding digits_of are_digits
all_digits zero n = tt
all_digits (suc f) n =
    cases (λ os. T (are_digits os)) f n
    (λ less. digits_last [] n less tt)
    (λ more. digits_last (digits_of f (n / 10)) (n % 10) (omega arith) (all_digits f (n / 10)))

-- ---- no 0 in front, except for 0 itself

front : (xs ys : List ℕ) → 0 < length xs → get_or (xs ++ ys) 0 0 ≡ get_or xs 0 0
front [] ys h = absurd (omega arith)
front (x ∷ xs) ys h = refl

pub some_digit : (f n : ℕ) → 0 < length (digits_of (suc f) n)
some_digit f n = cases (λ os. 0 < length os) f n (λ less. omega arith) (λ more. omega (arith, length-append (digits_of f (n / 10)) ((48 + n % 10) ∷ [])))

digits_there : (f n : ℕ) → 1 ≤ n → n < 10 ^ f → 0 < length (digits_of f n)
digits_there zero n h k = absurd (omega arith)
digits_there (suc f) n h k = some_digit f n

pub no_zero_in_front : (f n : ℕ) → n < 10 ^ f → get_or (digits_of f n) 0 0 ≡ 48 → n ≡ 0
unfolding digits_of
no_zero_in_front zero n h e = omega arith
no_zero_in_front (suc f) n h first =
    cases (λ os. get_or os 0 0 ≡ 48 → n ≡ 0) f n
    (λ less e. omega arith)
    (λ more e.
    let k : n / 10 < 10 ^ f = tenth f n h in
    let z : n / 10 ≡ 0 = no_zero_in_front f (n / 10) k (sym (front (digits_of f (n / 10)) _ (digits_there f (n / 10) (omega arith) k)) ∙ e) in
    absurd (omega arith))
    first

-- 0 itself is one digit
pub decimal_zero : decimal 0 ≡ 48 ∷ []
unfolding decimal digits_of
decimal_zero = refl

-- ---- how many octets

-- the fuel bounds them
pub digits_most : (f n : ℕ) → length (digits_of f n) ≤ f
unfolding digits_of
digits_most zero n = omega arith
digits_most (suc f) n =
    cases (λ os. length os ≤ suc f) f n
    (λ less. omega arith)
    (λ more. omega (arith, length-append (digits_of f (n / 10)) ((48 + n % 10) ∷ []), digits_most f (n / 10)))

-- and so does the number: below 10 ^ k it has at most k digits, and 0 has one
pub digits_under : (f k n : ℕ) → n < 10 ^ suc k → length (digits_of f n) ≤ suc k
unfolding digits_of
digits_under zero k n h = omega arith
digits_under (suc f) zero n h = cases (λ os. length os ≤ 1) f n (λ less. omega arith) (λ more. absurd (omega (arith, h)))
digits_under (suc f) (suc k) n h =
    cases (λ os. length os ≤ suc (suc k)) f n
    (λ less. omega arith)
    (λ more. omega (arith, length-append (digits_of f (n / 10)) ((48 + n % 10) ∷ []), digits_under f k (n / 10) (tenth (suc k) n h)))

-- a larger number has no fewer
pub digits-longer : (f m n : ℕ) → m ≤ n → length (digits_of f m) ≤ length (digits_of f n)
unfolding digits_of
digits-longer zero m n h = omega arith
digits-longer (suc f) m n h =
    cases (λ os. length os ≤ length (digits_of (suc f) n)) f m
    (λ less. some_digit f n)
    (λ more. cases (λ os. length (digits_of f (m / 10) ++ ((48 + m % 10) ∷ [])) ≤ length os) f n
    (λ fewer. absurd (omega arith))
    (λ most. omega (arith, length-append (digits_of f (m / 10)) ((48 + m % 10) ∷ []), length-append (digits_of f (n / 10)) ((48 + n % 10) ∷ []), digits-longer f (m / 10) (n / 10) (omega arith))))

-- the same for a number in decimal
pub decimal_most : (n : ℕ) → length (decimal n) ≤ 20
unfolding decimal
decimal_most n = digits_most 20 n

pub decimal-longer : (m n : ℕ) → m ≤ n → length (decimal m) ≤ length (decimal n)
unfolding decimal
decimal-longer m n h = digits-longer 20 m n h

pub decimal_under : (k n : ℕ) → n < 10 ^ suc k → length (decimal n) ≤ suc k
unfolding decimal
decimal_under k n h = digits_under 20 k n h

-- a sign is one octet more
pub signed_under : (k : ℕ) (z : ℤ) → nat_abs z < 10 ^ suc k → length (signed_decimal z) ≤ suc (suc k)
unfolding signed_decimal
signed_under k (pos n) h = omega (arith, decimal_under k n h)
signed_under k (negsuc n) h = omega (arith, decimal_under k (suc n) h)

-- ten digits and a sign, for every number of 32 bits
pub signed_most : (z : ℤ) → T (in_signed (2 ^ 32) z) → length (signed_decimal z) ≤ 11
unfolding in_signed
signed_most (pos n) t = signed_under 9 (pos n) (omega (arith, ltb→lt (n + n) (2 ^ 32) t))
signed_most (negsuc n) t = signed_under 9 (negsuc n) (omega (arith, ltb→lt (suc (n + n)) (2 ^ 32) t))
