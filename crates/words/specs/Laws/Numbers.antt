-- The number that a word writes. A number is a plain decimal, as `decimal` and `signed_decimal` (01, 'The sheet') write it: digits only, no 0 in front but of 0 itself,
-- and a `-` only before a number below 0. So a number is written by one word, and a word writes at most one number.
use Rattle.std.specs.Prelude.{◌≡◌, Bool, false, not, Option, Some, None, is_some, unwrap_or, MatchOption, Result, Ok, Err, ◌&&◌, List, [], ◌∷◌, ℕ, zero, suc, ◌+◌, ◌-◌, ◌*◌, ◌≤◌, ◌<◌, ltb, leb, eqb, ℤ, pos, negsuc, length, get_or, drop}
use Rattle.std.proofs.Math.Path.{refl, sym}
use Rattle.std.proofs.Common.{ap, ◌∙◌, add-one, arith}
use Rattle.std.proofs.Math.Bool.{true}
use borrow.Author.Tests.{eq-eqb, ne_eqb, le-leb, lt-leb, lt-ltb, le-ltb, ltb-true, ltb-false, leb-true, leb-false}
use Rattle.std.proofs.Math.Dec.{leb-suc-suc}
use Rattle.std.specs.Int.Signed.{mag, lt_z}
use Rattle.std.proofs.Math.Seq.{drop-cons}
use Rattle.std.specs.Char.{is_ascii_digit}
use Rattle.std.specs.Result.{OkIff, result_ok}
use mir.Syntax.{w32}
use mir.Val.{SFits, to_z}
use mir.Facts.{to_z_pos}
use Rattle.std.specs.Bool.{then_some}
use Rattle.codec.specs.Pick.{pick}
use Rattle.text.specs.Decimals.{value_from, value_of, is_digit}
use Rattle.text.specs.Laws.Decimals.{are_digits}
use Rattle.words.specs.Numbers.{leads, goes_on, is_number, number_in, at_most, within_32, is_signed, signed_value, signed_in, below, value_in, whole_in}

-- ---- the ways through `number`: the answer from here on, v being what the digits passed say

unfoldable pub from_here : ℕ → ℕ → List ℕ → ℕ
unfolding goes_on
from_here limit v w = pick (goes_on limit v w) (value_from v w) (limit + 1)

-- a number only grows
grows : (v : ℕ) (w : List ℕ) → v ≤ value_from v w
unfolding value_from
grows v [] = omega arith
grows v (o ∷ w) = omega (arith, grows (v * 10 + (o - 48)) w)

-- so it never comes back below a limit that it passed
neither : (b : Bool) (x y : ℕ) → pick (b && false) x y ≡ y
neither true x y = refl
neither false x y = refl

too_large : (limit v : ℕ) (w : List ℕ) → limit < v → from_here limit v w ≡ limit + 1
unfolding from_here goes_on
too_large limit v w h = rw (lt-leb (value_from v w) limit (omega (arith, grows v w))) (neither (are_digits w) (value_from v w) (limit + 1))

pub here_end : (limit v : ℕ) (w : List ℕ) (i : ℕ) → length w ≤ i → v ≤ limit → from_here limit v (drop i w) ≡ v
unfolding from_here goes_on are_digits value_from
here_end limit v [] zero h k = rw (le-leb v limit k) refl
here_end limit v [] (suc i) h k = rw (le-leb v limit k) refl
here_end limit v (x ∷ w) zero h k = absurd (omega arith)
here_end limit v (x ∷ w) (suc i) h k = here_end limit v w i (omega arith) k

-- the digits are those of std
digit_is : (o : ℕ) → is_ascii_digit o ≡ is_digit o
unfolding is_digit
digit_is o = ap (λ b. leb 48 o && b) (sym (leb-suc-suc o 57))

module _ (limit v : ℕ) (w : List ℕ) (i : ℕ) (h : i < length w) where
  pub here_other : is_digit (get_or w i 0) ≡ false → from_here limit v (drop i w) ≡ limit + 1
  unfolding from_here goes_on are_digits
  here_other e = rw (drop-cons w i 0 h, e) refl

  pub here_more : is_digit (get_or w i 0) ≡ true → from_here limit v (drop i w) ≡ from_here limit (v * 10 + (get_or w i 0 - 48)) (drop (i + 1) w)
  unfolding from_here goes_on are_digits value_from
  here_more e = rw (add-one i, drop-cons w i 0 h, e) refl

-- ---- the ways out of `number`

-- as code gives it
pub is_past : (limit n : ℕ) → n ≡ limit + 1 → None ≡ at_most limit n
is_past limit n e = rw (e, lt-leb (limit + 1) limit (omega arith)) refl

is_here : (limit n v : ℕ) → n ≡ v → v ≤ limit → Some v ≡ at_most limit n
is_here limit n v e h = rw (e, le-leb v limit h) refl

pub not_leading : (limit : ℕ) (w : List ℕ) → leads w ≡ false → number_in limit w ≡ limit + 1
unfolding number_in is_number
not_leading limit w e = rw e refl

-- as code gives it
pub not_number : (limit : ℕ) (w : List ℕ) → leads w ≡ false → None ≡ at_most limit (number_in limit w)
not_number limit w e = is_past limit (number_in limit w) (not_leading limit w e)

pub leading : (limit : ℕ) (w : List ℕ) → leads w ≡ true → number_in limit w ≡ from_here limit 0 w
unfolding number_in is_number from_here value_of
leading limit w e = rw e refl

-- at a place that the loop reaches
module _ (limit v : ℕ) (w : List ℕ) (i : ℕ) (so_far : number_in limit w ≡ from_here limit v (drop i w)) where
  pub no_digit : i < length w → is_ascii_digit (get_or w i 0) ≡ false → None ≡ at_most limit (number_in limit w)
  no_digit h e = is_past limit (number_in limit w) (so_far ∙ here_other limit v w i h (sym (digit_is (get_or w i 0)) ∙ e))

  pub digit_more : i < length w → is_ascii_digit (get_or w i 0) ≡ true → number_in limit w ≡ from_here limit (v * 10 + (get_or w i 0 - 48)) (drop (i + 1) w)
  digit_more h e = so_far ∙ here_more limit v w i h (sym (digit_is (get_or w i 0)) ∙ e)

  pub digit_over : i < length w → is_ascii_digit (get_or w i 0) ≡ true → limit < v * 10 + (get_or w i 0 - 48) → None ≡ at_most limit (number_in limit w)
  digit_over h e k = is_past limit (number_in limit w) (digit_more h e ∙ too_large limit (v * 10 + (get_or w i 0 - 48)) (drop (i + 1) w) k)

  pub digits_end : length w ≤ i → v ≤ limit → Some v ≡ at_most limit (number_in limit w)
  digits_end h k = is_here limit (number_in limit w) v (so_far ∙ here_end limit v w i h k) k

-- ---- of `leads_well`

pub leads_none : (w : List ℕ) → length w ≡ 0 → leads w ≡ false
unfolding leads
leads_none [] e = refl
leads_none (x ∷ w) e = absurd (omega arith)

pub leads_one : (w : List ℕ) → length w ≡ 1 → leads w ≡ true
unfolding leads
leads_one w e = rw (eq-eqb (length w) 1 e) (either (eqb (get_or w 0 48) 48))
  where
    either : (b : Bool) → pick b true true ≡ true
    either true = refl
    either false = refl

-- the first octet, by another default
first_octet : (w : List ℕ) → 0 < length w → get_or w 0 48 ≡ get_or w 0 0
first_octet [] h = absurd (omega arith)
first_octet (x ∷ w) h = refl

pub leads_several : (w : List ℕ) → 0 < length w → (length w ≡ 1 → ⊥) → not (eqb (get_or w 0 0) 48) ≡ leads w
unfolding leads
leads_several w h one = rw (first_octet w h, ne_eqb (length w) 1 one) (turned (eqb (get_or w 0 0) 48))
  where
    turned : (b : Bool) → not b ≡ pick b false true
    turned true = refl
    turned false = refl

-- a digit is at least 0
pub digit_least : (o : ℕ) → is_digit o ≡ true → 48 ≤ o
unfolding is_digit
digit_least o e = by_test (ltb 47 o) refl e
  where
    by_test : (b : Bool) → ltb 47 o ≡ b → b && ltb o 58 ≡ true → 48 ≤ o
    by_test true t u = omega (arith, ltb-true 47 o t)
    by_test false t u = let z : ◌≡◌ {A = ℕ} 0 1 = cc in absurd (omega arith)

-- ---- the ways out of `below` and `signed`

pub below_none : (m : ℕ) → m ≡ 0 → pos 2_147_483_648 ≡ below m
unfolding below
below_none m e = rw (eq-eqb m 0 e) refl

-- as code gives it
pub not_below : (m : ℕ) → m ≡ 0 → None ≡ within_32 (below m)
not_below m e = ap within_32 (below_none m e)

pub below_more : (m : ℕ) → (m ≡ 0 → ⊥) → 2_147_483_648 < m → pos 2_147_483_648 ≡ below m
unfolding below
below_more m e h = rw (ne_eqb m 0 e, lt-ltb 2_147_483_648 m h) refl

pub below_some : (m : ℕ) → (m ≡ 0 → ⊥) → m ≤ 2_147_483_648 → negsuc (m - 1) ≡ below m
unfolding below
below_some m e h = rw (ne_eqb m 0 e, le-ltb 2_147_483_648 m h) refl

-- what a conversion to 32 bits says of a number below 0
pub below_told : {E : Type 0} (m : ℕ) → (m ≡ 0 → ⊥) → (r : Result ℤ E) → OkIff r (SFits w32 (negsuc (m - 1))) (negsuc (m - 1)) → result_ok r ≡ within_32 (below m)
below_told m e (Ok z) (fits, is) = rw (sym (below_some m e (omega (arith, fits.sfits))), is) refl
below_told m e (Err d) none = by_size (ltb 2_147_483_648 m) refl
  where
    by_size : (b : Bool) → ltb 2_147_483_648 m ≡ b → ◌≡◌ {A = Option ℤ} None (within_32 (below m))
    by_size true t = ap within_32 (below_more m e (ltb-true 2_147_483_648 m t))
    by_size false t = absurd (none (record { sfits = omega (arith, ltb-false 2_147_483_648 m t) }))

-- two tests that hold together
both : (a b : Bool) → a && b ≡ true → (a ≡ true) × (b ≡ true)
both true b e = (refl, e)
both false b e = let z : ◌≡◌ {A = ℕ} 0 1 = cc in absurd (omega arith)

pub number_most : (limit : ℕ) (w : List ℕ) → is_number limit w ≡ true → value_of w ≤ limit
unfolding is_number goes_on value_of
number_most limit w e = leb-true (value_of w) limit (both (are_digits w) _ (both (leads w) _ e).1).1

pub signed_below : (w : List ℕ) → get_or w 0 0 ≡ 45 → below (number_in 2_147_483_648 (drop 1 w)) ≡ signed_in w
unfolding signed_in is_signed signed_value number_in below
signed_below w e = rw (eq-eqb (get_or w 0 0) 45 e) (by_form (is_number 2_147_483_648 (drop 1 w)) refl)
  where
    by_zero : (v : ℕ) → v ≤ 2_147_483_648 → below v ≡ pick (true && leb 1 v) (negsuc (v - 1)) (pos 2_147_483_648)
    by_zero zero h = refl
    by_zero (suc v) h = rw (le-leb 1 (suc v) (omega arith)) (sym (below_some (suc v) (λ z. omega arith) h))

    by_form : (b : Bool) → is_number 2_147_483_648 (drop 1 w) ≡ b
        → below (pick b (value_of (drop 1 w)) (2_147_483_648 + 1)) ≡ pick (b && leb 1 (value_of (drop 1 w))) (negsuc (value_of (drop 1 w) - 1)) (pos 2_147_483_648)
    by_form true t = by_zero (value_of (drop 1 w)) (number_most 2_147_483_648 (drop 1 w) t)
    by_form false t = refl

pub signed_above : (w : List ℕ) → (get_or w 0 0 ≡ 45 → ⊥) → pos (number_in 2_147_483_647 w) ≡ signed_in w
unfolding signed_in is_signed signed_value number_in
signed_above w e = rw (ne_eqb (get_or w 0 0) 45 e) (outside (is_number 2_147_483_647 w))
  where
    outside : (b : Bool) → pos (pick b (value_of w) (2_147_483_647 + 1)) ≡ pick b (pos (value_of w)) (pos 2_147_483_648)
    outside true = refl
    outside false = refl

-- what an answer of `number` says of the number
past_is : (limit n : ℕ) → at_most limit n ≡ None → limit < n
past_is limit n e = by_size (leb n limit) refl e
  where
    by_size : (b : Bool) → leb n limit ≡ b → then_some b n ≡ None → limit < n
    by_size true t u = cc
    by_size false t u = omega (arith, leb-false n limit t)

here_is : (limit n v : ℕ) → at_most limit n ≡ Some v → (n ≡ v) × (n ≤ limit)
here_is limit n v e = by_size (leb n limit) refl e
  where
    by_size : (b : Bool) → leb n limit ≡ b → then_some b n ≡ Some v → (n ≡ v) × (n ≤ limit)
    by_size true t u = (cc, leb-true n limit t)
    by_size false t u = cc

-- the digits behind a `-`
module _ (w digits : List ℕ) (minus : w ≡ 45 ∷ digits) where
  below_digits : within_32 (signed_in w) ≡ within_32 (below (number_in 2_147_483_648 digits))
  below_digits = rw minus (ap within_32 (sym (signed_below (45 ∷ digits) refl)))

  pub minus_none : None ≡ at_most 2_147_483_648 (number_in 2_147_483_648 digits) → None ≡ within_32 (signed_in w)
  minus_none e = let k : 2_147_483_648 < number_in 2_147_483_648 digits = past_is _ _ (sym e) in ap within_32 (below_more _ (λ z. omega arith) k) ∙ sym below_digits

  pub minus_some : {m : ℕ} → Some m ≡ at_most 2_147_483_648 (number_in 2_147_483_648 digits) → within_32 (below m) ≡ within_32 (signed_in w)
  minus_some e = ap (λ k. within_32 (below k)) (sym (here_is _ _ _ (sym e)).0) ∙ sym below_digits

-- no `-` in front
module _ (w : List ℕ) (plain : (digits : List ℕ) → w ≡ 45 ∷ digits → ⊥) where
  no_minus : get_or w 0 0 ≡ 45 → ⊥
  no_minus e = by_word w plain e
    where
      by_word : (w : List ℕ) → ((digits : List ℕ) → w ≡ 45 ∷ digits → ⊥) → get_or w 0 0 ≡ 45 → ⊥
      by_word [] p e = omega arith
      by_word (o ∷ os) p e = p os (ap (◌∷ os) e)

  pub plain_none : None ≡ at_most 2_147_483_647 (number_in 2_147_483_647 w) → None ≡ within_32 (signed_in w)
  plain_none e = rw (sym (signed_above w no_minus), lt-ltb 2_147_483_647 (number_in 2_147_483_647 w) (past_is _ _ (sym e))) refl

  pub plain_some : {n : ℕ} → Some n ≡ at_most 2_147_483_647 (number_in 2_147_483_647 w) → Some (to_z w32 n) ≡ within_32 (signed_in w)
  plain_some {n} e =
      let k = here_is _ _ _ (sym e) in
      rw (sym (signed_above w no_minus), k.0, le-ltb 2_147_483_647 n (omega (arith, k.0, k.1))) (ap Some (to_z_pos w32 (omega (arith, k.0, k.1))))

-- no word has more than one more than the limit
pub number_within : (limit : ℕ) (w : List ℕ) → number_in limit w ≤ limit + 1
unfolding number_in
number_within limit w = by_form (is_number limit w) refl
  where
    by_form : (b : Bool) → is_number limit w ≡ b → pick b (value_of w) (limit + 1) ≤ limit + 1
    by_form true t = omega (arith, number_most limit w t)
    by_form false t = omega arith

-- ---- what the answer of `number` says

-- one that is not past the limit is the number
pub number_fits : (limit : ℕ) (w : List ℕ) → ltb (number_in limit w) (limit + 1) ≡ is_number limit w
unfolding number_in
number_fits limit w = by_form (is_number limit w) refl
  where
    by_form : (b : Bool) → is_number limit w ≡ b → ltb (pick b (value_of w) (limit + 1)) (limit + 1) ≡ b
    by_form true t = lt-ltb (value_of w) (limit + 1) (omega (arith, number_most limit w t))
    by_form false t = le-ltb (limit + 1) (limit + 1) (omega arith)

pub number_here : (limit : ℕ) (w : List ℕ) → is_number limit w ≡ true → at_most limit (number_in limit w) ≡ Some (value_of w)
unfolding number_in
number_here limit w e = rw (e, le-leb (value_of w) limit (number_most limit w e)) refl

pub number_past : (limit : ℕ) (w : List ℕ) → is_number limit w ≡ false → at_most limit (number_in limit w) ≡ None
unfolding number_in
number_past limit w e = rw (e, lt-leb (limit + 1) limit (omega arith)) refl

pub number_some : (limit : ℕ) (w : List ℕ) → is_some (at_most limit (number_in limit w)) ≡ is_number limit w
number_some limit w = by_form (is_number limit w) refl
  where
    by_form : (b : Bool) → is_number limit w ≡ b → is_some (at_most limit (number_in limit w)) ≡ b
    by_form true t = rw (number_here limit w t) refl
    by_form false t = rw (number_past limit w t) refl

pub number_value : (limit : ℕ) (w : List ℕ) → is_number limit w ≡ true → number_in limit w ≡ value_of w
unfolding number_in
number_value limit w e = rw e refl

-- nothing is lost: the number, or one more than the limit, is got back from the answer
pub number_told : (limit : ℕ) (w : List ℕ) → unwrap_or (at_most limit (number_in limit w)) (limit + 1) ≡ number_in limit w
unfolding number_in
number_told limit w = by_form (is_number limit w) refl
  where
    by_form : (b : Bool) → is_number limit w ≡ b → unwrap_or (at_most limit (pick b (value_of w) (limit + 1))) (limit + 1) ≡ pick b (value_of w) (limit + 1)
    by_form true t = rw (le-leb (value_of w) limit (number_most limit w t)) refl
    by_form false t = rw (lt-leb (limit + 1) limit (omega arith)) refl

-- a signed number of 32 bits is not past the highest
pub signed_value_lem : (w : List ℕ) → is_signed w ≡ true → signed_in w ≡ signed_value w
unfolding signed_in
signed_value_lem w e = rw e refl

-- a signed number lies between the ends of 32 bits
signed_size : (w : List ℕ) → is_signed w ≡ true → (mag (signed_value w) < 2_147_483_648) × (lt_z (pos 2_147_483_647) (signed_value w) ≡ false)
unfolding is_signed signed_value
signed_size w e = by_sign (eqb (get_or w 0 0) 45) e
  where
    by_sign : (b : Bool) → pick b (is_number 2_147_483_648 (drop 1 w) && leb 1 (value_of (drop 1 w))) (is_number 2_147_483_647 w) ≡ true
        → (mag (pick b (negsuc (value_of (drop 1 w) - 1)) (pos (value_of w))) < 2_147_483_648) × (lt_z (pos 2_147_483_647) (pick b (negsuc (value_of (drop 1 w) - 1)) (pos (value_of w))) ≡ false)
    by_sign true t =
        let p : (is_number 2_147_483_648 (drop 1 w) ≡ true) × (leb 1 (value_of (drop 1 w)) ≡ true) = both (is_number 2_147_483_648 (drop 1 w)) _ t in
        (omega (arith, number_most 2_147_483_648 (drop 1 w) p.0, leb-true 1 (value_of (drop 1 w)) p.1), refl)
    by_sign false t =
        let h : value_of w ≤ 2_147_483_647 = number_most 2_147_483_647 w t in
        (omega arith, le-ltb 2_147_483_647 (value_of w) h)

-- one that is not past the highest number is the number
pub signed_fits : (w : List ℕ) → lt_z (pos 2_147_483_647) (signed_in w) ≡ not (is_signed w)
unfolding signed_in
signed_fits w = by_form (is_signed w) refl
  where
    by_form : (b : Bool) → is_signed w ≡ b → lt_z (pos 2_147_483_647) (pick b (signed_value w) (pos 2_147_483_648)) ≡ not b
    by_form true t = (signed_size w t).1
    by_form false t = refl

pub signed_small : (w : List ℕ) → is_signed w ≡ true → mag (signed_in w) < 2_147_483_648
signed_small w e = rw (signed_value_lem w e) (signed_size w e).0

-- and what the answer of `signed` says
pub signed_some : (w : List ℕ) → is_some (within_32 (signed_in w)) ≡ is_signed w
unfolding signed_in
signed_some w = by_form (is_signed w) refl
  where
    by_form : (b : Bool) → is_signed w ≡ b → is_some (within_32 (pick b (signed_value w) (pos 2_147_483_648))) ≡ b
    by_form true t = rw (signed_size w t).1 refl
    by_form false t = refl

-- nothing is lost here either
pub signed_told : (w : List ℕ) → unwrap_or (within_32 (signed_in w)) (pos 2_147_483_648) ≡ signed_in w
unfolding signed_in
signed_told w = by_form (is_signed w) refl
  where
    by_form : (b : Bool) → is_signed w ≡ b → unwrap_or (within_32 (pick b (signed_value w) (pos 2_147_483_648))) (pos 2_147_483_648) ≡ pick b (signed_value w) (pos 2_147_483_648)
    by_form true t = rw (signed_size w t).1 refl
    by_form false t = refl

-- ---- the value of a word, 0 where there is none

pub value_told : (limit : ℕ) (w : List ℕ) → unwrap_or (at_most limit (number_in limit w)) 0 ≡ value_in limit w
unfolding value_in
value_told limit w = by_form (is_number limit w) refl
  where
    by_form : (b : Bool) → is_number limit w ≡ b → unwrap_or (at_most limit (number_in limit w)) 0 ≡ pick b (value_of w) 0
    by_form true t = rw (number_here limit w t) refl
    by_form false t = rw (number_past limit w t) refl

-- by what a closure, if there is a number, makes of it
pub value_by : {Q : ℕ → Type 0} (limit : ℕ) (w : List ℕ) (o : Option ℕ) (r : ℕ) → o ≡ at_most limit (number_in limit w) → MatchOption o (r ≡ 0) Q → ((n : ℕ) → n ≤ limit → Q n → r ≡ n) → r ≡ value_in limit w
value_by limit w None r e q f = q ∙ ap (λ o. unwrap_or o 0) e ∙ value_told limit w
value_by limit w (Some n) r e q f = f n (omega (arith, (here_is limit _ n (sym e)).0, (here_is limit _ n (sym e)).1)) q ∙ ap (λ o. unwrap_or o 0) e ∙ value_told limit w

pub value_most : (limit : ℕ) (w : List ℕ) → value_in limit w ≤ limit
unfolding value_in
value_most limit w = by_form (is_number limit w) refl
  where
    by_form : (b : Bool) → is_number limit w ≡ b → pick b (value_of w) 0 ≤ limit
    by_form true t = number_most limit w t
    by_form false t = omega arith

pub whole_told : (w : List ℕ) → unwrap_or (within_32 (signed_in w)) (pos 0) ≡ whole_in w
unfolding whole_in signed_in
whole_told w = by_form (is_signed w) refl
  where
    by_form : (b : Bool) → is_signed w ≡ b → unwrap_or (within_32 (pick b (signed_value w) (pos 2_147_483_648))) (pos 0) ≡ pick b (signed_value w) (pos 0)
    by_form true t = rw (signed_size w t).1 refl
    by_form false t = refl
