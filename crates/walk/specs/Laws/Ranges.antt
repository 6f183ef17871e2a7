-- The numbers of a piece are those of a range; one law for each way through the code that asks for it.
use Rattle.std.specs.Prelude.{◌≡◌, refl, Bool, Option, Some, None, unwrap_or, option_and_then, List, ℕ, zero, suc, ◌+◌, ◌-◌, ◌*◌, ◌^◌, ◌/◌, ◌≤◌, T, ltb, leb, ℤ, pos, negsuc}
use Rattle.std.proofs.Common.{sym, ◌∙◌, subst, zero-le, pow-suc, arith, ltb→lt, lt→ltb, leb→le, le→leb, pow_pos}
use Rattle.std.proofs.Math.Path.{ap}
use Rattle.std.proofs.Math.Bool.{true, false}
use Rattle.std.specs.Int.Signed.{le_z}
use Rattle.codec.specs.Pick.{pick}
use Rattle.codec.specs.Signed.{in_signed}
use Rattle.codec.specs.Line.{Kind, plain, signed, limited, in_num, limit}
use Rattle.codec.proofs.Laws.Tests.{and_in, and_l, and_r}
use Rattle.longest.proofs.Laws.Ranges.{lowest, highest}
use Rattle.std.specs.Bool.{then_some}
use Rattle.words.specs.Numbers.{is_signed, signed_value, signed_in, within_32, whole_in}
use Rattle.words.specs.Laws.Numbers.{whole_told}
use Rattle.guess.specs.Guess.{value_in, fits_piece, piece_in}
use Rattle.guess.proofs.Laws.Numbers.{small}
use Rattle.walk.specs.Ranges.{ends_right, between, ranged_in}

same_test : (a b : Bool) → (T a → T b) → (T b → T a) → a ≡ b
same_test true true f g = refl
same_test true false f g = absurd (f tt)
same_test false true f g = absurd (g tt)
same_test false false f g = refl

pub twice : (w : ℕ) → 1 ≤ w → 2 ^ w ≡ 2 * 2 ^ (w - 1)
twice zero h = absurd (omega arith)
twice (suc w) h = let e : suc w - 1 ≡ w = omega arith in pow-suc 2 w ∙ ap (λ m. 2 ^ w * 2) e ∙ sym (ap (λ m. 2 * 2 ^ m) e ∙ omega arith)

fits_in : (k : Kind) (w : ℕ) (z : ℤ) → T (fits_piece k w z) → T (between (lowest k w) (highest k w) z)
unfolding fits_piece between lowest highest in_num in_signed limit
fits_in plain w (pos n) f = and_in (leb 0 n) _ (le→leb 0 n zero-le) (le→leb n _ (omega (arith, ltb→lt n (2 ^ w) (and_l (ltb n (2 ^ w)) _ f))))
fits_in plain w (negsuc n) f = absurd f
fits_in signed w (pos n) f = le→leb n _ (omega (arith, ltb→lt (n + n) (2 ^ w) (and_l (ltb (n + n) (2 ^ w)) _ f)))
fits_in signed w (negsuc n) f = and_in (leb n ((2 ^ w - 1) / 2)) true (le→leb n _ (omega (arith, ltb→lt (suc (n + n)) (2 ^ w) (and_l (ltb (suc (n + n)) (2 ^ w)) _ f)))) tt
fits_in (limited lo hi) w z f = and_r (in_signed (2 ^ w) z) _ f

in_fits : (k : Kind) (w : ℕ) → T (ends_right k w) → (z : ℤ) → T (between (lowest k w) (highest k w) z) → T (fits_piece k w z)
unfolding fits_piece between lowest highest in_num in_signed limit ends_right
in_fits plain w e (pos n) b = let p : n ≤ 2 ^ w - 1 = leb→le n (2 ^ w - 1) (and_r (leb 0 n) _ b) in and_in (ltb n (2 ^ w)) true (lt→ltb n (2 ^ w) (omega (arith, p, pow_pos w))) tt
in_fits plain w e (negsuc n) b = absurd b
in_fits signed w e (pos n) b =
    let p : n ≤ (2 ^ w - 1) / 2 = leb→le n ((2 ^ w - 1) / 2) b in
    and_in (ltb (n + n) (2 ^ w)) true (lt→ltb (n + n) (2 ^ w) (omega (arith, p, pow_pos w))) tt
in_fits signed w e (negsuc n) b =
    let p : n ≤ (2 ^ w - 1) / 2 = leb→le n ((2 ^ w - 1) / 2) (and_l (leb n ((2 ^ w - 1) / 2)) true b) in
    and_in (ltb (suc (n + n)) (2 ^ w)) true (lt→ltb (suc (n + n)) (2 ^ w) (omega (arith, p, pow_pos w, twice w (leb→le 1 w e)))) tt
in_fits (limited lo hi) w e z b = and_in (in_signed (2 ^ w) z) _ (go lo hi z (and_l (in_signed (2 ^ w) lo) _ e) (and_r (in_signed (2 ^ w) lo) _ e) (and_l (le_z lo z) _ b) (and_r (le_z lo z) _ b)) b
  where
    go : (lo hi z : ℤ) → T (in_signed (2 ^ w) lo) → T (in_signed (2 ^ w) hi) → T (le_z lo z) → T (le_z z hi) → T (in_signed (2 ^ w) z)
    go lo (pos m) (pos n) a c x y = lt→ltb (n + n) (2 ^ w) (omega (arith, ltb→lt (m + m) (2 ^ w) c, leb→le n m y))
    go lo (negsuc m) (pos n) a c x y = absurd y
    go (pos m) hi (negsuc n) a c x y = absurd x
    go (negsuc m) hi (negsuc n) a c x y = lt→ltb (suc (n + n)) (2 ^ w) (omega (arith, ltb→lt (suc (m + m)) (2 ^ w) a, leb→le n m x))

fits_between : (k : Kind) (w : ℕ) → T (ends_right k w) → (z : ℤ) → fits_piece k w z ≡ between (lowest k w) (highest k w) z
fits_between k w e z = same_test (fits_piece k w z) (between (lowest k w) (highest k w) z) (fits_in k w z) (in_fits k w e z)

pub ranged_told : (lo hi : ℤ) (t : List ℕ) → unwrap_or (option_and_then (λ z. then_some (between lo hi z) z) (within_32 (signed_in (value_in t)))) (pos 0) ≡ ranged_in lo hi t
unfolding ranged_in
ranged_told lo hi t = by_answer (within_32 (signed_in (value_in t))) ∙ ap (λ z. pick (between lo hi z) z (pos 0)) (whole_told (value_in t))
  where
    either : (b : Bool) (z : ℤ) → unwrap_or (then_some b z) (pos 0) ≡ pick b z (pos 0)
    either true z = refl
    either false z = refl

    none : (b : Bool) → pos 0 ≡ pick b (pos 0) (pos 0)
    none true = refl
    none false = refl

    by_answer : (o : Option ℤ) → unwrap_or (option_and_then (λ z. then_some (between lo hi z) z) o) (pos 0) ≡ pick (between lo hi (unwrap_or o (pos 0))) (unwrap_or o (pos 0)) (pos 0)
    by_answer None = none (between lo hi (pos 0))
    by_answer (Some z) = either (between lo hi z) z

abbrev fitting : Kind → ℕ → ℤ → ℤ
fitting k w z = pick (fits_piece k w z) z (pos 0)

abbrev within : ℤ → ℤ → ℤ → ℤ
within lo hi z = pick (between lo hi z) z (pos 0)

-- a word that writes no number is no number of a piece, and 0 is taken
pub piece_ranged : (k : Kind) (w : ℕ) → w ≤ 24 → T (ends_right k w) → (t : List ℕ) → piece_in k w t ≡ ranged_in (lowest k w) (highest k w) t
unfolding piece_in ranged_in signed_in whole_in
piece_ranged k w na e t = go (is_signed (value_in t))
  where
    zero_either : (b : Bool) → pick b (pos 0) (pos 0) ≡ pos 0
    zero_either true = refl
    zero_either false = refl

    none : (b : Bool) → fits_piece k w (pos 2_147_483_648) ≡ b → pick b (pos 2_147_483_648) (pos 0) ≡ pos 0
    none true f = absurd (omega (arith, small k w (pos 2_147_483_648) na (subst T (sym f) tt)))
    none false f = refl

    go : (b : Bool) → fitting k w (pick b (signed_value (value_in t)) (pos 2_147_483_648)) ≡ within (lowest k w) (highest k w) (pick b (signed_value (value_in t)) (pos 0))
    go true = ap (λ b. pick b (signed_value (value_in t)) (pos 0)) (fits_between k w e (signed_value (value_in t)))
    go false = none (fits_piece k w (pos 2_147_483_648)) refl ∙ sym (zero_either (between (lowest k w) (highest k w) (pos 0)))
