-- `angle::exact` meets its contract: what it makes of an `i32` fits 64 bits at each step, so each step is the integer's own. Assumes nothing.
use borrow.Author.Rules.{sfits_of}
use borrow.Author.Tests.{le-ltb}
use native.Mathlib.Nat.{le_trans, mul-le-mul, div-le_self}
use native.Mathlib.Omega.{arith}
use mathlib.Core.Path.{◌≡◌, ◌∙◌, refl, sym, ap, subst}
use mathlib.Core.Bool.{Bool, true, false, cond}
use Prim.Native.Nat.{ℕ, zero, suc, ◌+◌, ◌-◌, ◌*◌, ◌/◌, ◌≤◌}
use lib.Dec.{T, ltb, leb, leb→le}
use lib.IntN.{ℤ, pos, negsuc, neg_ℤ, ◌+ℤ◌, ◌-ℤ◌, ◌*ℤ◌}
use lib.Signed.{mag, lt_z, quot_z}
use mir.Syntax.{w32, w64}
use mir.Val.{SFits, to_z, of_z}
use mir.Facts.{to_z-of_z}
use Rattle.scope.specs.Angle.{rounded, udeg_of, left_of}
use Rattle.scope.proofs.Laws.Angle.{negated_times}
use Rattle.angle.specs.Half.{half_of}
use Rattle.angle.proofs.exact.Goals as goal

negated_size : (n : ℕ) → mag (neg_ℤ (pos n)) ≤ n
negated_size zero = omega arith
negated_size (suc n) = omega arith

product_size : (x : ℤ) (k : ℕ) → mag (x *ℤ pos k) ≤ suc (mag x) * k
product_size (pos n) k = omega arith
product_size (negsuc n) k = negated_size (suc n * k)

product_small : (x : ℤ) (k : ℕ) → SFits w32 x → T (leb k 1_000_000) → mag (x *ℤ pos k) ≤ 3_000_000_000_000_000
product_small x k f h =
    let g : suc (mag x) ≤ 2_147_483_648 = f.sfits in
    let m : suc (mag x) * k ≤ 2_147_483_648 * 1_000_000 = mul-le-mul g (leb→le k 1_000_000 h) in
    omega (arith, product_size x k, m)

cond-size : (a b : ℕ) (t : Bool) → mag (cond t (negsuc (b - suc a)) (pos (a - b))) ≤ a + b
cond-size a b true = omega arith
cond-size a b false = omega arith

sum-size : (y z : ℤ) → mag (y +ℤ z) ≤ mag y + mag z + 1
sum-size (pos a) (pos b) = omega arith
sum-size (pos a) (negsuc b) = omega (arith, cond-size a (suc b) (ltb a (suc b)))
sum-size (negsuc a) (pos b) = omega (arith, cond-size b (suc a) (ltb b (suc a)))
sum-size (negsuc a) (negsuc b) = omega arith

difference-size : (y z : ℤ) → mag (y -ℤ z) ≤ mag y + mag z + 2
difference-size y (pos n) = omega (arith, sum-size y (neg_ℤ (pos n)), negated_size n)
difference-size y (negsuc n) = omega (arith, sum-size y (pos (suc n)))

quotient_size : (y : ℤ) → mag (quot_z y (pos 32_768)) ≤ mag y + 1
quotient_size (pos a) = omega (arith, div-le_self a 32_768)
quotient_size (negsuc a) = omega (arith, div-le_self (suc a) 32_768, negated_size (suc a / 32_768))

-- a quotient, times the divisor or less, is not above what was divided
times_size : (a m : ℕ) → m ≤ 32_768 → a / 32_768 * m ≤ a
times_size a m h = let l : a / 32_768 * m ≤ a / 32_768 * 32_768 = mul-le-mul (omega arith) h in le_trans l (omega arith)

back_size : (y : ℤ) (m : ℕ) → m ≤ 32_768 → mag (quot_z y (pos 32_768) *ℤ pos m) ≤ mag y + 1
back_size (pos a) m h = omega (arith, times_size a m h)
back_size (negsuc a) m h = rw (negated_times (suc a / 32_768) m) (omega (arith, negated_size (suc a / 32_768 * m), times_size (suc a) m h))

half_small : (y : ℤ) → mag (half_of y) ≤ 1_000_000
unfolding half_of
half_small y = go (lt_z y (pos 0))
  where
    go : (t : Bool) → mag (cond t (negsuc 16_383) (pos 16_384)) ≤ 1_000_000
    go true = omega arith
    go false = omega arith

-- what the code has of a step's number: 64 bits of it
abbrev kept : ℤ → ℤ
kept z = to_z w64 (of_z w64 z)

module _ (x : ℤ) (k : ℕ) (f : SFits w32 x) (h : T (leb k 1_000_000)) where
  product_below : mag (x *ℤ pos k) ≤ 5_000_000_000_000_000
  product_below = omega (arith, product_small x k f h)

  product_fits : SFits w64 (x *ℤ pos k)
  product_fits = record { sfits = omega (arith, product_below) }

  kept_product_below : mag (kept (x *ℤ pos k)) ≤ 5_000_000_000_000_000
  kept_product_below = rw (to_z-of_z product_fits) product_below

  module _ (z : ℤ) (g : mag z ≤ 1_000_000) where
    sum_small : mag (x *ℤ pos k +ℤ z) ≤ 4_000_000_000_000_000
    sum_small = omega (arith, sum-size (x *ℤ pos k) z, product_small x k f h)

    sum_fits : SFits w64 (x *ℤ pos k +ℤ z)
    sum_fits = record { sfits = omega (arith, sum_small) }

    quotient_fits : SFits w64 (quot_z (x *ℤ pos k +ℤ z) (pos 32_768))
    quotient_fits = record { sfits = omega (arith, quotient_size (x *ℤ pos k +ℤ z), sum_small) }

    module _ (m : ℕ) (l : T (leb m 32_768)) where
      back_small : mag (quot_z (x *ℤ pos k +ℤ z) (pos 32_768) *ℤ pos m) ≤ 5_000_000_000_000_000
      back_small = omega (arith, back_size (x *ℤ pos k +ℤ z) m (leb→le m 32_768 l), sum_small)

      back_fits : SFits w64 (quot_z (x *ℤ pos k +ℤ z) (pos 32_768) *ℤ pos m)
      back_fits = record { sfits = omega (arith, back_small) }

      kept_back_small : mag (kept (kept (quot_z (kept (kept (x *ℤ pos k) +ℤ z)) (pos 32_768)) *ℤ pos m)) ≤ 5_000_000_000_000_000
      kept_back_small = rw (to_z-of_z product_fits, to_z-of_z sum_fits, to_z-of_z quotient_fits, to_z-of_z back_fits) back_small

-- either way round
difference_fits : (y z : ℤ) → mag y ≤ 5_000_000_000_000_000 → mag z ≤ 5_000_000_000_000_000 → SFits w64 (y -ℤ z)
difference_fits y z g h = record { sfits = omega (arith, difference-size y z) }

quotient_is : (x : ℤ) → quot_z (x *ℤ pos 703_125 +ℤ half_of (x *ℤ pos 703_125)) (pos 32_768) ≡ udeg_of x
unfolding udeg_of rounded half_of
quotient_is (pos n) = rw (le-ltb (n * 703_125) 0 (omega arith)) refl
quotient_is (negsuc n) =
    let p : suc n * 703_125 ≡ suc (n * 703_125 + 703_124) = omega arith in
    let q : negsuc n *ℤ pos 703_125 ≡ negsuc (n * 703_125 + 703_124) = ap (λ (k : ℕ). neg_ℤ (pos k)) p in
    let e : suc (suc (n * 703_125 + 703_124 + 16_383)) / 32_768 ≡ rounded (suc n) = omega arith in
    rw q (ap (λ (k : ℕ). neg_ℤ (pos k)) e)

-- each step of the code is the integer's own
module _ (n : ℤ) (f : SFits w32 n) (h : ℤ) (g : mag h ≤ 1_000_000) where
  abbrev product : ℤ
  product = n *ℤ pos 703_125

  abbrev quotient : ℤ
  quotient = quot_z (product +ℤ h) (pos 32_768)

  left_fits : SFits w64 (product -ℤ quotient *ℤ pos 32_768)
  left_fits = difference_fits product (quotient *ℤ pos 32_768) (product_below n 703_125 f tt) (back_small n 703_125 f tt h g 32_768 tt)

  product_is : to_z w64 (of_z w64 product) ≡ product
  product_is = to_z-of_z (product_fits n 703_125 f tt)

  sum_is : to_z w64 (of_z w64 (product +ℤ h)) ≡ product +ℤ h
  sum_is = to_z-of_z (sum_fits n 703_125 f tt h g)

  quotient_is_whole : to_z w64 (of_z w64 quotient) ≡ quotient
  quotient_is_whole = to_z-of_z (quotient_fits n 703_125 f tt h g)

  back_is : to_z w64 (of_z w64 (quotient *ℤ pos 32_768)) ≡ quotient *ℤ pos 32_768
  back_is = to_z-of_z (back_fits n 703_125 f tt h g 32_768 tt)

half_size : {h : ℤ} (y : ℤ) → h ≡ half_of y → mag h ≤ 1_000_000
half_size y e = subst (λ z. mag z ≤ 1_000_000) (sym e) (half_small y)

pub overflow_sub-result : goal.overflow_sub-result
overflow_sub-result c =
    let n_is : to_z w64 (of_z w64 c.from-product.result) ≡ c.args.n = to_z-of_z {w = w64} (sfits_of c.from-product.type_inv) ∙ c.from-product.ensures ∙ to_z-of_z c.ranges.n in
    let half_is : to_z w64 (of_z w64 c.half.result) ≡ c.half.result = to_z-of_z {w = w64} (sfits_of c.half.type_inv) in
    rw (n_is, half_is) (search (difference_fits, kept_product_below, kept_back_small, c.ranges.n, half_size _ c.half.ensures))

pub returns : goal.returns
unfolding left_of
returns c =
    let n_is : to_z w64 (of_z w64 c.from-product.result) ≡ c.args.n = to_z-of_z {w = w64} (sfits_of c.from-product.type_inv) ∙ c.from-product.ensures ∙ to_z-of_z c.ranges.n in
    let half_is : to_z w64 (of_z w64 c.half.result) ≡ c.half.result = to_z-of_z {w = w64} (sfits_of c.half.type_inv) in
    let n = c.args.n in
    let f = c.ranges.n in
    let h = c.half.result in
    let g = half_size _ c.half.ensures in
    rw (n_is, product_is n f h g, half_is, sum_is n f h g, quotient_is_whole n f h g, back_is n f h g, to_z-of_z (left_fits n f h g), c.half.ensures, n_is, product_is n f h g)
    (quotient_is n, ap (λ q. n *ℤ pos 703_125 -ℤ q *ℤ pos 32_768) (quotient_is n))
