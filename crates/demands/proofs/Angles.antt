-- Of every number the defined angle and leftover are what `Angles` of specs/ asks for, and nothing else is.
use Rattle.std.specs.Prelude.{◌≡◌, Bool, cond, ℕ, zero, suc, ◌+◌, ◌-◌, ◌*◌, ◌≤◌, ◌<◌, ltb, ℤ, pos, negsuc, neg_ℤ, nat_abs, ◌+ℤ◌, ◌-ℤ◌, ◌*ℤ◌, ◌≤ℤ◌, ◌<ℤ◌}
use Rattle.std.proofs.Math.Path.{refl}
use Rattle.std.proofs.Common.{sym, ap, ◌∙◌, le_antisymm, ltb→lt, lt→ltb, leb→le}
use Rattle.std.proofs.Math.Bool.{true, false}
use native.Mathlib.Omega.{arith}
use Rattle.std.proofs.Math.IntN.{sub_ℕ, neg_ℤ-neg_ℤ, neg_ℤ-+ℤ, +ℤ_comm, +ℤ-neg_ℤ_cancel, -ℤ-+ℤ_cancel}
use borrow.Author.Tests.{ltb-true, ltb-false}
use Rattle.scope.specs.Angle.{rounded, udeg_of, left_of}
use Rattle.scope.proofs.Laws.Angle.{left_within}
use Rattle.demands.specs.Angles.{distance, Nearest, HalfStep, Exact}

-- ---- distances in ℕ, by the sides of zero

abs_cond : (a b : ℕ) (t : Bool) → ltb a b ≡ t → nat_abs (cond t (negsuc (b - suc a)) (pos (a - b))) ≡ (a - b) + (b - a)
abs_cond a b true e = omega (arith, ltb-true a b e)
abs_cond a b false e = omega (arith, ltb-false a b e)

abs_sub : (a b : ℕ) → nat_abs (sub_ℕ a b) ≡ (a - b) + (b - a)
abs_sub a b = abs_cond a b (ltb a b) refl

above-above : (a b : ℕ) → nat_abs (pos a -ℤ pos b) ≡ (a - b) + (b - a)
above-above a zero = omega arith
above-above a (suc b) = abs_sub a (suc b)

below_below : (a b : ℕ) → nat_abs (neg_ℤ (pos a) -ℤ neg_ℤ (pos b)) ≡ (a - b) + (b - a)
below_below zero zero = refl
below_below zero (suc b) = omega arith
below_below (suc a) zero = abs_sub 0 (suc a) ∙ omega arith
below_below (suc a) (suc b) = abs_sub (suc b) (suc a) ∙ omega arith

below_above : (a b : ℕ) → nat_abs (neg_ℤ (pos a) -ℤ pos b) ≡ a + b
below_above zero zero = refl
below_above zero (suc b) = abs_sub 0 (suc b) ∙ omega arith
below_above (suc a) zero = abs_sub 0 (suc a) ∙ omega arith
below_above (suc a) (suc b) = omega arith

above_below : (a b : ℕ) → nat_abs (pos a -ℤ neg_ℤ (pos b)) ≡ a + b
above_below a zero = omega arith
above_below a (suc b) = refl

-- a distance by the magnitudes: on one side of zero, and across it
abbrev gap : ℕ → ℕ → ℕ
gap n r = (r * 32_768 - n * 703_125) + (n * 703_125 - r * 32_768)

abbrev span : ℕ → ℕ → ℕ
span n r = r * 32_768 + n * 703_125

abbrev by_signs : ℤ → ℤ → ℕ
by_signs (pos n) (pos r) = gap n r
by_signs (negsuc n) (negsuc r) = gap (suc n) (suc r)
by_signs (pos n) (negsuc r) = span n (suc r)
by_signs (negsuc n) (pos r) = span (suc n) r

distance_is : (n r : ℤ) → distance n r ≡ by_signs n r
unfolding distance
distance_is (pos n) (pos r) = above-above (r * 32_768) (n * 703_125)
distance_is (pos n) (negsuc r) = below_above (suc r * 32_768) (n * 703_125)
distance_is (negsuc n) (pos r) = above_below (r * 32_768) (suc n * 703_125)
distance_is (negsuc n) (negsuc r) = below_below (suc r * 32_768) (suc n * 703_125)

-- ---- the angle of the negative is the negative of the angle

pub angle_negated : (n : ℤ) → udeg_of (neg_ℤ n) ≡ neg_ℤ (udeg_of n)
unfolding udeg_of rounded
angle_negated (pos zero) = refl
angle_negated (pos (suc n)) = refl
angle_negated (negsuc n) = sym (neg_ℤ-neg_ℤ (pos (rounded (suc n))))

-- ---- the angle is on its number's side of zero, so only magnitudes count

-- an angle below zero, as a negsuc: no number below zero is so small that it rounds to 0
angle_below : (n : ℕ) → udeg_of (negsuc n) ≡ negsuc (rounded (suc n) - 1)
unfolding udeg_of rounded
angle_below n = let e : rounded (suc n) ≡ suc (rounded (suc n) - 1) = omega arith in ap (λ (k : ℕ). neg_ℤ (pos k)) e

angle_size : (n : ℤ) → nat_abs (udeg_of n) ≡ rounded (nat_abs n)
unfolding udeg_of rounded
angle_size (pos n) = refl
angle_size (negsuc n) = ap nat_abs (angle_below n) ∙ omega arith

angle_distance : (n : ℤ) → distance n (udeg_of n) ≡ gap (nat_abs n) (rounded (nat_abs n))
unfolding udeg_of rounded
angle_distance (pos n) = distance_is (pos n) (pos (rounded n))
angle_distance (negsuc n) = ap (distance (negsuc n)) (angle_below n) ∙ distance_is (negsuc n) (negsuc (rounded (suc n) - 1)) ∙ omega arith

-- ---- the angle is half a step away at most, and nothing else is

pub half_step : (n : ℤ) → HalfStep n (udeg_of n)
unfolding rounded
half_step n = record { half = omega (arith, angle_distance n); away = λ e. omega (arith, angle_distance n, angle_size n, e) }

-- of magnitudes: one that is too small would be half a step away, on the side of zero
module _ (n r : ℕ) {d : ℕ} (e : d ≡ gap n r) (half : 2 * d ≤ 32_768) (away : 2 * d ≡ 32_768 → n * 703_125 ≤ r * 32_768) where
  not_less : (t : Bool) → ltb r (rounded n) ≡ t → rounded n ≤ r
  unfolding rounded
  not_less true l =
      let h : r < rounded n = ltb-true r (rounded n) l in
      let at : 2 * d ≡ 32_768 = omega arith in
      let side : n * 703_125 ≤ r * 32_768 = away at in
      omega arith
  not_less false l = ltb-false r (rounded n) l

  magnitude : r ≡ rounded n
  unfolding rounded
  magnitude = let low : rounded n ≤ r = not_less (ltb r (rounded n)) refl in omega arith

pub one_half_step : (n r : ℤ) → HalfStep n r → r ≡ udeg_of n
unfolding udeg_of
one_half_step (pos n) (pos r) h = ap pos (magnitude n r (distance_is (pos n) (pos r)) h.half h.away)
one_half_step (pos n) (negsuc r) h = absurd (omega (arith, distance_is (pos n) (negsuc r), h.half))
one_half_step (negsuc n) (pos r) h = absurd (omega (arith, distance_is (negsuc n) (pos r), h.half))
one_half_step (negsuc n) (negsuc r) h =
    ap (λ (k : ℕ). neg_ℤ (pos k)) (magnitude (suc n) (suc r) (distance_is (negsuc n) (negsuc r)) h.half h.away)

-- ---- the angle is the nearest, and nothing else is

-- of magnitudes: a smaller one is half a step away or more, and a larger one is more than half a step away
module _ (n q : ℕ) where
  least_by : (t u : Bool) → ltb q (rounded n) ≡ t → ltb (rounded n) q ≡ u → gap n (rounded n) ≤ gap n q
  unfolding rounded
  least_by true u l g = omega (arith, ltb-true q (rounded n) l)
  least_by false true l g = omega (arith, ltb-true (rounded n) q g)
  least_by false false l g = let e : q ≡ rounded n = omega (arith, ltb-false q (rounded n) l, ltb-false (rounded n) q g) in rw e (omega arith)

  least : gap n (rounded n) ≤ gap n q
  least = least_by (ltb q (rounded n)) (ltb (rounded n) q) refl refl

none_nearer : (n q : ℤ) → distance n (udeg_of n) ≤ distance n q
none_nearer (pos n) (pos q) = omega (arith, angle_distance (pos n), distance_is (pos n) (pos q), least n q)
none_nearer (pos n) (negsuc q) = omega (arith, (half_step (pos n)).half, distance_is (pos n) (negsuc q))
none_nearer (negsuc n) (pos q) = omega (arith, (half_step (negsuc n)).half, distance_is (negsuc n) (pos q))
none_nearer (negsuc n) (negsuc q) = omega (arith, angle_distance (negsuc n), distance_is (negsuc n) (negsuc q), least (suc n) (suc q))

none_further : (n q : ℤ) → distance n q ≡ distance n (udeg_of n) → nat_abs q ≤ nat_abs (udeg_of n)
unfolding rounded
none_further (pos n) (pos q) e = omega (arith, e, angle_size (pos n), angle_distance (pos n), distance_is (pos n) (pos q))
none_further (pos n) (negsuc q) e = absurd (omega (arith, e, (half_step (pos n)).half, distance_is (pos n) (negsuc q)))
none_further (negsuc n) (pos q) e = absurd (omega (arith, e, (half_step (negsuc n)).half, distance_is (negsuc n) (pos q)))
none_further (negsuc n) (negsuc q) e = omega (arith, e, angle_size (negsuc n), angle_distance (negsuc n), distance_is (negsuc n) (negsuc q))

pub angle_nearest : (n : ℤ) → Nearest n (udeg_of n)
angle_nearest n = record { near = none_nearer n; away = none_further n }

pub one_nearest : (n r : ℤ) → Nearest n r → r ≡ udeg_of n
one_nearest n r h =
    let e : distance n (udeg_of n) ≡ distance n r = le_antisymm (none_nearer n r) (h.near (udeg_of n)) in
    one_half_step n r (record {
      half = omega (arith, e, (half_step n).half);
      away = λ x. omega (arith, (half_step n).away (omega (arith, e, x)), h.away (udeg_of n) e);
    })

-- ---- the leftover is how far the millionths are, with a sign

-- what is left of a sum
left_is : (n r l : ℤ) → n *ℤ pos 703_125 ≡ r *ℤ pos 32_768 +ℤ l → l ≡ n *ℤ pos 703_125 -ℤ r *ℤ pos 32_768
left_is n r l e = let b = r *ℤ pos 32_768 in sym (ap (λ x. x -ℤ b) (e ∙ +ℤ_comm b l) ∙ +ℤ-neg_ℤ_cancel l b)

abs_negated : (z : ℤ) → nat_abs (neg_ℤ z) ≡ nat_abs z
abs_negated (pos zero) = refl
abs_negated (pos (suc n)) = refl
abs_negated (negsuc n) = refl

left_distance : (n r l : ℤ) → n *ℤ pos 703_125 ≡ r *ℤ pos 32_768 +ℤ l → distance n r ≡ nat_abs l
unfolding distance
left_distance n r l e =
    let a = n *ℤ pos 703_125 in
    let b = r *ℤ pos 32_768 in
    let turned : neg_ℤ (a -ℤ b) ≡ b -ℤ a = neg_ℤ-+ℤ a (neg_ℤ b) ∙ ap (λ x. neg_ℤ a +ℤ x) (neg_ℤ-neg_ℤ b) ∙ +ℤ_comm (neg_ℤ a) b in
    ap nat_abs (sym turned) ∙ abs_negated (a -ℤ b) ∙ ap nat_abs (sym (left_is n r l e))

-- ---- the sum in ℕ: what stands above zero, and what below

abbrev over : ℤ → ℕ
over (pos n) = n
over (negsuc n) = 0

abbrev under : ℤ → ℕ
under (pos n) = 0
under (negsuc n) = suc n

both-sides : (z : ℤ) → nat_abs z ≡ over z + under z
both-sides (pos n) = omega arith
both-sides (negsuc n) = omega arith

-- two integers are the same if they are in balance
balanced : (y z : ℤ) → over y + under z ≡ over z + under y → y ≡ z
balanced (pos a) (pos b) e = ap pos (omega arith)
balanced (pos a) (negsuc b) e = absurd (omega arith)
balanced (negsuc a) (pos b) e = absurd (omega arith)
balanced (negsuc a) (negsuc b) e = ap negsuc (omega arith)

cond-sides : (a b : ℕ) (t : Bool) → ltb a b ≡ t → over (cond t (negsuc (b - suc a)) (pos (a - b))) + b ≡ a + under (cond t (negsuc (b - suc a)) (pos (a - b)))
cond-sides a b true e = omega (arith, ltb-true a b e)
cond-sides a b false e = omega (arith, ltb-false a b e)

sum-sides : (y z : ℤ) → over (y +ℤ z) + (under y + under z) ≡ over y + over z + under (y +ℤ z)
sum-sides (pos a) (pos b) = omega arith
sum-sides (pos a) (negsuc b) = omega (arith, cond-sides a (suc b) (ltb a (suc b)) refl)
sum-sides (negsuc a) (pos b) = omega (arith, cond-sides b (suc a) (ltb b (suc a)) refl)
sum-sides (negsuc a) (negsuc b) = omega arith

negated_sides : (n : ℕ) → (over (neg_ℤ (pos n)) ≡ 0) × (under (neg_ℤ (pos n)) ≡ n)
negated_sides zero = (refl, refl)
negated_sides (suc n) = (refl, refl)

product_sides : (z : ℤ) (k : ℕ) → (over (z *ℤ pos k) ≡ over z * k) × (under (z *ℤ pos k) ≡ under z * k)
product_sides (pos n) k = (omega arith, omega arith)
product_sides (negsuc n) k = let s = negated_sides (suc n * k) in (omega (arith, s.0), s.1)

sides : (n r l : ℤ) → n *ℤ pos 703_125 ≡ r *ℤ pos 32_768 +ℤ l
    → over n * 703_125 + (under r * 32_768 + under l) ≡ over r * 32_768 + over l + under n * 703_125
sides n r l e =
    let p = product_sides n 703_125 in
    let q = product_sides r 32_768 in
    omega (arith, ap over e, ap under e, sum-sides (r *ℤ pos 32_768) l, p.0, p.1, q.0, q.1)

-- ---- the angle and the leftover are exact, and nothing else is

left_sum : (n : ℤ) → n *ℤ pos 703_125 ≡ udeg_of n *ℤ pos 32_768 +ℤ left_of n
unfolding left_of
left_sum n = let b = udeg_of n *ℤ pos 32_768 in sym (+ℤ_comm b (left_of n) ∙ -ℤ-+ℤ_cancel (n *ℤ pos 703_125) b)

-- where half a step is left: of no number above zero above, of none below zero below
left_half_above : (n : ℤ) → left_of n ≡ pos 16_384 → n <ℤ pos 0
unfolding udeg_of rounded
left_half_above (pos n) e = absurd (omega (arith, sides (pos n) (pos (rounded n)) (left_of (pos n)) (left_sum (pos n)), ap over e, ap under e))
left_half_above (negsuc n) e = record { lt = tt }

left_half_below : (n : ℤ) → left_of n ≡ neg_ℤ (pos 16_384) → pos 0 <ℤ n
unfolding udeg_of rounded
left_half_below (pos zero) e = absurd (omega (arith, sides (pos 0) (pos (rounded 0)) (left_of (pos 0)) (left_sum (pos 0)), ap over e, ap under e))
left_half_below (pos (suc n)) e = record { lt = lt→ltb 0 (suc n) (omega arith) }
left_half_below (negsuc n) e =
    let u = angle_below n in
    absurd (omega (arith, sides (negsuc n) (udeg_of (negsuc n)) (left_of (negsuc n)) (left_sum (negsuc n)), ap over e, ap under e, ap over u, ap under u))

pub exact_angle : (n : ℤ) → Exact n (udeg_of n) (left_of n)
exact_angle n =
    let w = left_within n in
    record {
      sum = left_sum n;
      low = record { le = w.low };
      high = record { le = w.high };
      half_below = left_half_below n;
      half_above = left_half_above n;
    }

within_half : (l : ℤ) → neg_ℤ (pos 16_384) ≤ℤ l → l ≤ℤ pos 16_384 → nat_abs l ≤ 16_384
within_half (pos k) g h = leb→le k 16_384 h.le
within_half (negsuc k) g h = omega (arith, leb→le k 16_383 g.le)

half_away : (n r l : ℤ) → Exact n r l → nat_abs l ≡ 16_384 → nat_abs n * 703_125 ≤ nat_abs r * 32_768
half_away (pos n) r (pos k) x e = absurd (omega (arith, ltb→lt n 0 (x.half_above (ap pos e)).lt))
half_away (negsuc n) r (pos k) x e = omega (arith, e, both-sides r, sides (negsuc n) r (pos k) x.sum)
half_away (pos n) r (negsuc k) x e = omega (arith, e, both-sides r, sides (pos n) r (negsuc k) x.sum)
half_away (negsuc n) r (negsuc k) x e = absurd (x.half_below (ap negsuc (omega (arith, e)))).lt

exact_half_step : (n r l : ℤ) → Exact n r l → HalfStep n r
exact_half_step n r l x =
    let d : distance n r ≡ nat_abs l = left_distance n r l x.sum in
    record { half = omega (arith, d, within_half l x.low x.high); away = λ e. half_away n r l x (omega (arith, d, e)) }

pub one_exact : (n r l : ℤ) → Exact n r l → (r ≡ udeg_of n) × (l ≡ left_of n)
unfolding left_of
one_exact n r l x =
    let e : r ≡ udeg_of n = one_half_step n r (exact_half_step n r l x) in
    (e, left_is n r l x.sum ∙ ap (λ y. n *ℤ pos 703_125 -ℤ y *ℤ pos 32_768) e)

-- and from both the number is had again: nothing is lost
pub exact_number : (m n r l : ℤ) → Exact m r l → Exact n r l → m ≡ n
exact_number m n r l x y = balanced m n (omega (arith, sides m r l x.sum, sides n r l y.sum))
