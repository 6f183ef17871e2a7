-- What the millionths of an angle leave over lies from -16,384 to 16,384 (02, Ask 7): half a step at most, to either side.
use Rattle.std.specs.Prelude.{◌≡◌, refl, Bool, true, false, cond, ℕ, zero, suc, ◌+◌, ◌-◌, ◌*◌, ◌≤◌, T, ltb, ℤ, pos, negsuc, neg_ℤ, ◌-ℤ◌, ◌*ℤ◌}
use Rattle.std.proofs.Common.{sym, ap, ◌∙◌, subst, arith, ltb-true, leb→le, le→leb}
use Rattle.std.proofs.Math.IntN.{neg_ℤ-+ℤ}
use Rattle.std.specs.Int.Signed.{le_z}
use Rattle.scope.specs.Angle.{rounded, udeg_of, left_of}

-- from -k to k
pub record Within (k : ℕ) (z : ℤ) : Type 0 where
  pub low : T (le_z (neg_ℤ (pos k)) z)
  pub high : T (le_z z (pos k))

-- a number above 0 is not below -k, and one below 0 is not above k
within_above : (k n : ℕ) → n ≤ k → Within k (pos n)
within_above zero n h = record { low = le→leb 0 n (omega arith); high = le→leb n 0 h }
within_above (suc k) n h = record { low = tt; high = le→leb n (suc k) h }

within_below : (k n : ℕ) → suc n ≤ k → Within k (negsuc n)
within_below zero n h = absurd (omega arith)
within_below (suc k) n h = record { low = le→leb n k (omega arith); high = tt }

within_negated : (k : ℕ) (z : ℤ) → Within k z → Within k (neg_ℤ z)
within_negated k (pos zero) w = w
within_negated k (pos (suc n)) w = within_below k n (leb→le (suc n) k w.high)
within_negated zero (negsuc n) w = absurd w.low
within_negated (suc k) (negsuc n) w = within_above (suc k) (suc n) (omega (arith, leb→le n k w.low))

-- a difference of two that are not further apart
within_difference : (k a b : ℕ) → a ≤ b + k → b ≤ a + k → Within k (pos a -ℤ pos b)
within_difference k a zero h l = within_above k (a + 0) (omega arith)
within_difference k a (suc b) h l = go (ltb a (suc b)) refl
  where
    go : (t : Bool) → ltb a (suc b) ≡ t → Within k (cond t (negsuc (suc b - suc a)) (pos (a - suc b)))
    go true e = within_below k (suc b - suc a) (omega (arith, ltb-true a (suc b) e))
    go false e = within_above k (a - suc b) (omega arith)

-- ---- the leftover of the negative is the negative of the leftover

pub negated_times : (r k : ℕ) → neg_ℤ (pos r) *ℤ pos k ≡ neg_ℤ (pos (r * k))
negated_times zero k = let e : 0 * k ≡ 0 = omega arith in rw e refl
negated_times (suc r) k = refl

left_negated : (n : ℕ) → left_of (negsuc n) ≡ neg_ℤ (left_of (pos (suc n)))
unfolding left_of udeg_of
left_negated n =
    ap (λ x. neg_ℤ (pos (suc n * 703_125)) -ℤ x) (negated_times (rounded (suc n)) 32_768)
    ∙ sym (neg_ℤ-+ℤ (pos (suc n * 703_125)) (neg_ℤ (pos (rounded (suc n) * 32_768))))

left_above : (n : ℕ) → Within 16_384 (left_of (pos n))
unfolding left_of udeg_of rounded
left_above n = within_difference 16_384 (n * 703_125) (rounded n * 32_768) (omega arith) (omega arith)

pub left_within : (z : ℤ) → Within 16_384 (left_of z)
left_within (pos n) = left_above n
left_within (negsuc n) = subst (Within 16_384) (sym (left_negated n)) (within_negated 16_384 (left_of (pos (suc n))) (left_above (suc n)))
