-- The bits of the indicator as code takes them, by computed tests over every octet.
use Rattle.std.specs.Prelude.{◌≡◌, refl, Bool, true, false, ◌&&◌, ℕ, ◌+◌, ◌-◌, ◌*◌, ◌^◌, ◌/◌, ◌%◌, ◌≤◌, ◌<◌, eqb, get_or, drop}
use Rattle.std.proofs.Common.{sym, ap, ◌∙◌}
use Rattle.std.proofs.Math.Path.{subst}
use Rattle.std.proofs.Math.Dec.{T, ltb, leb, ltb→lt, leb→le, eqb→eq}
use Rattle.std.proofs.Math.Seq.{set_out}
use Rattle.codec.specs.Pick.{pick}
use Rattle.codec.specs.Radix.{total, cut, join, ones}
use Rattle.codec.specs.Field.{flags, all_zero}
use Rattle.codec.specs.Change.{set_flag}
use Rattle.codec.proofs.Laws.Tests.{and_l, and_r, up_to, up_to_lem}
use Rattle.codec.proofs.Laws.Field.{length-flags, flags-join}

flagged_right : ℕ → ℕ → Bool
flagged_right i n = eqb (get_or (flags n) i 0) (n / 2 ^ (7 - i) % 2)

pub flag_bit : (n i : ℕ) → n < 256 → i < 8 → get_or (flags n) i 0 ≡ n / 2 ^ (7 - i) % 2
unfolding flagged_right cut total
flag_bit n i h k = eqb→eq (get_or (flags n) i 0) (n / 2 ^ (7 - i) % 2) (up_to_lem (flagged_right i) 256 (up_to_lem (λ j. up_to (flagged_right j) 256) 8 tt i k) n h)

same : Bool → Bool → Bool
same true b = b
same false true = false
same false false = true

same_is : (a b : Bool) → T (same a b) → a ≡ b
unfolding same
same_is true true t = refl
same_is true false t = absurd t
same_is false true t = absurd t
same_is false false t = refl

spare_right : ℕ → ℕ → Bool
spare_right k n = same (eqb (n % 2 ^ (8 - k)) 0) (all_zero (drop k (flags n)))

pub spare_bits : (n k : ℕ) → n < 256 → k < 9 → eqb (n % 2 ^ (8 - k)) 0 ≡ all_zero (drop k (flags n))
unfolding spare_right same all_zero cut total
spare_bits n k h g = same_is (eqb (n % 2 ^ (8 - k)) 0) (all_zero (drop k (flags n))) (up_to_lem (spare_right k) 256 (up_to_lem (λ j. up_to (spare_right j) 256) 9 tt k g) n h)

-- ---- the indicator with one bit set or cleared

unset_right : ℕ → ℕ → Bool
unset_right i n = pick (eqb (get_or (flags n) i 0) 1) (eqb (set_flag n i 0) (n - 128 / 2 ^ i) && leb (128 / 2 ^ i) n) (eqb (set_flag n i 0) n)

set_right : ℕ → ℕ → Bool
set_right i n = pick (eqb (get_or (flags n) i 0) 1) (eqb (set_flag n i 1) n) (eqb (set_flag n i 1) (n + 128 / 2 ^ i) && ltb (n + 128 / 2 ^ i) 256)

module _ (n i : ℕ) (h : n < 256) (k : i < 8) where
  unset_there : T (unset_right i n)
  unfolding unset_right set_flag cut total join
  unset_there = up_to_lem (unset_right i) 256 (up_to_lem (λ j. up_to (unset_right j) 256) 8 tt i k) n h

  set_there : T (set_right i n)
  unfolding set_right set_flag cut total join
  set_there = up_to_lem (set_right i) 256 (up_to_lem (λ j. up_to (set_right j) 256) 8 tt i k) n h

  -- the bit is cleared where it is 1
  pub unset_bit : eqb (get_or (flags n) i 0) 1 ≡ true → (set_flag n i 0 ≡ n - 128 / 2 ^ i) × (128 / 2 ^ i ≤ n)
  unfolding unset_right
  unset_bit e =
      let t : T (eqb (set_flag n i 0) (n - 128 / 2 ^ i) && leb (128 / 2 ^ i) n) = subst (λ b. T (pick b (eqb (set_flag n i 0) (n - 128 / 2 ^ i) && leb (128 / 2 ^ i) n) (eqb (set_flag n i 0) n))) e unset_there in
      (eqb→eq (set_flag n i 0) (n - 128 / 2 ^ i) (and_l (eqb (set_flag n i 0) (n - 128 / 2 ^ i)) _ t), leb→le (128 / 2 ^ i) n (and_r (eqb (set_flag n i 0) (n - 128 / 2 ^ i)) _ t))

  pub unset_none : eqb (get_or (flags n) i 0) 1 ≡ false → set_flag n i 0 ≡ n
  unfolding unset_right
  unset_none e = eqb→eq (set_flag n i 0) n (subst (λ b. T (pick b (eqb (set_flag n i 0) (n - 128 / 2 ^ i) && leb (128 / 2 ^ i) n) (eqb (set_flag n i 0) n))) e unset_there)

  -- and set where it is 0
  pub set_bit : eqb (get_or (flags n) i 0) 1 ≡ false → (set_flag n i 1 ≡ n + 128 / 2 ^ i) × (n + 128 / 2 ^ i < 256)
  unfolding set_right
  set_bit e =
      let t : T (eqb (set_flag n i 1) (n + 128 / 2 ^ i) && ltb (n + 128 / 2 ^ i) 256) = subst (λ b. T (pick b (eqb (set_flag n i 1) n) (eqb (set_flag n i 1) (n + 128 / 2 ^ i) && ltb (n + 128 / 2 ^ i) 256))) e set_there in
      (eqb→eq (set_flag n i 1) (n + 128 / 2 ^ i) (and_l (eqb (set_flag n i 1) (n + 128 / 2 ^ i)) _ t), ltb→lt (n + 128 / 2 ^ i) 256 (and_r (eqb (set_flag n i 1) (n + 128 / 2 ^ i)) _ t))

  pub set_none : eqb (get_or (flags n) i 0) 1 ≡ true → set_flag n i 1 ≡ n
  unfolding set_right
  set_none e = eqb→eq (set_flag n i 1) n (subst (λ b. T (pick b (eqb (set_flag n i 1) n) (eqb (set_flag n i 1) (n + 128 / 2 ^ i) && ltb (n + 128 / 2 ^ i) 256))) e set_there)

-- so the indicator is as it was, with that one bit for the one before
sum_right : ℕ → ℕ → ℕ → Bool
sum_right d i n = eqb (set_flag n i d + get_or (flags n) i 0 * 2 ^ (7 - i)) (n + d * 2 ^ (7 - i))

pub set_sum : (n i d : ℕ) → n < 256 → i < 8 → d < 2 → set_flag n i d + get_or (flags n) i 0 * 2 ^ (7 - i) ≡ n + d * 2 ^ (7 - i)
unfolding sum_right set_flag cut total join
set_sum n i d h k g =
    eqb→eq (set_flag n i d + get_or (flags n) i 0 * 2 ^ (7 - i)) (n + d * 2 ^ (7 - i))
    (up_to_lem (sum_right d i) 256 (up_to_lem (λ j. up_to (sum_right d j) 256) 8 (up_to_lem (λ c. up_to (λ j. up_to (sum_right c j) 256) 8) 2 tt d g) i k) n h)

-- past the eight there is no bit
pub set_past : (n i d : ℕ) → n < 256 → 8 ≤ i → set_flag n i d ≡ n
unfolding set_flag
set_past n i d h k = ap (join ones) (set_out (flags n) i d (subst (◌≤ i) (sym (length-flags n)) k)) ∙ flags-join n h
