-- Which numbers are octets.
use Rattle.std.specs.Prelude.{◌≡◌, true, false, List, ℕ, ◌+◌, ◌<◌, ◌≤◌, T, ℤ, pos, negsuc, nat_abs, length, get_or, drop}
use Rattle.std.proofs.Math.Path.{refl, sym}
use Rattle.std.proofs.Common.{ap, ◌∙◌, add-one, arith, ltb-true, drop_of_length-le, drop-cons}
use Rattle.std.specs.Int.Signed.{lt_z, non_neg}
use Rattle.interface.specs.Arrays.{is_octet, are_octets, octet_of}

pub below_none : (z : ℤ) → lt_z z (pos 0) ≡ true → false ≡ is_octet z
unfolding is_octet
below_none (pos n) t = absurd (omega (arith, ltb-true n 0 t))
below_none (negsuc n) t = refl

pub above_tells : (z : ℤ) → lt_z z (pos 0) ≡ false → lt_z z (pos 256) ≡ is_octet z
unfolding is_octet
above_tells (pos n) t = refl
above_tells (negsuc n) t = let e : ◌≡◌ {A = ℕ} 0 1 = cc in absurd (omega arith)

pub octet_positive : (z : ℤ) → is_octet z ≡ true → T (non_neg z) × (nat_abs z < 256)
unfolding is_octet
octet_positive (pos n) t = (tt, ltb-true n 256 t)
octet_positive (negsuc n) t = let e : ◌≡◌ {A = ℕ} 0 1 = cc in absurd (omega arith)

pub octet_is : (z : ℤ) → is_octet z ≡ true → nat_abs z ≡ octet_of z
unfolding is_octet octet_of
octet_is (pos n) t = rw t refl
octet_is (negsuc n) t = let e : ◌≡◌ {A = ℕ} 0 1 = cc in absurd (omega arith)

pub octet_none : (z : ℤ) → is_octet z ≡ false → 0 ≡ octet_of z
unfolding is_octet octet_of
octet_none (pos n) t = rw t refl
octet_none (negsuc n) t = refl

-- ---- of a list, element by element

module _ (zs : List ℤ) (i : ℕ) where
  pub octets_more : i < length zs → is_octet (get_or zs i (pos 0)) ≡ true → are_octets (drop i zs) ≡ are_octets (drop (i + 1) zs)
  unfolding are_octets
  octets_more h t = rw (add-one i) (ap are_octets (drop-cons zs i (pos 0) h) ∙ rw t refl)

  pub octets_not : i < length zs → is_octet (get_or zs i (pos 0)) ≡ false → false ≡ are_octets (drop i zs)
  unfolding are_octets
  octets_not h t = sym (ap are_octets (drop-cons zs i (pos 0) h) ∙ rw t refl)

  pub octets_all : length zs ≤ i → true ≡ are_octets (drop i zs)
  unfolding are_octets
  octets_all h = rw (drop_of_length-le zs h) refl
