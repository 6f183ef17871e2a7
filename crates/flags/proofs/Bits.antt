-- An indicator with one bit set or cleared by the operators on bits, by computed tests over every octet.
use Rattle.std.specs.Prelude.{◌≡◌, Bool, ℕ, ◌-◌, ◌^◌, ◌/◌, ◌≤◌, ◌<◌, eqb, bit_or, bit_and}
use Rattle.std.proofs.Common.{sym, ap, ◌∙◌, arith, inl, inr}
use Rattle.std.proofs.Math.Dec.{eqb→eq}
use Rattle.std.proofs.Math.Nat.{div-eq_of_lt, mod-eq_of_lt}
use Rattle.std.proofs.lemmas.Nat.{and_mask}
use Rattle.std.proofs.lemmas.Bool.Decides.{leb_tells}
use Rattle.std.specs.Int.Bits.{or_zero_r}
use lib.Pow.{pow_mono}
use native.Mathlib.Nat.{lt_of_lt_of_le}
use Rattle.codec.specs.Radix.{total, cut, join}
use Rattle.codec.specs.Change.{set_flag}
use Rattle.codec.proofs.Laws.Tests.{up_to, up_to_lem}
use Rattle.codec.proofs.Laws.Flags.{set_past}

-- past the eight there is no bit
pub none_past : (i : ℕ) → 8 ≤ i → 128 / 2 ^ i ≡ 0
none_past i h = div-eq_of_lt (lt_of_lt_of_le (omega arith) (pow_mono {i = 8} {j = i} h))

set_right : ℕ → ℕ → Bool
set_right i n = eqb (bit_or n (128 / 2 ^ i)) (set_flag n i 1)

unset_right : ℕ → ℕ → Bool
unset_right i n = eqb (bit_and n (255 - 128 / 2 ^ i)) (set_flag n i 0)

set_here : (n i : ℕ) → n < 256 → i < 8 → bit_or n (128 / 2 ^ i) ≡ set_flag n i 1
unfolding set_right set_flag cut total join
set_here n i h k = eqb→eq (bit_or n (128 / 2 ^ i)) (set_flag n i 1) (up_to_lem (set_right i) 256 (up_to_lem (λ j. up_to (set_right j) 256) 8 tt i k) n h)

unset_here : (n i : ℕ) → n < 256 → i < 8 → bit_and n (255 - 128 / 2 ^ i) ≡ set_flag n i 0
unfolding unset_right set_flag cut total join
unset_here n i h k = eqb→eq (bit_and n (255 - 128 / 2 ^ i)) (set_flag n i 0) (up_to_lem (unset_right i) 256 (up_to_lem (λ j. up_to (unset_right j) 256) 8 tt i k) n h)

pub bit_set : (n i : ℕ) → n < 256 → bit_or n (128 / 2 ^ i) ≡ set_flag n i 1
bit_set n i h = elim (leb_tells 8 i) [
  | inl p ↦ ap (bit_or n) (none_past i p.1) ∙ or_zero_r n ∙ sym (set_past n i 1 h p.1)
  | inr p ↦ set_here n i h p.1
]

pub bit_cleared : (n i : ℕ) → n < 256 → bit_and n (255 - 128 / 2 ^ i) ≡ set_flag n i 0
bit_cleared n i h = elim (leb_tells 8 i) [
  | inl p ↦ ap (λ m. bit_and n (255 - m)) (none_past i p.1) ∙ and_mask n 8 ∙ mod-eq_of_lt h ∙ sym (set_past n i 0 h p.1)
  | inr p ↦ unset_here n i h p.1
]
