-- A word tells what it was made of: its parts are read back by division.
use Rattle.std.specs.Prelude.{◌≡◌, ℕ, ◌^◌, ◌/◌, ◌%◌, ◌<◌}
use Rattle.std.proofs.Math.Path.{subst}
use Rattle.std.proofs.Common.{arith}
use Rattle.layout.specs.Answer.{Answer, Accepted, Refused, View, Shown, Hidden, number_of, place_of, length_of, view_number, view_place, view_length}
use Rattle.interface.specs.Packed.{word_of, Fit, beside_word, side_word}

pub record Tells (w number which place size : ℕ) : Type 0 where
  pub number_is : w / 2 ^ 48 ≡ number
  pub which_is : w / 2 ^ 32 % 2 ^ 16 ≡ which
  pub place_is : w / 2 ^ 16 % 2 ^ 16 ≡ place
  pub length_is : w % 2 ^ 16 ≡ size

pub word_tells : (number which place size : ℕ) → which < 65_536 → Fit place size → Tells (word_of number which place size) number which place size
unfolding word_of
word_tells number which place size h f =
    let p : place < 65_536 = f.0 in
    let l : size < 65_536 = f.1 in
    record { number_is = omega arith; which_is = omega arith; place_is = omega arith; length_is = omega arith }

-- ---- the cases of an answer

module _ {a : Answer} {n : ℕ} (e : a ≡ Accepted n) where
  pub accepted_fits : Fit (place_of a) (length_of a) → Fit 0 n
  unfolding place_of length_of
  accepted_fits f = subst (λ x. Fit (place_of x) (length_of x)) e f

  pub accepted_word : (which : ℕ) {w : ℕ} → w ≡ word_of 0 which 0 n → w ≡ beside_word which a
  unfolding beside_word number_of place_of length_of
  accepted_word which ew = rw e ew

module _ {a : Answer} {n p : ℕ} (e : a ≡ Refused n p) where
  pub refused_fits : Fit (place_of a) (length_of a) → Fit p 0
  unfolding place_of length_of
  refused_fits f = subst (λ x. Fit (place_of x) (length_of x)) e f

  pub refused_word : (which : ℕ) {w : ℕ} → w ≡ word_of n which p 0 → w ≡ beside_word which a
  unfolding beside_word number_of place_of length_of
  refused_word which ew = rw e ew

-- ---- the cases of a view

module _ {v : View} {a m : ℕ} (e : v ≡ Shown a m) where
  pub shown_fits : Fit (view_place v) (view_length v) → Fit a m
  unfolding view_place view_length
  shown_fits f = subst (λ x. Fit (view_place x) (view_length x)) e f

  pub shown_word : (which : ℕ) {w : ℕ} → w ≡ word_of 0 which a m → w ≡ side_word which v
  unfolding side_word view_number view_place view_length
  shown_word which ew = rw e ew

module _ {v : View} {n p : ℕ} (e : v ≡ Hidden n p) where
  pub hidden_fits : Fit (view_place v) (view_length v) → Fit p 0
  unfolding view_place view_length
  hidden_fits f = subst (λ x. Fit (view_place x) (view_length x)) e f

  pub hidden_word : (which : ℕ) {w : ℕ} → w ≡ word_of n which p 0 → w ≡ side_word which v
  unfolding side_word view_number view_place view_length
  hidden_word which ew = rw e ew
