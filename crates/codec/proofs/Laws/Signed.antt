-- Two's complement: from bits to a number and back, over any width.
use Rattle.std.specs.Prelude.{◌≡◌, Bool, ℤ, pos, negsuc, ◌-ℤ◌}
use Rattle.std.proofs.Math.Path.{refl}
use Rattle.std.proofs.Common.{ap, not-suc-le-zero, ltb→lt}
use Rattle.std.proofs.Math.Bool.{true, false}
use Prim.Native.Nat.{ℕ, zero, suc, ◌+◌, ◌-◌, ◌≤◌, ◌<◌}
use native.Mathlib.Omega.{arith}
use Rattle.std.proofs.Math.Dec.{T, ltb, lt→ltb}
use borrow.Author.Tests.{lt-ltb, le-ltb, ltb-true, ltb-false}
use Rattle.codec.specs.Pick.{pick}
use Rattle.codec.specs.Signed.{to_signed, of_signed, in_signed}

pub to_of : (full : ℕ) (z : ℤ) → T (in_signed full z) → to_signed full (of_signed full z) ≡ z
unfolding to_signed of_signed in_signed
to_of full (pos n) h = simp (lt-ltb (n + n) full (ltb→lt _ _ h))
to_of full (negsuc n) h =
    let k : suc (n + n) < full = ltb→lt _ _ h in
    simp (le-ltb (full - suc n + (full - suc n)) full (omega arith)) (ap negsuc (omega arith))

module _ (full v : ℕ) (h : v < full) where
  pub of_to : of_signed full (to_signed full v) ≡ v
  unfolding to_signed of_signed
  of_to = go (ltb (v + v) full) refl
    where
      go : (b : Bool) → ltb (v + v) full ≡ b → of_signed full (pick b (pos v) (negsuc (full - suc v))) ≡ v
      go true e = refl
      go false e = omega arith

  pub in_to : T (in_signed full (to_signed full v))
  unfolding to_signed in_signed
  in_to = go (ltb (v + v) full) refl
    where
      go : (b : Bool) → ltb (v + v) full ≡ b → T (in_signed full (pick b (pos v) (negsuc (full - suc v))))
      go true e = lt→ltb (v + v) full (ltb-true _ _ e)
      go false e = let k : full ≤ v + v = ltb-false _ _ e in lt→ltb (suc (full - suc v + (full - suc v))) full (omega arith)

-- ---- for code on signed numbers

pub minus : (n full : ℕ) → n < full → pos n -ℤ pos full ≡ negsuc (full - suc n)
minus n zero h = absurd (not-suc-le-zero h)
minus n (suc f) h = simp (lt-ltb n (suc f) h)

pub signed_low : (full n : ℕ) → n + n < full → to_signed full n ≡ pos n
unfolding to_signed
signed_low full n h = simp (lt-ltb (n + n) full h)

pub signed_high : (full n : ℕ) → full ≤ n + n → to_signed full n ≡ negsuc (full - suc n)
unfolding to_signed
signed_high full n h = simp (le-ltb (n + n) full h)
