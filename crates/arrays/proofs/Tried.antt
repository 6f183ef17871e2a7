-- What `u8::try_from` says of a number is what the definitions say of it.
use Rattle.std.specs.Prelude.{◌≡◌, Bool, Result, Ok, Err, ℕ, ℤ, pos, negsuc, nat_abs, is_err, not, refl}
use Rattle.std.proofs.Common.{arith, ◌≤◌}
use Rattle.std.specs.Int.{FitsUnsignedBits}
use Rattle.std.specs.Result.{OkIff, result_unwrap_or}
use borrow.Author.Tests.{lt-ltb, le-ltb}
use Rattle.interface.specs.Arrays.{is_octet, octet_of}

pub octet_tried : {E : Type 0} (z : ℤ) (r : Result ℕ E) → OkIff r (FitsUnsignedBits 8 z) (nat_abs z) → result_unwrap_or r 0 ≡ octet_of z
unfolding octet_of
octet_tried (pos n) (Ok x) h = rw (lt-ltb n 256 h.0) h.1
octet_tried (pos n) (Err e) h = let l : 256 ≤ n = omega (arith, h) in rw (le-ltb n 256 l) refl
octet_tried (negsuc n) (Ok x) h = absurd h.0
octet_tried (negsuc n) (Err e) h = refl

pub is_octet_tried : {E : Type 0} (z : ℤ) (r : Result ℕ E) {b : Bool} → OkIff r (FitsUnsignedBits 8 z) (nat_abs z) → b ≡ is_err r → is_octet z ≡ not b
unfolding is_octet
is_octet_tried (pos n) (Ok x) h e = rw (e, lt-ltb n 256 h.0) refl
is_octet_tried (pos n) (Err d) h e = let l : 256 ≤ n = omega (arith, h) in rw (e, le-ltb n 256 l) refl
is_octet_tried (negsuc n) (Ok x) h e = absurd h.0
is_octet_tried (negsuc n) (Err d) h e = rw e refl
