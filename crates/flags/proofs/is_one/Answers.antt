-- `flags::is_one` meets its contract: no number below 0 has the bits of 1. Assumes nothing.
use mathlib.Core.Path.{◌≡◌, refl}
use Prim.Native.Nat.{suc, ◌-◌, ◌<◌}
use native.Mathlib.Omega.{arith}
use borrow.Author.Tests.{ne_eqb}
use lib.Dec.{eqb}
use lib.IntN.{ℤ, pos, negsuc}
use mir.Syntax.{w32}
use mir.Val.{SFits, of_z}
use Rattle.codec.specs.Item.{is_one}
use Rattle.flags.proofs.is_one.Goals as goal

bits : (z : ℤ) → SFits w32 z → eqb (of_z w32 z) 1 ≡ is_one z
unfolding is_one
bits (pos n) f = refl
bits (negsuc n) f = let h : n < 2_147_483_648 = f.sfits in ne_eqb (4_294_967_296 - suc n) 1 (λ e. omega arith)

pub returns : goal.returns
returns c = bits c.args.z c.ranges.z
