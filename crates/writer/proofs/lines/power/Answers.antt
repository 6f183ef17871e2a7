-- `writer::lines::power` meets its contract: the shift loses nothing. Assumes nothing.
use mathlib.Core.Path.{◌∙◌}
use Prim.Native.Nat.{ℕ, ◌*◌, ◌^◌, ◌<◌}
use native.Mathlib.Nat.{mod-eq_of_lt, one-mul, lt_of_le_of_lt}
use native.Mathlib.Omega.{arith}
use lib.Pow.{pow_mono}
use Rattle.writer.proofs.lines.power.Goals as goal

under : (w : ℕ) → w < 64 → 1 * 2 ^ w < 2 ^ 64
under w h = rw (one-mul (2 ^ w)) (lt_of_le_of_lt (pow_mono {i = w} {j = 63} (omega arith)) (omega arith))

pub returns : goal.returns
returns c = mod-eq_of_lt (under c.args.w c.requires) ∙ one-mul _
