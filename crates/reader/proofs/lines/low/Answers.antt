-- `reader::lines::low` meets its contract. Assumes nothing.
use mathlib.Core.Path.{ap}
use Prim.Native.Nat.{◌^◌, ◌%◌, ◌<◌}
use native.Mathlib.Omega.{arith}
use borrow.Author.Rules.{rules}
use lib.Pow.{pow_pos}
use Rattle.reader.proofs.lines.low.Goals as goal

pub power-requires : goal.power-requires
power-requires c = search rules

pub nonzero_rem-result : goal.nonzero_rem-result
nonzero_rem-result c = let p : 0 < 2 ^ c.args.w = pow_pos c.args.w in omega (arith, c.power.ensures)

pub returns : goal.returns
returns c = ap (c.args.n %◌) c.power.ensures
