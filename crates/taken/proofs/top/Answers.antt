-- `taken::top` meets its contract: as many ones as bits are wanted. Assumes nothing.
use mathlib.Core.Path.{ap, ◌∙◌}
use Prim.Native.Nat.{◌-◌, ◌^◌, ◌/◌}
use native.Mathlib.Omega.{arith}
use lib.IntN.{pos}
use mir.Facts.{to_z-of_z}
use mir.Syntax.{w32}
use mir.Val.{SFits}
use Rattle.taken.specs.Laws.Numbers.{top_is, top_most}
use Rattle.taken.proofs.top.Goals as goal

pub returns : goal.returns
returns c =
    let w = c.args.w in
    let f : SFits w32 (pos (16777215 / 2 ^ (24 - w))) = record { sfits = omega (arith, top_is w c.requires, top_most w c.requires) } in
    to_z-of_z f ∙ ap pos (top_is w c.requires)
