-- `arrays::widen` meets its contract: the loop has put the octets passed. Assumes nothing.
use mir.Syntax.{w32}
use Rattle.std.proofs.Common.{pos, ◌∙◌, arith}
use borrow.Author.Rules.{sfits_of}
use mir.Facts.{to_z-of_z}
use Rattle.interface.proofs.Laws.Copies.{mapped_more}
use Rattle.arrays.proofs.widen.Goals as goal

pub loop-i-preserved : goal.loop-i-preserved
loop-i-preserved c =
    let a = c.args in
    rw c.loop-i.invariant (mapped_more pos a.octets.now a.numbers.now c.requires c.loop-i.i 0 (omega arith) (to_z-of_z {w = w32} (sfits_of c.from.type_inv) ∙ c.from.ensures))
