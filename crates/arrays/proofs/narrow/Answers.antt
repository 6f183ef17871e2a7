-- `arrays::narrow` meets its contract: the loop has put the numbers passed. Assumes nothing.
use mir.Syntax.{w32}
use Rattle.std.proofs.Common.{pos, ap, ◌∙◌, arith}
use borrow.Author.Rules.{sfits_of}
use mir.Facts.{to_z-of_z}
use Rattle.interface.specs.Arrays.{octet_of}
use Rattle.interface.proofs.Laws.Copies.{mapped_more}
use Rattle.arrays.proofs.narrow.Goals as goal

pub loop-i-preserved : goal.loop-i-preserved
loop-i-preserved c =
    let a = c.args in
    rw c.loop-i.invariant (mapped_more octet_of a.numbers.now a.octets.now c.requires c.loop-i.i (pos 0) (omega arith) (c.octet.ensures ∙ ap octet_of (to_z-of_z {w = w32} (sfits_of c.octet-arg-1.given))))
