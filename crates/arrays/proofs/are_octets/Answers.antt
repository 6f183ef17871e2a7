-- `arrays::are_octets` meets its contract: the numbers passed are octets. Assumes nothing.
use mir.Syntax.{w32}
use Rattle.std.proofs.Common.{sym, ap, ◌∙◌, not, arith}
use borrow.Author.Rules.{sfits_of}
use mir.Facts.{to_z-of_z}
use Rattle.interface.proofs.Laws.Octets.{octets_more, octets_not, octets_all}
use Rattle.arrays.proofs.Tried.{is_octet_tried}
use Rattle.arrays.proofs.are_octets.Goals as goal

pub returns-then-is_err : goal.returns-then-is_err
returns-then-is_err c =
    let s = c.args.numbers.now in
    let t = rw (to_z-of_z {w = w32} (sfits_of c.try_from-arg-1.given)) at c.try_from.ensures in
    octets_not s c.loop-z.z-index (omega arith) (is_octet_tried _ c.try_from.result t c.is_err.ensures.value ∙ ap not c.if-is_err.true) ∙ sym c.loop-z.invariant

pub loop-z-preserved : goal.loop-z-preserved
loop-z-preserved c =
    let s = c.args.numbers.now in
    let t = rw (to_z-of_z {w = w32} (sfits_of c.try_from-arg-1.given)) at c.try_from.ensures in
    c.loop-z.invariant ∙ octets_more s c.loop-z.z-index (omega arith) (is_octet_tried _ c.try_from.result t c.is_err.ensures.value ∙ ap not c.if-is_err.false)

pub returns : goal.returns
returns c = octets_all c.args.numbers.now c.loop-z.z-index (omega arith) ∙ sym c.loop-z.invariant
