-- `writer::lines::Laying::item` meets its contract: by its shape, one line, or a chain and then its subfields. Assumes nothing.
use native.Mathlib.Omega.{arith}
use mir.Facts.{Fits-of_lt}
use Rattle.shapes.specs.Laws.Shapes.{shaped-well}
use Rattle.writer.specs.Laws.Chains.{chain_turn, item_single, item_chained}
use Rattle.writer.proofs.lines.Laying.item.Goals as goal

pub returns-then-parts-eq0 : goal.returns-then-parts-eq0
returns-then-parts-eq0 c =
    let a = c.args in
    item_single a.k c.shape_at-b.ensures a.slots.numbers.now a.slots.base a.count c.if-parts-eq0.true c.line.ensures

pub chain-requires : goal.chain-requires
chain-requires c =
    let k = c.args.k in
    (omega (arith, (shaped-well k c.shape_at-b.ensures).few), chain_turn k c.shape_at-b.ensures c.if-parts-eq0.false)

pub overflow_add-b : goal.overflow_add-b
overflow_add-b c =
    Fits-of_lt (omega (arith, (shaped-well c.args.k c.shape_at-b.ensures).few))

pub subfields-requires : goal.subfields-requires
subfields-requires c =
    let w = shaped-well c.args.k c.shape_at-b.ensures in
    (omega (arith, w.few), w.subfields_turn)

pub returns : goal.returns
returns c =
    let a = c.args in
    item_chained a.k c.shape_at-b.ensures a.slots.numbers.now a.slots.base a.count c.if-parts-eq0.false c.chain.ensures c.subfields.ensures
