-- `sheet::items::Held::item` meets its contract, by its shape. Assumes nothing.
use native.Mathlib.Omega.{arith}
use mir.Facts.{Fits-of_lt}
use Rattle.shapes.specs.Laws.Shapes.{shaped-well}
use Rattle.sheet.specs.Laws.Lines.{item_single, item_chained}
use Rattle.sheet.proofs.items.Held.item.Goals as goal

pub lines-requires : goal.lines-requires
lines-requires c =
    (c.requires.0, omega (arith, (shaped-well c.args.k c.shape_at-shape.ensures).few), c.requires.1)

pub returns-then-parts-eq0 : goal.returns-then-parts-eq0
returns-then-parts-eq0 c =
    let a = c.args in
    let h = a.self.now in
    item_single a.keys.now h.numbers.now h.count a.k h.base c.shape_at-shape.ensures c.if-parts-eq0.true c.lines.ensures

pub overflow_add-parts : goal.overflow_add-parts
overflow_add-parts c =
    Fits-of_lt (omega (arith, (shaped-well c.args.k c.shape_at-shape.ensures).few))

pub lines-requires-2 : goal.lines-requires-2
lines-requires-2 c =
    (c.requires.0, omega (arith, (shaped-well c.args.k c.shape_at-shape.ensures).few), c.requires.1)

pub returns : goal.returns
returns c =
    let a = c.args in
    let h = a.self.now in
    item_chained a.keys.now h.numbers.now h.count a.k h.base c.shape_at-shape.ensures c.if-parts-eq0.false c.lines-2.ensures
