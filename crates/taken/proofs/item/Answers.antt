-- `taken::item` meets its contract: one law for each shape of an item. Assumes nothing.
use native.Mathlib.Omega.{arith}
use mir.Facts.{Fits-of_lt}
use Rattle.shapes.specs.Laws.Shapes.{shaped-well}
use Rattle.taken.specs.Laws.Items.{parts_most, single_asks, parts_asks, subfields-asks, flags-asks, item_single, item_parts, item_subfields}
use Rattle.taken.proofs.item.Goals as goal

pub lines-requires : goal.lines-requires
lines-requires c =
    single_asks c.args.k c.shape_at-shape.ensures c.args.base c.requires c.if-most-eq0.true

pub returns-then-most-eq0 : goal.returns-then-most-eq0
returns-then-most-eq0 c =
    let a = c.args in
    let all = item_single a.k c.shape_at-shape.ensures a.base a.t.now a.out.now c.if-most-eq0.true (c.lines.ensures.behind, c.lines.ensures.kept) in
    record { behind = all.0; kept = all.1 }

pub parts-there-requires : goal.parts-there-requires
parts-there-requires c = omega (arith, (shaped-well c.args.k c.shape_at-shape.ensures).few)

pub lines-requires-then-shape-eq0 : goal.lines-requires-then-shape-eq0
lines-requires-then-shape-eq0 c =
    parts_asks c.args.k c.shape_at-shape.ensures c.args.base c.requires c.if-most-eq0.false

pub returns-then-shape-eq0 : goal.returns-then-shape-eq0
returns-then-shape-eq0 c =
    let a = c.args in
    let all = item_parts a.k c.shape_at-shape.ensures a.base a.t.now a.out.now c.if-most-eq0.false c.parts-there.ensures c.behind_parts-rest.ensures c.if-shape-eq0.true (c.lines-then-shape-eq0.ensures.behind, c.lines-then-shape-eq0.ensures.kept) in
    record { behind = all.0; kept = all.1 }

pub overflow_add-b : goal.overflow_add-b
overflow_add-b c =
    let a = c.args in
    let few = (shaped-well a.k c.shape_at-shape.ensures).few in
    Fits-of_lt (omega (arith, few, c.parts-there.ensures, parts_most a.k c.shape_at-shape.ensures a.t.now))

pub overflow_add-b-2 : goal.overflow_add-b-2
overflow_add-b-2 c =
    Fits-of_lt (omega (arith, (shaped-well c.args.k c.shape_at-shape.ensures).few))

pub flags-requires : goal.flags-requires
flags-requires c =
    flags-asks c.args.k c.shape_at-shape.ensures c.args.base c.requires c.if-most-eq0.false c.if-shape-eq0.false

pub overflow_add-b-3 : goal.overflow_add-b-3
overflow_add-b-3 c =
    Fits-of_lt (omega (arith, (shaped-well c.args.k c.shape_at-shape.ensures).few))

pub lines-requires-2 : goal.lines-requires-2
lines-requires-2 c =
    subfields-asks c.args.k c.shape_at-shape.ensures c.args.base c.requires c.if-most-eq0.false c.if-shape-eq0.false

pub returns : goal.returns
returns c =
    let a = c.args in
    let all = item_subfields a.k c.shape_at-shape.ensures a.base a.t.now a.out.now c.if-most-eq0.false c.parts-there.ensures c.behind_parts-rest.ensures c.if-shape-eq0.false c.first_of-n.ensures c.flags.ensures (c.lines-2.ensures.behind, c.lines-2.ensures.kept) in
    record { behind = all.0; kept = all.1 }
