-- `taken::category` meets its contract. Assumes nothing.
use Rattle.taken.specs.Laws.Names.{category_021, category_007, category_048}
use Rattle.taken.proofs.category.Goals as goal

pub returns-then-opens : goal.returns-then-opens
returns-then-opens c =
    category_021 c.args.t.now c.line-first.ensures c.opens.ensures c.if-opens.true

pub returns-then-opens-2 : goal.returns-then-opens-2
returns-then-opens-2 c =
    category_007 c.args.t.now c.line-first.ensures c.opens.ensures c.if-opens.false c.opens-2.ensures c.if-opens-2.true

pub returns : goal.returns
returns c =
    category_048 c.args.t.now c.line-first.ensures c.opens.ensures c.if-opens.false c.opens-2.ensures c.if-opens-2.false
