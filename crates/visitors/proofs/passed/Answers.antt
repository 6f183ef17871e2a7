-- `visitors::passed` meets its contract where the desk takes the item away. Assumes nothing.
use Rattle.visitors.specs.Laws.Passing.{passed_gone}
use Rattle.visitors.proofs.passed.Goals as goal

pub returns-then-present-2 : goal.returns-then-present-2
returns-then-present-2 c =
    let a = c.args in
    passed_gone a.cat a.kept a.withheld a.item c.index-i.ensures c.present.ensures c.if-present.true c.present-then-present.ensures c.if-present-2.true c.remove.ensures
