-- `sheet::accepted` meets its contract: the lines stand one behind the other. Assumes nothing.
use native.Mathlib.Omega.{arith}
use Rattle.spots.specs.Laws.Spots.{row-asks}
use Rattle.sheet.specs.Laws.Whole.{record_typed}
use Rattle.sheet.proofs.accepted.Goals as goal

pub names-requires : goal.names-requires
names-requires c =
    let q = row-asks c.args.kept.now.cat c.requires.0 c.spot_of-first.ensures c.items_of-n.ensures in
    (q.0, omega (arith, q.1))

pub row-requires : goal.row-requires
row-requires c =
    let q = row-asks c.args.kept.now.cat c.requires.0 c.spot_of-first.ensures c.items_of-n.ensures in
    (q.0, omega (arith, q.1), q.2, c.requires.1)

pub returns : goal.returns
returns c =
    let a = c.args in
    record_typed a.kept.now a.len c.requires.0 c.spot_of-first.ensures c.items_of-n.ensures c.pair.ensures c.word.ensures c.names.ensures c.line_end.ensures c.row.ensures c.word-2.ensures
