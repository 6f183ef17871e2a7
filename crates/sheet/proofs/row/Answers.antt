-- `sheet::row` meets its contract: each item at its spot, and the rest of the row behind it. Assumes nothing.
use Rattle.text.specs.Laws.Typing.{types_as}
use Rattle.sheet.specs.Laws.Rows.{row_begins, row_ends, row_okay_on, row_next}
use Rattle.sheet.proofs.row.Goals as goal

pub place-requires : goal.place-requires
place-requires c =
    let a = c.args in
    ((row_okay_on a.kept.now a.first a.n c.loop-i.i c.loop-i-test.true c.loop-i.invariant.0).0, c.requires.3)

pub loop-i-preserved : goal.loop-i-preserved
loop-i-preserved c =
    let a = c.args in
    let l = c.loop-i in (
      (row_okay_on a.kept.now a.first a.n l.i c.loop-i-test.true l.invariant.0).1,
      λ v r.
          l.invariant.1 v (row_next a.kept.now a.first a.n l.i c.loop-i-test.true l.invariant.0 c.present-there.ensures c.place.ensures r),
    )

pub returns : goal.returns
returns c =
    let a = c.args in
    let l = c.loop-i in
    types_as (row_begins a.kept.now a.first a.n) (l.invariant.1 l.sheet (row_ends a.kept.now a.first a.n l.i c.loop-i-test.false _ _))
