-- `reader::items` meets its contract: one law at each way out. Assumes nothing.
use mathlib.Core.Path.{sym, ap, ◌∙◌}
use native.Mathlib.Omega.{arith}
use lib.ListN.{length}
use Rattle.std.proofs.lemmas.Result.{err_from_is_err_and}
use Rattle.codec.specs.Field.{flags}
use Rattle.papers.specs.Papers.{items_of}
use Rattle.spots.specs.Spots.{spot_of}
use Rattle.reader.specs.Places.{surveyed_by}
use Rattle.reader.specs.Laws.Fields.{spare_clear, spare_set, items_in_lem}
use Rattle.reader.specs.Laws.Closed.{closed_is, stopped_is}
use Rattle.reader.proofs.items.Goals as goal

pub row-requires : goal.row-requires
row-requires c = (c.requires.1, c.requires.0)

pub returns-in_err-row : goal.returns-in_err-row
returns-in_err-row c =
    let a = c.args in let xs = a.s.now in
    let p = err_from_is_err_and c.from_residual.result c.from_residual.ensures.1 in
    rw (p.1, p.2.0) (stopped_is (spot_of a.cat) (items_of a.cat) (flags a.ind) xs a.ind (length xs) (omega (arith, p.2.1)) c.in_err-row.ensures
    ∙ ap (surveyed_by (items_of a.cat) (length xs) a.ind) (sym (items_in_lem a.cat a.ind xs (spare_clear a.cat a.ind c.ranges.ind.fits c.spare_of.ensures c.if-ind-spare_of-eq0.true))))

pub returns-then-ind-spare_of-eq0 : goal.returns-then-ind-spare_of-eq0
returns-then-ind-spare_of-eq0 c =
    let a = c.args in let xs = a.s.now in
    c.closed.ensures.0 ∙ closed_is (spot_of a.cat) (items_of a.cat) (flags a.ind) xs a.ind (length xs) (omega (arith, c.closed.ensures.1)) c.in_ok-row.ensures
    ∙ ap (surveyed_by (items_of a.cat) (length xs) a.ind) (sym (items_in_lem a.cat a.ind xs (spare_clear a.cat a.ind c.ranges.ind.fits c.spare_of.ensures c.if-ind-spare_of-eq0.true)))

pub returns : goal.returns
returns c =
    let a = c.args in let xs = a.s.now in
    rw c.at.ensures (ap (surveyed_by (items_of a.cat) (length xs) a.ind) (sym (items_in_lem a.cat a.ind xs (spare_set a.cat a.ind c.ranges.ind.fits c.spare_of.ensures c.if-ind-spare_of-eq0.false))))
