-- `reader::places::only` meets its contract: one law at each way out. Assumes nothing.
use mathlib.Core.Path.{◌∙◌}
use native.Mathlib.Omega.{arith}
use Rattle.reader.specs.Laws.Onward.{only_stops, only_over, only_ends}
use Rattle.reader.specs.Laws.Seen.{handed, err_big}
use Rattle.reader.proofs.places.only.Goals as goal

pub returns-in_err-n : goal.returns-in_err-n
returns-in_err-n g c =
    let a = c.args in
    handed c.from_residual.result c.in_err-n.field-0.0 c.from_residual.ensures.1 (only_stops g.row.B a.s.now a.at c.requires.1 c.in_err-n.ensures (err_big c.in_err-n.field-0.0))

pub returns-then-present : goal.returns-then-present
returns-then-present g c =
    let a = c.args in
    only_over g.row.B a.s.now a.at c.requires.1 c.in_ok-n.ensures (omega (arith, c.ranges.at.fits)) (c.present.ensures ∙ c.before-2.ensures) c.if-present.true (omega (arith, c.ranges.at.fits))

pub returns : goal.returns
returns g c =
    let a = c.args in
    only_ends g.row.B a.s.now a.at c.requires.1 c.in_ok-n.ensures (omega (arith, c.ranges.at.fits)) (c.present.ensures ∙ c.before-2.ensures) c.if-present.false
