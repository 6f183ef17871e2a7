-- `reader::places::line` meets its contract: one law at each way out. Assumes nothing.
use native.Mathlib.Omega.{arith}
use Rattle.reader.specs.Laws.Seen.{went_absent, went_there}
use Rattle.reader.proofs.places.line.Goals as goal

pub returns-then-present : goal.returns-then-present
returns-then-present g c = went_there (omega (arith, c.ranges.a.fits)) c.present.ensures c.if-present.true c.seen.ensures

pub returns : goal.returns
returns g c = went_absent (omega (arith, c.ranges.a.fits)) c.present.ensures c.if-present.false
