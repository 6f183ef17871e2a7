-- `writer::goes_on` meets its contract. Assumes nothing.
use Rattle.writer.specs.Laws.Chains.{goes_not, goes_by}
use Rattle.writer.proofs.goes_on.Goals as goal

pub returns-then-left-eq0 : goal.returns-then-left-eq0
returns-then-left-eq0 c = goes_not c.args.count c.args.left c.if-left-eq0.true

pub returns : goal.returns
returns c = goes_by c.args.count c.args.left c.if-left-eq0.false
