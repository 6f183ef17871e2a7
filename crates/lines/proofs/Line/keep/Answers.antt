-- `Line::keep` meets its contract: one law at each way out. Assumes nothing.
use Rattle.lines.specs.Laws.Joining.{keep_there, keep_full}
use Rattle.lines.proofs.Line.keep.Goals as goal

pub returns-then-self-clause-kept : goal.returns-then-self-clause-kept
returns-then-self-clause-kept c = let l = c.args.self.now in keep_there l.octets.now l.held c.args.o c.if-self.true

pub returns-else-self-clause-kept : goal.returns-else-self-clause-kept
returns-else-self-clause-kept c = let l = c.args.self.now in keep_full l.octets.now l.held c.args.o c.if-self.false
