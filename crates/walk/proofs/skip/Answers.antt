-- From each line that the loop reaches the same is left.
use Rattle.std.proofs.Common.{sym, ◌∙◌, arith}
use Rattle.walk.specs.Laws.Lines.{skip_none, skip_more}
use Rattle.walk.proofs.skip.Goals as goal

pub loop-preserved : goal.loop-preserved
loop-preserved c = sym (skip_more _ _ _ (omega arith) c.next-rest.ensures) ∙ c.loop.invariant

pub returns : goal.returns
returns c = skip_none _ _ _ (omega arith) ∙ c.loop.invariant
