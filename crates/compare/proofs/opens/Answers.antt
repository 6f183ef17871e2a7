use Rattle.std.proofs.Common.{◌∙◌}
use Rattle.compare.specs.Laws.Compared.{begins_is}
use Rattle.compare.proofs.opens.Goals as goal

pub returns : goal.returns
returns c = c.starts_with.ensures.value ∙ begins_is _ _
