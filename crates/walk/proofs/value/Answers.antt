-- What stands behind the first `=` of the first line.
use Rattle.std.proofs.Common.{ap, ◌∙◌}
use Rattle.guess.specs.Lines.{behind_octet}
use Rattle.guess.specs.Guess.{value_in}
use Rattle.walk.proofs.value.Goals as goal

pub returns : goal.returns
unfolding value_in
returns c = c.behind.ensures ∙ ap (behind_octet 61) c.line.ensures
