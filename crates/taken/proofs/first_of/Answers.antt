-- `taken::first_of` meets its contract. Assumes nothing.
use mathlib.Core.Path.{ap}
use Rattle.lengths.specs.declared.Format.{Format}
use Rattle.taken.proofs.first_of.Goals as goal

pub returns : goal.returns
returns c = ap (λ (r : Format). r.first) c.format_of.ensures
