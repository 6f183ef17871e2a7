-- `views::chosen` meets its contract: one law at each way out. Assumes nothing.
use mathlib.Core.Path.{ap}
use Rattle.layout.specs.Answer.{view_by_number}
use Rattle.views.specs.Laws.Choosing.{chosen_correction, chosen_base, chosen_neither}
use Rattle.views.proofs.chosen.Goals as goal

pub returns-in-Ok : goal.returns-in-Ok
returns-in-Ok c = chosen_correction (view_by_number c.args.base) (view_by_number c.args.correction) (ap view_by_number c.in-Ok.is)

pub returns-in-Ok-base : goal.returns-in-Ok-base
returns-in-Ok-base c = chosen_base (view_by_number c.args.base) (view_by_number c.args.correction) (ap view_by_number c.in_default.is) (ap view_by_number c.in-Ok-base.is)

pub returns : goal.returns
returns c = chosen_neither (view_by_number c.args.base) (view_by_number c.args.correction) (ap view_by_number c.in_default.is) (ap view_by_number c.in_default-base.is)
