-- `replies::view_text` meets its contract: one law at each way out. Assumes nothing.
use mathlib.Core.Path.{ap}
use Rattle.replies.specs.Told.{told_view}
use Rattle.replies.specs.Laws.Typed.{view_ok, view_refused}
use Rattle.replies.proofs.view_text.Goals as goal

pub returns-in-Ok : goal.returns-in-Ok
returns-in-Ok c =
    view_ok (ap told_view c.in-Ok.is) c.args.part.now c.ok.ensures c.shown.ensures

pub returns-in-Err : goal.returns-in-Err
returns-in-Err c =
    view_refused (ap told_view c.in-Err.is) c.args.part.now c.refusal.ensures
