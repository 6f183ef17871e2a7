-- `replies::choice_text` meets its contract: one law at each way out. Assumes nothing.
use Rattle.replies.specs.Texts.{next}
use mathlib.Core.Path.{ap}
use Rattle.replies.specs.Told.{told_view, told_choice}
use Rattle.replies.specs.Laws.Typed.{choice_ok, choice_refused}
use Rattle.replies.proofs.choice_text.Goals as goal

pub returns-in-Ok : goal.returns-in-Ok
unfolding next
returns-in-Ok c =
    let a = c.args in
    choice_ok (told_choice a.which a.view) a.part.now c.from-number.ensures (ap told_view c.in-Ok.is) c.ok.ensures c.next.ensures c.shown.ensures

pub returns-in-Err : goal.returns-in-Err
unfolding next
returns-in-Err c =
    let a = c.args in
    choice_refused (told_choice a.which a.view) a.part.now c.from-number.ensures (ap told_view c.in-Err.is) c.refusal.ensures c.next-in-Err.ensures
