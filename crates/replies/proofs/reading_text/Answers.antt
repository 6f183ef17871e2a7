-- `replies::reading_text` meets its contract: one law at each way out. Assumes nothing.
use Rattle.replies.specs.Texts.{next}
use mathlib.Core.Path.{ap}
use Rattle.replies.specs.Told.{told_answer, told_reading}
use Rattle.replies.specs.Laws.Typed.{read_ok, read_refused}
use Rattle.replies.proofs.reading_text.Goals as goal

pub returns-in-Ok : goal.returns-in-Ok
unfolding next
returns-in-Ok c =
    let a = c.args in
    read_ok (told_reading a.answer a.kept.now) (ap told_answer c.in-Ok.is) c.ok.ensures c.next.ensures c.record_text.ensures

pub returns-in-Err : goal.returns-in-Err
returns-in-Err c =
    let a = c.args in
    read_refused (told_reading a.answer a.kept.now) (ap told_answer c.in-Err.is) c.refusal.ensures
