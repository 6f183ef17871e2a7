-- `replies::left` meets its contract: one law at each way out. Assumes nothing.
use Rattle.replies.specs.Texts.{next_octets}
use mathlib.Core.Path.{ap}
use Rattle.replies.specs.Told.{told_answer}
use Rattle.replies.specs.Laws.Typed.{left_ok, left_refused}
use Rattle.replies.proofs.left.Goals as goal

pub returns-in-Ok : goal.returns-in-Ok
unfolding next_octets
returns-in-Ok c =
    left_ok (ap told_answer c.in-Ok.is) c.args.out.now c.front.ensures c.ok.ensures c.next.ensures

pub returns-in-Err : goal.returns-in-Err
returns-in-Err c =
    left_refused (ap told_answer c.in-Err.is) c.args.out.now c.refusal.ensures
