-- `replies::rebuilt_text` meets its contract: one law at each way out. Assumes nothing.
use mathlib.Core.Path.{refl}
use Rattle.replies.specs.Texts.{next, next_octets}
use Rattle.replies.specs.Laws.Typed.{rebuilt_ok, rebuilt_refused}
use Rattle.replies.proofs.rebuilt_text.Goals as goal

pub returns-in-Ok : goal.returns-in-Ok
unfolding next next_octets
returns-in-Ok c =
    rw c.in-Ok.is (rebuilt_ok c.in-Ok.rebuilt.cat refl c.args.out.now c.front.ensures c.ok.ensures c.next.ensures c.next-in-Ok.ensures)

pub returns-in-Err : goal.returns-in-Err
returns-in-Err c = rw c.in-Err.is (rebuilt_refused 0 refl c.args.out.now c.refusal.ensures)
