-- `sheet::refusal` meets its contract. Assumes nothing.
use Rattle.layout.specs.Answer.{reason_number}
use Rattle.sheet.specs.Laws.Whole.{refusal_typed}
use Rattle.sheet.proofs.refusal.Goals as goal

pub returns : goal.returns
returns c = let r = c.args.refused in refusal_typed (reason_number r.reason) r.place (rw c.from.ensures at c.pair.ensures) c.pair-2.ensures
