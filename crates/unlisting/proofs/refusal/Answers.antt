-- `unlisting::refusal` meets its contract. Assumes nothing.
use Rattle.layout.specs.Answer.{reason_number}
use Rattle.unlisting.specs.Laws.Unlists.{two_lines}
use Rattle.unlisting.proofs.refusal.Goals as goal

pub returns : goal.returns
returns c = let r = c.args.refused in two_lines (reason_number r.reason) r.place (rw c.from.ensures at c.pair.ensures) c.pair-2.ensures
