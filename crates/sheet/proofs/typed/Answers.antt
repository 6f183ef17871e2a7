-- `sheet::typed` meets its contract where there is no octet. Assumes nothing.
use Rattle.sheet.specs.Laws.Whole.{sheet_empty}
use Rattle.sheet.proofs.typed.Goals as goal

pub returns-in_default : goal.returns-in_default
returns-in_default c = sheet_empty c.args.input.now c.in_default.ensures.cases c.word.ensures (rw c.at.ensures at c.refusal.ensures)
