-- `reader::read` meets its contract: one law at each way out. Assumes nothing.
use mathlib.Core.Path.{ap}
use native.Mathlib.Omega.{arith}
use Rattle.layout.specs.Answer.{by_number}
use Rattle.reader.specs.Laws.Records.{two_there, read_refused, read_accepted}
use Rattle.reader.proofs.read.Goals as goal

pub returns-in_default : goal.returns-in_default
returns-in_default c = read_refused c.args.cat c.args.field.now c.read_into-answer.ensures (ap by_number c.in_default.is)

pub bounds-field-1 : goal.bounds-field-1
bounds-field-1 c = omega (arith, two_there c.args.cat c.args.field.now c.read_into-answer.ensures (ap by_number c.in-Ok.is))

pub returns : goal.returns
returns c = read_accepted c.args.cat c.args.field.now c.read_into-answer.ensures (ap by_number c.in-Ok.is)
