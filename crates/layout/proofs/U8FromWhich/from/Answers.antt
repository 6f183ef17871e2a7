-- `u8::from` of a field of a choice meets its contract. Assumes nothing.
use mathlib.Core.Path.{refl}
use Rattle.layout.specs.Answer.{which_number}
use Rattle.layout.proofs.U8FromWhich.from.Goals as goal

pub returns-in-Neither : goal.returns-in-Neither
unfolding which_number
returns-in-Neither c = rw c.in-Neither.is refl

pub returns-in-Base : goal.returns-in-Base
unfolding which_number
returns-in-Base c = rw c.in-Base.is refl

pub returns-in-Correction : goal.returns-in-Correction
unfolding which_number
returns-in-Correction c = rw c.in-Correction.is refl
