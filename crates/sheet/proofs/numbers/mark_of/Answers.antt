-- `sheet::numbers::mark_of` meets its contract at the two octets that mean one number. Assumes nothing.
use mathlib.Core.Logic.{inl, inr}
use Rattle.sheet.specs.Keys.{mark_is}
use Rattle.sheet.specs.Laws.Marks.{mark_as, mark_alone}
use Rattle.sheet.proofs.numbers.mark_of.Goals as goal

pub returns-in-59 : goal.returns-in-59
unfolding mark_is
returns-in-59 c = elim c.in-59.is [ inl e ↦ mark_alone e | inr e ↦ mark_as 61 e tt ]
