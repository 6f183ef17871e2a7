-- `taken::behind_parts` meets its contract. Assumes nothing.
use Rattle.taken.specs.Laws.Items.{behind_few, behind_told}
use Rattle.taken.proofs.behind_parts.Goals as goal

pub returns-then-most-lt2 : goal.returns-then-most-lt2
returns-then-most-lt2 c = let a = c.args in behind_few a.most a.t.now c.if-most-lt2.true

pub returns : goal.returns
returns c = let a = c.args in behind_told a.most a.t.now c.if-most-lt2.false c.next.ensures
