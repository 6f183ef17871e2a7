-- `text::Text::digits` meets its contract: one law at each way out. Assumes nothing.
use Rattle.text.specs.Laws.Typing.{digits_none, digits_one, digits_more}
use Rattle.text.proofs.Text.+digits.Goals.{then-n-ge10, else-n-ge10}
use Rattle.text.proofs.Text.+digits.Goals as goal

pub returns-then-most-eq0 : goal.returns-then-most-eq0
returns-then-most-eq0 t c = digits_none c.args.most c.args.n c.if-most-eq0.true _ _

pub returns : goal.returns
returns t c =
    let a = c.args in
    let some = c.if-most-eq0.false in
    elim c.if-n-ge10.branch [
      | then-n-ge10 w ↦ digits_more a.most a.n some c.digit.ensures w.if-n-ge10.true w.digits.ensures (rw w.self-is at c.octet.ensures)
      | else-n-ge10 w ↦ digits_one a.most a.n some c.digit.ensures w.if-n-ge10.false (rw w.self-is at c.octet.ensures)
    ]
