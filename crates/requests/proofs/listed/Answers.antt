-- `requests::listed` meets its contract: a text holds every sheet. Assumes nothing.
use mathlib.Core.Path.{sym, ap, ◌∙◌}
use native.Mathlib.Omega.{arith}
use Rattle.codec.proofs.Laws.Codec.{octets_cons, octets_all}
use Rattle.layout.specs.Answer.{Reading, by_number}
use Rattle.sheet.specs.Laws.Whole.{sheet_held}
use Rattle.requests.specs.Laws.Requests.{listed_lines_lem, listed_refused}
use Rattle.requests.proofs.listed.Goals as goal

pub returns-in-Ok : goal.returns-in-Ok
returns-in-Ok c =
    let f = c.args.field.now in
    listed_lines_lem _ (ap (λ (x : Reading). x.answer) (sym c.read-reading.ensures) ∙ ap by_number c.in-Ok.is)
    (sheet_held _ (octets_cons c.args.cat f (omega (arith, c.ranges.cat)) (octets_all f (λ i. omega (arith, c.type_inv.field i)))) c.new-sheet.ensures c.listed.ensures c.as_slice.ensures)
    c.sheet_text.ensures

pub returns-in-Err : goal.returns-in-Err
returns-in-Err c =
    listed_refused _ (ap (λ (x : Reading). x.answer) (sym c.read-reading.ensures) ∙ ap by_number c.in-Err.is) (rw c.from.ensures at c.refusal.ensures)
