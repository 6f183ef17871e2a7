-- `sheet::listed` meets its contract: one law at each way out. Assumes nothing.
use mathlib.Core.Path.{ap}
use native.Mathlib.Omega.{arith}
use Rattle.codec.proofs.Laws.Codec.{octets_all}
use Rattle.layout.specs.Answer.{by_number}
use Rattle.sheet.specs.Laws.Whole.{read_asks, sheet_accepted, sheet_refused}
use Rattle.sheet.proofs.listed.Goals as goal

pub accepted-requires : goal.accepted-requires
accepted-requires c =
    let a = c.args in
    read_asks a.cat a.field.now (octets_all a.field.now (λ i. omega (arith, c.type_inv.field i))) c.read-reading.ensures _ (ap by_number c.in-Ok.is)

pub returns-in-Ok : goal.returns-in-Ok
returns-in-Ok c =
    let a = c.args in
    sheet_accepted a.cat a.field.now (octets_all a.field.now (λ i. omega (arith, c.type_inv.field i))) c.read-reading.ensures _ (ap by_number c.in-Ok.is) c.pair.ensures c.accepted.ensures

pub returns-in-Err : goal.returns-in-Err
returns-in-Err c =
    let a = c.args in
    sheet_refused a.cat a.field.now (octets_all a.field.now (λ i. omega (arith, c.type_inv.field i))) c.read-reading.ensures _ _ (ap by_number c.in-Err.is) c.pair.ensures c.refusal.ensures
