-- `desk::allowed` meets its contract: one law at each way out. Assumes nothing.
use mathlib.Core.Path.{refl, sym, ap, ◌∙◌}
use native.Mathlib.Omega.{arith}
use Prim.Native.Nat.{ℕ}
use Rattle.std.proofs.lemmas.Result.{err_from_is_err_and}
use Rattle.layout.specs.Answer.{survey_by_number}
use Rattle.layout.specs.Laws.Answer.{reason_some}
use Rattle.desk.specs.Laws.Edits.{emptied_refused, emptied_yes, emptied_no}
use Rattle.desk.proofs.allowed.Goals as goal

pub returns-in_default : goal.returns-in_default
returns-in_default c =
    let a = c.args in
    emptied_refused a.cat a.field.now a.list a.item c.survey-surveyed.ensures (ap (λ r. (survey_by_number r).answer) c.in_default.is)

pub returns-in_err-asked : goal.returns-in_err-asked
returns-in_err-asked c =
    let a = c.args in
    let p = err_from_is_err_and c.from_residual.result c.from_residual.ensures.1 in
    let no = reason_some c.in_err-asked.field-0.0.reason in
    let e = c.in_err-asked.ensures in
    rw (p.1, p.2, ap (λ (x : ℕ × ℕ). x.1) e)
    (emptied_no a.cat a.field.now a.list a.item (ap survey_by_number (sym c.in-Ok.is) ∙ c.survey-surveyed.ensures) refl (ap (λ (x : ℕ × ℕ). x.0) e) (λ z. omega (arith, no, z)))

pub returns : goal.returns
returns c =
    let a = c.args in
    emptied_yes a.cat a.field.now a.list a.item (ap survey_by_number (sym c.in-Ok.is) ∙ c.survey-surveyed.ensures) refl (ap (λ (x : ℕ × ℕ). x.0) c.in_ok-asked.ensures) refl
