-- `views::choose` meets its contract: what is shown lies in the field that is named. Assumes nothing.
use mathlib.Core.Path.{◌∙◌}
use native.Mathlib.Omega.{arith}
use Rattle.codec.proofs.Laws.Codec.{octets_all}
use Rattle.views.specs.Laws.Choosing.{base_within, correction_within, part_neither, part_base, part_correction}
use Rattle.views.specs.Laws.Parts.{at_neither, at_base, at_correction}
use Rattle.views.proofs.choose.Goals as goal

pub part-requires : goal.part-requires
part-requires c =
    let a = c.args in
    base_within a.cat a.base.now a.correction.now a.item c.choose_answer-c.ensures (octets_all a.base.now (λ i. omega (arith, c.type_inv.base i))) c.in-Base.is

pub part-requires-in-Correction : goal.part-requires-in-Correction
part-requires-in-Correction c =
    let a = c.args in
    correction_within a.cat a.base.now a.correction.now a.item c.choose_answer-c.ensures (octets_all a.correction.now (λ i. omega (arith, c.type_inv.correction i))) c.in-Correction.is

pub returns-in-Neither : goal.returns-in-Neither
returns-in-Neither c =
    let a = c.args in record { result_value = part_neither a.cat a.base.now a.correction.now a.item c.choose_answer-c.ensures c.in-Neither.is; ref_ptr_value = at_neither a.base.ref_ptr a.correction.ref_ptr c.choose_answer-c.ensures c.in-Neither.is }

pub returns-in-Base : goal.returns-in-Base
returns-in-Base c =
    let a = c.args in
    let p = c.part.ensures in record { result_value = p.0 ∙ part_base a.cat a.base.now a.correction.now a.item c.choose_answer-c.ensures c.in-Base.is; ref_ptr_value = p.1 ∙ at_base a.base.ref_ptr a.correction.ref_ptr c.choose_answer-c.ensures c.in-Base.is }

pub returns-in-Correction : goal.returns-in-Correction
returns-in-Correction c =
    let a = c.args in
    let p = c.part-in-Correction.ensures in record { result_value = p.0 ∙ part_correction a.cat a.base.now a.correction.now a.item c.choose_answer-c.ensures c.in-Correction.is; ref_ptr_value = p.1 ∙ at_correction a.base.ref_ptr a.correction.ref_ptr c.choose_answer-c.ensures c.in-Correction.is }
