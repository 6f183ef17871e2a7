-- `views::view` meets its contract: what is shown lies in the field. Assumes nothing.
use mathlib.Core.Path.{sym, ap, ◌∙◌}
use native.Mathlib.Omega.{arith}
use Rattle.scope.specs.Views.{part_of}
use Rattle.codec.proofs.Laws.Codec.{octets_all}
use Rattle.views.specs.Laws.Surveyed.{view_within}
use Rattle.views.specs.Parts.{part_at}
use Rattle.views.proofs.view.Goals as goal

pub part-requires : goal.part-requires
part-requires c =
    let a = c.args in
    λ from m e.
    view_within a.cat a.field.now (octets_all a.field.now (λ i. omega (arith, c.type_inv.field i))) a.item from m (sym c.view_answer-v.ensures ∙ e)

pub returns : goal.returns
returns c =
    let a = c.args in
    let p = c.part.ensures in
    record { result_value = p.0 ∙ ap (part_of a.field.now) c.view_answer-v.ensures; ref_ptr_value = p.1 ∙ ap (part_at a.field.ref_ptr) c.view_answer-v.ensures }
