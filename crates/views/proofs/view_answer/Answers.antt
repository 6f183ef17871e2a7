-- `views::view_answer` meets its contract: one law at each way out. Assumes nothing.
use mathlib.Core.Path.{refl, ◌∙◌}
use Rattle.std.proofs.lemmas.Result.{err_from_is_err_and}
use Rattle.views.specs.Laws.Surveyed.{view_refused, view_rising, view_stands}
use Rattle.views.proofs.view_answer.Goals as goal

pub returns-in_err-found : goal.returns-in_err-found
returns-in_err-found c =
    let p = err_from_is_err_and c.from_residual.result c.from_residual.ensures.1 in
    rw (p.1, p.2) (view_refused c.args.cat c.args.field.now c.in_err-found.ensures c.args.item refl)

pub standing-requires : goal.standing-requires
standing-requires c = view_rising c.args.cat c.args.field.now c.in_ok-found.ensures refl

pub returns : goal.returns
returns c = c.standing.ensures ∙ view_stands c.args.cat c.args.field.now c.in_ok-found.ensures c.args.item refl
