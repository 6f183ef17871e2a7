-- `unlisting::unlisted` meets its contract: the category stands in front of the field. Assumes nothing.
use Rattle.std.proofs.lemmas.Result.{err_from_is_err_and}
use Rattle.unlisting.specs.Laws.Unlists.{unlists_given, unlists_refused}
use Rattle.unlisting.proofs.unlisted.Goals as goal

pub returns-in_err-rebuilt : goal.returns-in_err-rebuilt
returns-in_err-rebuilt c =
    let p = err_from_is_err_and c.from_residual.result c.from_residual.ensures.1 in
    rw (p.1, p.2) (unlists_refused c.args.text.now c.args.output.now c.requires c.in_err-rebuilt.ensures)

pub returns : goal.returns
returns c = unlists_given c.args.text.now c.args.output.now c.requires c.in_ok-rebuilt.ensures
