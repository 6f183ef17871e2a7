-- What stands behind the octet's place, without the octet.
use Rattle.std.proofs.Common.{drop, ap, ◌∙◌}
use Rattle.walk.specs.Laws.Lines.{behind_is}
use Rattle.walk.proofs.behind.Goals as goal

pub returns : goal.returns
returns c =
    let a = c.args in
    c.past-2.ensures ∙ ap (drop 1) (c.past.ensures ∙ ap (λ n. drop n a.s.now) c.find.ensures) ∙ behind_is a.x a.s.now
