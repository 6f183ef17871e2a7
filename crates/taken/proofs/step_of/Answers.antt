-- `taken::step_of` meets its contract: the lines with three are those that the papers' names have. Assumes nothing.
use mathlib.Core.Path.{refl}
use borrow.Author.Tests.{ne_eqb}
use Rattle.taken.specs.Laws.Tables.{step_is}
use Rattle.taken.proofs.step_of.Goals as goal

pub returns-in-3 : goal.returns-in-3
returns-in-3 c = rw (step_is c.args.b, c.in-3.is) refl

pub returns-in-12 : goal.returns-in-12
returns-in-12 c = rw (step_is c.args.b, c.in-12.is) refl

pub returns-in-25 : goal.returns-in-25
returns-in-25 c = rw (step_is c.args.b, c.in-25.is) refl

pub returns-in_default : goal.returns-in_default
returns-in_default c =
    let b = c.args.b in
    let r = c.in_default.in_default-own.rest in
    rw (step_is b, ne_eqb b 3 r.0.0.1, ne_eqb b 12 r.0.1, ne_eqb b 25 r.1) refl
