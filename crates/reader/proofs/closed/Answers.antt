-- `reader::closed` meets its contract. Assumes nothing.
use mathlib.Core.Path.{refl, ◌∙◌, subst}
use Prim.Native.Nat.{◌<◌}
use native.Mathlib.Omega.{arith}
use borrow.Author.Tests.{eq-eqb, ne_eqb}
use Rattle.reader.specs.Places.{closed_of}
use Rattle.reader.proofs.closed.Goals as goal

pub returns-then-end-len : goal.returns-then-end-len
unfolding closed_of
returns-then-end-len c =
    let a = c.args in
    (rw (ne_eqb a.row.0 a.len (λ e. c.if-end-len.true (c.wide-end.ensures.0 ∙ e)), c.at.ensures, c.wide-end.ensures.0) refl, subst (◌< 256) c.wide-end.ensures.0 c.wide-end.ensures.1)

pub returns : goal.returns
unfolding closed_of
returns c =
    let a = c.args in
    (rw (eq-eqb a.row.0 a.len (omega (arith, c.wide-end.ensures.0, c.if-end-len.false)), c.wide-end.ensures.0) refl, subst (◌< 256) c.wide-end.ensures.0 c.wide-end.ensures.1)
