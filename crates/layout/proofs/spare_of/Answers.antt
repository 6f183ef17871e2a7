-- `layout::spare_of` meets its contract, by the indicator that each paper prints. Assumes nothing.
use mathlib.Core.Path.{refl}
use borrow.Author.Rules.{rules}
use borrow.Author.Tests.{ne_eqb}
use Rattle.codec.specs.Mask.{spares_of}
use Rattle.papers.specs.Papers.{indicator_of}
use Rattle.layout.proofs.spare_of.Goals as goal

pub returns-in-48 : goal.returns-in-48
unfolding spares_of indicator_of
returns-in-48 c = rw c.in-48.is refl

pub returns-in-21 : goal.returns-in-21
unfolding spares_of indicator_of
returns-in-21 c = rw c.in-21.is refl

pub returns-in-7 : goal.returns-in-7
unfolding spares_of indicator_of
returns-in-7 c = rw c.in-7.is refl

pub returns-in_default : goal.returns-in_default
unfolding spares_of indicator_of
returns-in_default c =
    let cat = c.args.cat in
    rw (ne_eqb cat 48 (search rules), ne_eqb cat 21 (search rules), ne_eqb cat 7 (search rules)) refl
