-- `reader::places::second` meets its contract. Assumes nothing.
use mathlib.Core.Path.{refl, ap, ◌∙◌}
use Prim.Native.Nat.{◌+◌}
use lib.ListN.{get_or}
use borrow.Author.Tests.{eq-eqb, ne_eqb}
use Rattle.reader.proofs.places.second.Goals as goal

pub returns-then-f-eq1 : goal.returns-then-f-eq1
returns-then-f-eq1 c = rw (eq-eqb _ 1 c.if-f-eq1.true) (c.octet_at.ensures ∙ ap (λ i. get_or c.args.s.now (i + 1) 0) c.from.ensures)

pub returns : goal.returns
returns c = rw (ne_eqb _ 1 c.if-f-eq1.false) refl
