-- `reader::taking::further` meets its contract: the line is taken where FX of the part before says so. Assumes nothing.
use mathlib.Core.Path.{subst}
use Prim.Native.Nat.{◌+◌, ◌≤◌}
use native.Mathlib.Omega.{arith}
use borrow.Author.Tests.{eq-eqb, ne_eqb}
use lib.ListN.{length}
use Rattle.codec.specs.Pick.{pick}
use Rattle.lengths.specs.Lines.{line_at, first_at}
use Rattle.reader.specs.Laws.Taking.{opt_there, opt_absent, stops_on, stops_room}
use Rattle.reader.proofs.taking.further.Goals as goal

pub take-requires : goal.take-requires
take-requires c =
    let a = c.args in
    let g = subst (λ t. a.a + pick t (line_at a.b).octets 0 ≤ length a.s.now) (eq-eqb _ 1 c.if-s-a-eq1.true) (stops_room a.s.now a.a c.requires.2 c.requires.1) in
    (omega (arith, g), c.requires.0)

pub returns-then-s-a-eq1 : goal.returns-then-s-a-eq1
returns-then-s-a-eq1 c =
    let a = c.args in
    let o = opt_there a.numbers.now (omega arith) (a.base + first_at a.b) a.b a.s.now a.a (eq-eqb _ 1 c.if-s-a-eq1.true) c.take.ensures in
    record { taken = o; stops = stops_on a.s.now a.a c.requires.2 c.requires.1 o.at_next }

pub returns : goal.returns
returns c =
    let a = c.args in
    record { taken = opt_absent a.numbers.now (omega arith) (a.base + first_at a.b) a.b a.s.now a.a (ne_eqb _ 1 c.if-s-a-eq1.false); stops = c.requires.2 }
