-- `reader::taking::subfield` meets its contract: the line is taken where its flag says so. Assumes nothing.
use mathlib.Core.Path.{sym, ◌∙◌, subst}
use Prim.Native.Nat.{◌+◌, ◌≤◌}
use native.Mathlib.Omega.{arith}
use lib.ListN.{length}
use Rattle.codec.specs.Pick.{pick}
use Rattle.lengths.specs.Lines.{line_at, first_at}
use Rattle.reader.specs.Laws.Taking.{opt_there, opt_absent}
use Rattle.reader.proofs.taking.subfield.Goals as goal

pub take-requires : goal.take-requires
take-requires c =
    let a = c.args in
    let g = subst (λ t. a.a + pick t (line_at a.b).octets 0 ≤ length a.s.now) (sym c.present.ensures ∙ c.if-present.true) c.requires.1 in
    (omega (arith, g), c.requires.0)

pub returns-then-present : goal.returns-then-present
returns-then-present c =
    let a = c.args in
    opt_there a.numbers.now (omega arith) (a.base + first_at a.b) a.b a.s.now a.a (sym c.present.ensures ∙ c.if-present.true) c.take.ensures

pub returns : goal.returns
returns c =
    let a = c.args in
    opt_absent a.numbers.now (omega arith) (a.base + first_at a.b) a.b a.s.now a.a (sym c.present.ensures ∙ c.if-present.false)
