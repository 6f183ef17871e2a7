-- `reader::taking::line` meets its contract: the line is taken where it is there. Assumes nothing.
use mathlib.Core.Path.{◌≡◌, refl, ap}
use Prim.Native.Nat.{◌+◌}
use native.Mathlib.Omega.{arith}
use Rattle.lengths.specs.Lines.{first_at}
use Rattle.reader.specs.Laws.Taking.{line_within, line_item, line_absent}
use Rattle.reader.specs.Taking.{is_there, place}
use Rattle.reader.proofs.taking.line.Goals as goal

pub take-requires : goal.take-requires
take-requires c =
    let a = c.args in
    (line_within a.b a.s.now c.in-Some.at refl (rw c.in-Some.is at c.requires.3), omega (arith, c.requires))

pub returns : goal.returns
returns c =
    let a = c.args in
    let z : a.base + first_at a.b ≡ a.base = omega (arith, c.requires.1) in
    rw c.in-Some.is (line_item a.b a.s.now c.in-Some.at refl c.requires.0 z c.take.ensures)

pub returns-in_default : goal.returns-in_default
returns-in_default c = let a = c.args in line_absent a.b a.s.now (place a.start) (ap is_there c.in_default.is) a.numbers.now a.base
