-- `taken::passed` meets its contract. Assumes nothing.
use native.Mathlib.Omega.{arith}
use Rattle.lengths.specs.Laws.Lines.{few_line_slots}
use Rattle.taken.proofs.passed.Goals as goal

pub line-requires : goal.line-requires
line-requires c = omega (arith, few_line_slots c.args.b)
