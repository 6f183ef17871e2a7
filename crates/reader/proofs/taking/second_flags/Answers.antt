-- `reader::taking::second_flags` meets its contract. Assumes nothing.
use borrow.Author.Tests.{lt-ltb, le-ltb}
use Rattle.reader.proofs.taking.second_flags.Goals as goal

pub returns-then-from-to : goal.returns-then-from-to
returns-then-from-to c = simp (lt-ltb _ _ c.if-from-to.true)

pub returns : goal.returns
returns c = simp (le-ltb _ _ c.if-from-to.false)
