-- `unlisting::main` is safe: what is written lies within its array. Assumes nothing.
use Rattle.std.proofs.Common.{sym, ap, arith, length-take-le}
use Rattle.std.proofs.Math.Facts.{Fits-of_lt}
use Rattle.layout.specs.Answer.{length_of}
use Rattle.unlisting.proofs.main.Goals as goal

pub overflow_add-output : goal.overflow_add-output
unfolding length_of
overflow_add-output c = let u = c.in-Ok-unlisted.ensures in Fits-of_lt (omega (arith, u.few))

pub slice_bounds-output-end : goal.slice_bounds-output-end
unfolding length_of
slice_bounds-output-end c = let u = c.in-Ok-unlisted.ensures in omega (arith, u.within)

pub slice_bounds-write_all-end : goal.slice_bounds-write_all-end
unfolding length_of
slice_bounds-write_all-end c = let u = c.in-Ok-unlisted.ensures in sym (length-take-le _ _ (omega (arith, u.within)))
