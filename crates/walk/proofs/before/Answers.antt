-- What stands before the octet ends at its place.
use Rattle.std.proofs.Common.{take, sym, ap, ◌∙◌, arith, length-take-le}
use Rattle.walk.specs.Laws.Lines.{place_within, before_is}
use Rattle.walk.proofs.before.Goals as goal

pub slice_bounds-result-end : goal.slice_bounds-result-end
slice_bounds-result-end c = let a = c.args in sym (length-take-le c.find.result a.s.now (omega (arith, place_within a.x a.s.now)))

pub returns : goal.returns
returns c = let a = c.args in ap (λ n. take n a.s.now) c.find.ensures ∙ before_is a.x a.s.now
