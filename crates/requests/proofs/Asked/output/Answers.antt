-- `requests::Asked::output` meets its contract: no more room is asked than there is. Assumes nothing.
use native.Mathlib.Omega.{arith}
use Rattle.words.specs.Laws.Numbers.{value_most}
use Rattle.requests.proofs.Asked.output.Goals as goal

pub slice_bounds-result-end : goal.slice_bounds-result-end
slice_bounds-result-end c = omega (arith, c.room-n.ensures, value_most 300 c.word.result.now)
