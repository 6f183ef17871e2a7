-- The array holds a field without those of the items passed that are withheld.
use Rattle.std.proofs.Common.{◌+◌, ◌-◌, ◌≤◌}
use Rattle.papers.specs.Papers.{paper_of}
use Rattle.scope.specs.Visitors.{without}
use Rattle.scope.proofs.Laws.Reading.{Read}
use Rattle.visitors.specs.Laws.Passing.{InFront}
use Rattle.visitors.proofs.copy.Given as goal

abbrev pub invariant-loop-item : goal.invariant-loop-item
invariant-loop-item l = (l.item ≤ l.items + 1) × ((r : Read l.cat l.field l.len) → InFront l.cat (without (paper_of l.cat) l.withheld (l.item - 1) r.what) l.kept)
