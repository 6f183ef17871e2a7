-- `writer::lines::Laying::place` meets its contract. Assumes nothing.
use mathlib.Core.Path.{ap, ◌∙◌}
use Rattle.spots.specs.declared.Spot.{Spot}
use Rattle.writer.specs.Laws.Rows.{place_there, place_not}
use Rattle.writer.proofs.lines.Laying.place.Goals as goal

pub returns-then-there : goal.returns-then-there
returns-then-there c =
    let a = c.args in
    place_there a.k a.count a.numbers.now c.if-there.true c.requires
    (c.wide.ensures.0 ∙ ap (λ (x : Spot). x.0) c.spot_at-found.ensures) (ap (λ (x : Spot). x.1) c.spot_at-found.ensures) c.item.ensures

pub returns-else-there : goal.returns-else-there
returns-else-there c = let a = c.args in place_not a.k a.count a.numbers.now c.if-there.false a.self.now.octets a.self.now.at
