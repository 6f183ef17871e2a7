-- `sheet::place` meets its contract. Assumes nothing.
use mathlib.Core.Path.{ap, ◌∙◌}
use Rattle.spots.specs.declared.Spot.{Spot}
use Rattle.sheet.specs.Laws.Rows.{place_there, place_not}
use Rattle.sheet.proofs.place.Goals as goal

pub returns-then-there : goal.returns-then-there
returns-then-there c =
    let a = c.args in
    place_there a.k a.count a.numbers.now c.if-there.true c.requires.0 c.requires.1
    (c.from-then-there-2.ensures ∙ ap (λ (x : Spot). x.0) c.spot_at-spot.ensures) (c.from-then-there.ensures ∙ ap (λ (x : Spot). x.1) c.spot_at-spot.ensures) c.from.ensures c.named.ensures

pub returns-else-there : goal.returns-else-there
returns-else-there c = let a = c.args in place_not a.k a.count a.numbers.now c.if-there.false _ _
