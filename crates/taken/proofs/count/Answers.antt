-- `taken::count` meets its contract. Assumes nothing.
use mathlib.Core.Path.{◌∙◌}
use native.Mathlib.Omega.{arith}
use Rattle.shapes.specs.Laws.Shapes.{shaped-well}
use Rattle.taken.specs.Laws.Items.{count_at}
use Rattle.taken.proofs.count.Goals as goal

pub parts-requires : goal.parts-requires
parts-requires c = omega (arith, (shaped-well c.args.k c.shape_at-shape.ensures).few)

pub returns : goal.returns
returns c =
    let a = c.args in
    c.octet.ensures ∙ count_at a.k c.shape_at-shape.ensures a.t.now c.parts.ensures
