-- `position::lines` meets its contract: each coordinate has its own angle behind it, and its own leftover. Assumes nothing.
use mathlib.Core.Path.{◌≡◌}
use borrow.Author.Rules.{rules}
use mir.Syntax.{w32}
use mir.Val.{to_z, of_z}
use Rattle.scope.specs.Sheet.{number_text}
use Rattle.text.specs.Laws.Typing.{types_behind}
use Rattle.position.proofs.lines.Goals as goal

pub returns : goal.returns
unfolding number_text
returns c =
    let p = c.args.p in
    let lat : to_z w32 (of_z w32 p.lat) ≡ p.lat = search rules in
    let lon : to_z w32 (of_z w32 p.lon) ≡ p.lon = search rules in
    types_behind
    (rw (c.exact-lat.ensures.0, c.exact-lat.ensures.1, lat) at c.coordinate.ensures)
    (rw (c.exact-lon.ensures.0, c.exact-lon.ensures.1, lon) at c.coordinate-2.ensures)
