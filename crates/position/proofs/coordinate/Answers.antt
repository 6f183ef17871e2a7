-- `position::coordinate` meets its contract: three lines, one behind the other. Assumes nothing.
use mathlib.Core.Path.{◌≡◌}
use mathlib.Core.List.{◌++◌}
use borrow.Author.Rules.{rules}
use mir.Syntax.{w64}
use mir.Val.{to_z, of_z}
use mir.Facts.{to_z-of_z}
use Rattle.papers.specs.Names.{text}
use Rattle.scope.specs.Sheet.{signed_decimal}
use Rattle.text.specs.Laws.Typing.{types_behind, types_key}
use Rattle.position.proofs.coordinate.Goals as goal

pub returns : goal.returns
returns c =
    let a = c.args in
    let key = a.name.now ++ a.more.now in
    let udeg : to_z w64 (of_z w64 a.exact.udeg) ≡ a.exact.udeg = search rules in
    let left : to_z w64 (of_z w64 a.exact.left) ≡ a.exact.left = search rules in
    types_behind (types_key a.name.now a.more.now (signed_decimal a.n) c.word.ensures (rw (to_z-of_z c.ranges.n) at c.pair.ensures))
    (types_behind (types_key key (text ".udeg") (signed_decimal a.exact.udeg) (types_behind c.word-2.ensures c.word-3.ensures) (rw udeg at c.pair-2.ensures))
    (types_key key (text ".left") (signed_decimal a.exact.left) (types_behind c.word-4.ensures c.word-5.ensures) (rw left at c.pair-3.ensures)))
