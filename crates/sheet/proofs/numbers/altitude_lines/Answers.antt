-- `sheet::numbers::altitude_lines` meets its contract: one line behind the other. Assumes nothing.
use mathlib.Core.Path.{◌≡◌}
use borrow.Author.Rules.{rules}
use mir.Syntax.{w32}
use mir.Val.{to_z, of_z}
use Rattle.papers.specs.Names.{text}
use Rattle.scope.specs.Sheet.{signed_decimal, number_text}
use Rattle.text.specs.Laws.Typing.{types_behind, types_key}
use Rattle.sheet.proofs.numbers.altitude_lines.Goals as goal

pub returns : goal.returns
unfolding number_text
returns c =
    let name = c.args.name.now in
    let a = c.args.a in
    let res : to_z w32 (of_z w32 a.res) ≡ a.res = search rules in
    let ga : to_z w32 (of_z w32 a.ga) ≡ a.ga = search rules in
    types_behind (types_key name (text ".RES") (signed_decimal a.res) c.word.ensures (rw res at c.pair.ensures))
    (types_key name (text ".GA") (signed_decimal a.ga) c.word-2.ensures (rw ga at c.pair-2.ensures))
