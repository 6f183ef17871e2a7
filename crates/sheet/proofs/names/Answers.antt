-- `sheet::names` meets its contract: each name behind its comma, and the rest of the line behind it. Assumes nothing.
use mathlib.Core.Path.{ap, ◌∙◌}
use Rattle.spots.specs.declared.Spot.{Spot}
use Rattle.text.specs.Laws.Typing.{types_as}
use Rattle.sheet.specs.Items.{named_at}
use Rattle.sheet.specs.Laws.Rows.{names_begin, names_ends, name_there, name_not}
use Rattle.sheet.proofs.names.Goals.{then-present, else-present}
use Rattle.sheet.proofs.names.Goals as goal

pub loop-i-preserved : goal.loop-i-preserved
loop-i-preserved c =
    let a = c.args in
    let l = c.loop-i in
    elim c.if-present.branch [
      | then-present w ↦ rw (w.sheet-is, w.none_yet-is) (λ v r. l.invariant v (name_there a.items a.first a.n l.none_yet l.i c.loop-i-test.true c.present.ensures w.if-present.true w.comma.ensures
          (types_as (w.name.ensures ∙ ap (λ j. (named_at j).name) (w.from.ensures ∙ ap (λ (x : Spot). x.0) w.spot_at-spot.ensures)) w.word.ensures) r))
      | else-present w ↦ rw (w.sheet-is, w.none_yet-is) (λ v r. l.invariant v (name_not a.items a.first a.n l.none_yet l.i c.loop-i-test.true c.present.ensures w.if-present.false r))
    ]

pub returns : goal.returns
returns c =
    let a = c.args in
    let l = c.loop-i in
    types_as (names_begin a.items a.first a.n) (l.invariant l.sheet (names_ends a.items a.first a.n l.none_yet l.i c.loop-i-test.false _ _))
