-- `text::Text::signed` meets its contract: a sign and the magnitude, or the number itself. Assumes nothing.
use mir.Facts.{to_z-of_z}
use Rattle.text.specs.Laws.Typing.{signed_below, signed_above}
use Rattle.text.proofs.Text.signed.Goals.{then-z-lt0, else-z-lt0}
use Rattle.text.proofs.Text.signed.Goals as goal

pub returns : goal.returns
returns c =
    let z = c.args.z in
    let same = to_z-of_z c.ranges.z in
    elim c.if-z-lt0.branch [
      | then-z-lt0 w ↦ signed_below z (rw same at w.if-z-lt0.true) w.octet.ensures (rw (w.self-is, c.unsigned_abs.ensures.value, same) at c.decimal.ensures)
      | else-z-lt0 w ↦ signed_above z (rw same at w.if-z-lt0.false) (rw (w.self-is, c.unsigned_abs.ensures.value, same) at c.decimal.ensures)
    ]
