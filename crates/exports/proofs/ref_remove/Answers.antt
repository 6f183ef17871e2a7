-- `exports::ref_remove` meets its contract. Assumes nothing.
use mathlib.Core.Path.{sym, ap, ◌∙◌, subst}
use native.Mathlib.Omega.{arith}
use lib.ListN.{length}
use Rattle.codec.specs.Change.{remove}
use Rattle.codec.proofs.Laws.Change.{new_octets}
use Rattle.codec.proofs.Laws.Codec.{octets_all}
use Rattle.interface.specs.Packed.{answer_word}
use Rattle.interface.proofs.Laws.Fits.{FitAnswer, edit_fits}
use Rattle.exports.proofs.ref_remove.Goals as goal

pub answer_word-requires : goal.answer_word-requires
unfolding new_octets
answer_word-requires c =
    let a = c.args in
    subst FitAnswer (sym c.remove.ensures.answer)
    (edit_fits a.cat a.field.now a.list a.item remove (length a.out.now) (octets_all a.field.now (λ i. omega (arith, c.type_inv.field i))) tt)

pub returns : goal.returns
returns c =
    let d = c.remove.ensures in
    record { word = c.answer_word.ensures ∙ ap answer_word d.answer; output = d.output }
