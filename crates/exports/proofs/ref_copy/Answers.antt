-- `exports::ref_copy` meets its contract. Assumes nothing.
use mathlib.Core.Path.{sym, ap, ◌∙◌, subst}
use native.Mathlib.Omega.{arith}
use lib.ListN.{length}
use Rattle.codec.proofs.Laws.Codec.{octets_all}
use Rattle.interface.specs.Packed.{answer_word}
use Rattle.interface.proofs.Laws.Fits.{FitAnswer, copy_fits}
use Rattle.exports.proofs.ref_copy.Goals as goal

pub answer_word-requires : goal.answer_word-requires
answer_word-requires c =
    let a = c.args in
    subst FitAnswer (sym c.copy.ensures.answer)
    (copy_fits a.cat a.field.now a.withheld (length a.out.now) (octets_all a.field.now (λ i. omega (arith, c.type_inv.field i))))

pub returns : goal.returns
returns c =
    let d = c.copy.ensures in
    record { word = c.answer_word.ensures ∙ ap answer_word d.answer; output = d.output }
