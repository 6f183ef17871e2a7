-- `exports::ref_sheet` meets its contract. Assumes nothing.
use mathlib.Core.Path.{sym, ap, ◌∙◌, subst}
use native.Mathlib.Omega.{arith}
use lib.ListN.{length}
use Rattle.codec.proofs.Laws.Codec.{octets_all}
use Rattle.interface.specs.Packed.{answer_word}
use Rattle.interface.proofs.Laws.Fits.{FitAnswer, sheet_fits}
use Rattle.exports.proofs.ref_sheet.Goals as goal

pub answer_word-requires : goal.answer_word-requires
answer_word-requires c =
    let a = c.args in
    subst FitAnswer (sym c.sheet.ensures.answer) (sheet_fits a.input.now (octets_all a.input.now (λ i. omega (arith, c.type_inv.input i))) (length a.out.now))

pub returns : goal.returns
returns c =
    let d = c.sheet.ensures in
    record { word = c.answer_word.ensures ∙ ap answer_word d.answer; output = d.output }
