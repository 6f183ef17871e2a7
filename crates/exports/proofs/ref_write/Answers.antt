-- `exports::ref_write` meets its contract. Assumes nothing.
use mathlib.Core.Path.{sym, ap, ◌∙◌, subst}
use lib.ListN.{length}
use Rattle.interface.specs.Packed.{answer_word}
use Rattle.interface.proofs.Laws.Fits.{FitAnswer, write_fits}
use Rattle.exports.proofs.ref_write.Goals as goal

pub answer_word-requires : goal.answer_word-requires
answer_word-requires c =
    let a = c.args in
    subst FitAnswer (sym c.write_array.ensures.answer) (write_fits a.a.now (length a.out.now))

pub returns : goal.returns
returns c =
    let d = c.write_array.ensures in
    record { word = c.answer_word.ensures ∙ ap answer_word d.answer; output = d.output }
