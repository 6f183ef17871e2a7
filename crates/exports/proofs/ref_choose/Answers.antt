-- `exports::ref_choose` meets its contract. Assumes nothing.
use mathlib.Core.Path.{sym, ap, ◌∙◌, subst}
use native.Mathlib.Omega.{arith}
use Rattle.layout.specs.Answer.{Choice, view_by_number}
use Rattle.codec.proofs.Laws.Codec.{octets_all}
use Rattle.interface.specs.Packed.{side_word, choice_word}
use Rattle.interface.proofs.Laws.Fits.{FitView, choose_fits}
use Rattle.exports.proofs.ref_choose.Goals as goal

pub side_word-requires : goal.side_word-requires
side_word-requires c =
    let a = c.args in
    subst (λ (v : Choice). FitView v.view) (sym c.choose_answer-c.ensures)
    (choose_fits a.cat a.base.now a.correction.now (octets_all a.base.now (λ i. omega (arith, c.type_inv.base i))) (octets_all a.correction.now (λ i. omega (arith, c.type_inv.correction i))) a.item)

pub returns : goal.returns
unfolding choice_word
returns c =
    c.side_word.ensures ∙ ap (λ n. side_word n (view_by_number c.choose_answer-c.result.view)) c.from.ensures ∙ ap choice_word c.choose_answer-c.ensures
