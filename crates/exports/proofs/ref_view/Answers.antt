-- `exports::ref_view` meets its contract. Assumes nothing.
use mathlib.Core.Path.{sym, ap, ◌∙◌, subst}
use native.Mathlib.Omega.{arith}
use Rattle.codec.proofs.Laws.Codec.{octets_all}
use Rattle.interface.specs.Packed.{view_word}
use Rattle.interface.proofs.Laws.Fits.{FitView, view_fits}
use Rattle.exports.proofs.ref_view.Goals as goal

pub side_word-requires : goal.side_word-requires
side_word-requires c =
    let a = c.args in
    subst FitView (sym c.view_answer.ensures) (view_fits a.cat a.field.now (octets_all a.field.now (λ i. omega (arith, c.type_inv.field i))) a.item)

pub returns : goal.returns
unfolding view_word
returns c = c.side_word.ensures ∙ ap view_word c.view_answer.ensures
