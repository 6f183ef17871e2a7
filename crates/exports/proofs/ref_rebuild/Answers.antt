-- `exports::ref_rebuild` meets its contract: one law for each case. Assumes nothing.
use mathlib.Core.Path.{refl, sym, ap₂, ◌∙◌, subst}
use native.Mathlib.Omega.{arith}
use lib.ListN.{length}
use Rattle.guess.proofs.Laws.Rebuilt.{rebuilt_few}
use Rattle.interface.specs.Packed.{beside_word, rebuilt_word}
use Rattle.interface.proofs.Laws.Packed.{accepted_fits, accepted_word, refused_fits, refused_word}
use Rattle.interface.proofs.Laws.Fits.{FitAnswer}
use Rattle.exports.proofs.ref_rebuild.Goals as goal

pub word-requires : goal.word-requires
word-requires c =
    let f = rebuilt_few c.args.text.now (length c.args.out.now) in
    let d = c.in-Ok.ensures in
    accepted_fits refl (subst FitAnswer (sym d.leaves.answer) (omega (arith, f.place), omega (arith, f.octets)))

pub refused_word-requires : goal.refused_word-requires
refused_word-requires c =
    let f = rebuilt_few c.args.text.now (length c.args.out.now) in
    let d = c.in-Err.ensures in
    refused_fits refl (subst FitAnswer (sym d.leaves.answer) (omega (arith, f.place), omega (arith, f.octets)))

pub returns-in-Ok : goal.returns-in-Ok
unfolding rebuilt_word
returns-in-Ok c =
    let d = c.in-Ok.ensures in
    record { word = accepted_word refl c.in-Ok.rebuilt.cat c.word.ensures ∙ ap₂ beside_word d.category d.leaves.answer; output = d.leaves.output }

pub returns-in-Err : goal.returns-in-Err
unfolding rebuilt_word
returns-in-Err c =
    let d = c.in-Err.ensures in
    record { word = refused_word refl 0 c.refused_word.ensures ∙ ap₂ beside_word d.category d.leaves.answer; output = d.leaves.output }
