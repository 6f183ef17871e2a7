-- `exports::ref_read` meets its contract: the field into the array, and the answer as a word. Assumes nothing.
use mathlib.Core.Path.{sym, subst}
use native.Mathlib.Omega.{arith}
use lib.ListN.{length}
use Rattle.codec.proofs.Laws.Codec.{octets_all}
use Rattle.scope.specs.Reading.{read_of}
use Rattle.interface.proofs.Laws.Arrays.{fills-by}
use Rattle.interface.proofs.Laws.Fits.{FitAnswer, read_fits, fill_fits}
use Rattle.exports.proofs.ref_read.Goals as goal

pub answer_word-requires : goal.answer_word-requires
answer_word-requires c =
    let a = c.args in
    let s = a.field.now in
    subst FitAnswer (sym c.read_array.ensures.0) (fill_fits (length a.out.now) (read_of a.cat s).answer (read_fits a.cat s (octets_all s (λ i. omega (arith, c.type_inv.field i)))))

pub returns : goal.returns
returns c =
    let a = c.args in
    fills-by (read_of a.cat a.field.now) a.out.now c.read_array.ensures c.answer_word.ensures
