-- `exports::answer_word` meets its contract: one law for each case. Assumes nothing.
use mathlib.Core.Path.{ap}
use Rattle.layout.specs.Answer.{by_number}
use Rattle.interface.specs.Packed.{answer_word}
use Rattle.interface.proofs.Laws.Packed.{accepted_fits, accepted_word, refused_fits, refused_word}
use Rattle.exports.proofs.answer_word.Goals as goal

pub word-requires : goal.word-requires
word-requires c = accepted_fits (ap by_number c.in-Ok.is) c.requires

pub refused_word-requires : goal.refused_word-requires
refused_word-requires c = refused_fits (ap by_number c.in-Err.is) c.requires

pub returns-in-Ok : goal.returns-in-Ok
unfolding answer_word
returns-in-Ok c = accepted_word (ap by_number c.in-Ok.is) 0 c.word.ensures

pub returns-in-Err : goal.returns-in-Err
unfolding answer_word
returns-in-Err c = refused_word (ap by_number c.in-Err.is) 0 c.refused_word.ensures
