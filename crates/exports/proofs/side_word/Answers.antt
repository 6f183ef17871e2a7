-- `exports::side_word` meets its contract: one law for each case. Assumes nothing.
use mathlib.Core.Path.{ap}
use Rattle.layout.specs.Answer.{view_by_number}
use Rattle.interface.proofs.Laws.Packed.{shown_fits, shown_word, hidden_fits, hidden_word}
use Rattle.exports.proofs.side_word.Goals as goal

pub word-requires : goal.word-requires
word-requires c = shown_fits (ap view_by_number c.in-Ok.is) c.requires

pub refused_word-requires : goal.refused_word-requires
refused_word-requires c = hidden_fits (ap view_by_number c.in-Err.is) c.requires

pub returns-in-Ok : goal.returns-in-Ok
returns-in-Ok c = shown_word (ap view_by_number c.in-Ok.is) c.args.which c.word.ensures

pub returns-in-Err : goal.returns-in-Err
returns-in-Err c = hidden_word (ap view_by_number c.in-Err.is) c.args.which c.refused_word.ensures
