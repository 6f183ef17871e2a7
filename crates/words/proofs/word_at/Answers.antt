-- The word ends at its space, and past the end there is none.
use Rattle.words.specs.Laws.Lines.{end_within, word_cut, word_past}
use Rattle.words.proofs.word_at.Goals as goal

pub returns-then-line-at : goal.returns-then-line-at
returns-then-line-at c = let a = c.args in word_past a.line.now a.at c.if-line-at.true

pub slice_bounds-result-end-2 : goal.slice_bounds-result-end-2
slice_bounds-result-end-2 c = let a = c.args in end_within a.line.now a.at c.if-line-at.false c.end.ensures

pub returns : goal.returns
returns c = let a = c.args in word_cut a.line.now a.at c.if-line-at.false c.end.ensures
