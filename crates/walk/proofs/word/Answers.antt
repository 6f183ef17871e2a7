-- From each word that the loop reaches the same word is found.
use Rattle.std.proofs.Common.{sym, ◌∙◌, arith}
use Rattle.walk.specs.Laws.Lines.{word_first, word_more}
use Rattle.walk.proofs.word.Goals as goal

pub loop-preserved : goal.loop-preserved
loop-preserved c = sym (word_more _ _ _ (omega arith) c.behind-rest.ensures) ∙ c.loop.invariant

pub returns : goal.returns
returns c = word_first _ _ _ (omega arith) c.before-2.ensures ∙ c.loop.invariant
