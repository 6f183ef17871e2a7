-- `text::Text::word` meets its contract. The loop has typed the octets passed. Assumes nothing.
use Rattle.text.specs.Laws.Typing.{types_none, word_more}
use Rattle.text.proofs.Text.word.Goals as goal

pub loop-o-init : goal.loop-o-init
loop-o-init c = types_none _ _

pub loop-o-preserved : goal.loop-o-preserved
loop-o-preserved c =
    word_more c.args.s.now c.loop-o.o-index c.loop-o-test.true c.loop-o.invariant c.octet.ensures
