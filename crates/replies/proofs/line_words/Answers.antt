-- `replies::line_words` meets its contract. The loop has typed the octets passed. Assumes nothing.
use Rattle.replies.specs.Texts.{line_octet}
use Rattle.replies.specs.Laws.Typed.{words_none, words_more, line_octet_lem}
use Rattle.replies.proofs.line_words.Goals as goal

pub loop-o-init : goal.loop-o-init
loop-o-init c = words_none line_octet c.args.octets.now _ _

pub loop-o-preserved : goal.loop-o-preserved
loop-o-preserved c =
    words_more line_octet 0 c.args.octets.now c.loop-o.o-index c.loop-o-test.true c.loop-o.invariant (line_octet_lem _ c.in_line.ensures c.octet.ensures)
