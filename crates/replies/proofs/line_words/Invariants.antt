use lib.ListN.{take}
use Rattle.text.specs.Typed.{Typed}
use Rattle.replies.specs.Texts.{line_octet, words_text}
use Rattle.replies.proofs.line_words.Given as goal

abbrev pub invariant-loop-o : goal.invariant-loop-o
invariant-loop-o l = Typed (words_text line_octet (take l.o-index l.octets)) l.initial.reply l.reply
