use lib.ListN.{take}
use Rattle.text.specs.Typed.{Typed}
use Rattle.text.specs.Hex.{pairs_text}
use Rattle.text.proofs.Text.octets.Given as goal

abbrev pub invariant-loop-o : goal.invariant-loop-o
invariant-loop-o l = Typed (pairs_text (take l.o-index l.s)) l.initial.self l.self
