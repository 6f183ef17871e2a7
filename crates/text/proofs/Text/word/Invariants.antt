use lib.ListN.{take}
use Rattle.text.specs.Typed.{Typed}
use Rattle.text.proofs.Text.word.Given as goal

abbrev pub invariant-loop-o : goal.invariant-loop-o
invariant-loop-o l = Typed (take l.o-index l.s) l.initial.self l.self
