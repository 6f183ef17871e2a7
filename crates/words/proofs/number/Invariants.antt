use Rattle.std.proofs.Common.{◌≡◌, ◌≤◌, drop}
use Rattle.words.specs.Numbers.{number_in}
use Rattle.words.specs.Laws.Numbers.{from_here}
use Rattle.words.proofs.number.Given as goal

abbrev pub invariant-loop-o : goal.invariant-loop-o
invariant-loop-o l = record { below : l.v ≤ l.limit; answer : number_in l.limit l.word ≡ from_here l.limit l.v (drop l.o-index l.word) }
