use Rattle.std.proofs.Common.{◌≡◌, ◌-◌, [], get_or}
use Rattle.walk.specs.Lines.{words_in}
use Rattle.walk.proofs.word.Given as goal

abbrev pub invariant-loop : goal.invariant-loop
invariant-loop l = get_or (words_in l.rest) (l.k - l.counter) [] ≡ get_or (words_in l.t) l.k []
