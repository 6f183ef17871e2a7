use Prim.Native.Nat.{◌-◌}
use lib.Seq.{sets}
use Rattle.lengths.specs.Lines.{pieces_from}
use Rattle.reader.specs.Numbers.{nums_at}
use Rattle.reader.specs.Laws.Taking.{Storing}
use Rattle.reader.proofs.numbers.store.Given as goal

abbrev pub invariant-loop : goal.invariant-loop
invariant-loop l =
    Storing l.initial.numbers (sets l.initial.numbers l.first (nums_at (pieces_from l.runs l.code) l.n l.shift)) l.n l.numbers l.slot (l.runs - l.counter) l.rest l.next
