use Rattle.std.proofs.Common.{◌≡◌, map, pos}
use Rattle.interface.proofs.Laws.Copies.{copied}
use Rattle.arrays.proofs.widen.Given as goal

abbrev pub invariant-loop-i : goal.invariant-loop-i
invariant-loop-i l = l.numbers ≡ copied l.i (map pos l.octets) l.initial.numbers
