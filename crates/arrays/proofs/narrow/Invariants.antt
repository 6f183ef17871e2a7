use Rattle.std.proofs.Common.{◌≡◌, map}
use Rattle.interface.specs.Arrays.{octet_of}
use Rattle.interface.proofs.Laws.Copies.{copied}
use Rattle.arrays.proofs.narrow.Given as goal

abbrev pub invariant-loop-i : goal.invariant-loop-i
invariant-loop-i l = l.octets ≡ copied l.i (map octet_of l.numbers) l.initial.octets
