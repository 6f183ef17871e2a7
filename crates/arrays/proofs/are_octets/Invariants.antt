use Rattle.std.proofs.Common.{◌≡◌, drop}
use Rattle.interface.specs.Arrays.{are_octets}
use Rattle.arrays.proofs.are_octets.Given as goal

abbrev pub invariant-loop-z : goal.invariant-loop-z
invariant-loop-z l = are_octets l.numbers ≡ are_octets (drop l.z-index l.numbers)
