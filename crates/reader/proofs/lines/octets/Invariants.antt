use mathlib.Core.Path.{◌≡◌}
use Prim.Native.Nat.{◌<◌, ◌-◌, ◌*◌, ◌^◌}
use lib.ListN.{take, drop}
use Rattle.codec.specs.Radix.{join, eights}
use Rattle.reader.proofs.lines.octets.Given as goal

abbrev pub invariant-loop-i : goal.invariant-loop-i
invariant-loop-i l = let j = l.i - l.at in (l.n ≡ join (eights j) (take j (drop l.at l.s))) × (l.n < 2 ^ (8 * j))
