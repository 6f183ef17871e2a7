-- From each octet that the loop reaches the answer is the same.
use Rattle.std.specs.Prelude.{◌≤◌, max}
use Rattle.std.proofs.Common.{◌≡◌, length, drop}
use Rattle.lines.specs.Joining.{join_of, line_after}
use Rattle.lines.proofs.Line.join.Given as goal

abbrev pub invariant-loop-i : goal.invariant-loop-i
invariant-loop-i l = record {
  same : l.self.octets.ghost_name ≡ l.initial.self.octets.ghost_name;
  room : length l.self.octets.now ≡ length l.initial.self.octets.now;
  within : l.i ≤ max l.from (length l.octets);
  joined : join_of (length l.initial.self.octets.now) (drop l.from l.octets) l.initial.self.held l.from ≡ join_of (length l.initial.self.octets.now) (drop l.i l.octets) l.self.held l.i;
  line : line_after (length l.initial.self.octets.now) (drop l.from l.octets) l.initial.self.held l.initial.self.octets.now ≡ line_after (length l.initial.self.octets.now) (drop l.i l.octets) l.self.held l.self.octets.now;
}
