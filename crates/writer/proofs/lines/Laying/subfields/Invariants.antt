use Rattle.std.proofs.Common.{◌+◌, ◌-◌, T}
use Rattle.shapes.specs.Shapes.{in_turn}
use Rattle.writer.specs.Laws.Chains.{SubsBehind}
use Rattle.writer.proofs.lines.Laying.subfields.Given as goal

-- what lays the subfields that are left lays all of them
abbrev pub invariant-loop-i : goal.invariant-loop-i
invariant-loop-i l = record {
  turn : T (in_turn (l.b + l.i) (l.left - l.i));
  behind : SubsBehind l.slots.numbers.now l.slots.base l.b l.left l.i l.initial.self.octets l.initial.self.at l.self.octets l.self.at;
}
