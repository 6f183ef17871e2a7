use Rattle.std.proofs.Common.{◌≡◌, ◌-◌, drop, length}
use Rattle.protocol.specs.Line.{words_at}
use Rattle.protocol.specs.Record.{values_of}
use Rattle.protocol.specs.Laws.Record.{filled}
use Rattle.protocol.proofs.values.Given as goal

-- the words that are left go where they went from the start
abbrev pub invariant-loop-slot : goal.invariant-loop-slot
invariant-loop-slot g l = record {
  long : length l.slot-items ≡ g.row.N;
  values : filled g.told g.row.N l.line l.slot-items l.slot-index l.at ≡ values_of g.told g.row.N (words_at l.line l.start);
  behind : drop (g.row.N - l.slot-index) (words_at l.line l.at) ≡ drop g.row.N (words_at l.line l.start);
}
