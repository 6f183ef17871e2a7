use Rattle.std.proofs.Common.{◌+◌, ◌-◌, T}
use Rattle.codec.specs.Field.{flags}
use Rattle.spots.specs.Spots.{row_ok}
use Rattle.writer.specs.Laws.Rows.{RowBehind}
use Rattle.writer.proofs.lines.Laying.row.Given as goal

-- what lays the items that are left lays the row
abbrev pub invariant-loop-i : goal.invariant-loop-i
invariant-loop-i l = record {
  asks : T (row_ok (l.k + l.i) (l.n - l.i));
  behind : RowBehind (flags l.kept.items) l.kept.parts l.kept.numbers l.k l.n l.i l.initial.self.octets l.initial.self.at l.self.octets l.self.at;
}
