use Rattle.std.proofs.Common.{◌≡◌, ◌+◌, ◌-◌, ◌<◌}
use Rattle.taken.specs.Laws.Names.{Named}
use Rattle.taken.proofs.names.Given as goal

-- the names that are left set the flags that they set from the start
abbrev pub invariant-loop-j : goal.invariant-loop-j
invariant-loop-j l = record {
  low : l.items < 256;
  answer : Named l.items (l.i + l.j) l.comma (l.k + l.j) (l.left - l.j) l.rest ≡ Named l.initial.items l.i l.initial.comma l.k l.left l.w;
}
