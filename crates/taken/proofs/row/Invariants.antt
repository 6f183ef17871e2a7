use Rattle.std.proofs.Common.{◌≡◌, ◌+◌, ◌-◌, T}
use Rattle.std.proofs.lemmas.List.Edits.{sets}
use Rattle.codec.specs.Field.{flags}
use Rattle.layout.specs.Record.{all_parts, all_numbers}
use Rattle.spots.specs.Spots.{spot_at, row_ok}
use Rattle.taken.specs.Laws.Rows.{Row}
use Rattle.taken.proofs.row.Given as goal

-- the items that are left go where they went from the start
abbrev pub invariant-loop-j : goal.invariant-loop-j
invariant-loop-j l = record {
  asks : T (row_ok (l.k + l.j) (l.left - l.j));
  counts : sets l.parts (l.i + l.j) (all_parts (Row (flags l.items) (l.k + l.j) (l.i + l.j) (l.left - l.j) l.rest)) ≡ sets l.initial.parts l.i (all_parts (Row (flags l.items) l.k l.i l.left l.t));
  kept : sets l.out (spot_at (l.k + l.j)).1 (all_numbers (Row (flags l.items) (l.k + l.j) (l.i + l.j) (l.left - l.j) l.rest)) ≡ sets l.initial.out (spot_at l.k).1 (all_numbers (Row (flags l.items) l.k l.i l.left l.t));
}
