use Prim.Native.Nat.{◌+◌, ◌-◌}
use lib.Dec.{T}
use Rattle.spots.specs.Spots.{row_ok}
use Rattle.text.specs.Laws.Typed.{Still}
use Rattle.sheet.specs.Laws.Rows.{row_rest}
use Rattle.sheet.proofs.row.Given as goal

abbrev pub invariant-loop-i : goal.invariant-loop-i
invariant-loop-i l =
    T (row_ok (l.first + l.i) (l.n - l.i)) × Still (row_rest l.kept l.first l.n 0) l.initial.sheet (row_rest l.kept l.first l.n l.i) l.sheet
