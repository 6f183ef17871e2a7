use mathlib.Core.Bool.{true}
use Rattle.text.specs.Laws.Typed.{Still}
use Rattle.sheet.specs.Laws.Rows.{names_rest}
use Rattle.sheet.proofs.names.Given as goal

abbrev pub invariant-loop-i : goal.invariant-loop-i
invariant-loop-i l =
    Still (names_rest l.items l.first l.n true 0) l.initial.sheet (names_rest l.items l.first l.n l.none_yet l.i) l.sheet
