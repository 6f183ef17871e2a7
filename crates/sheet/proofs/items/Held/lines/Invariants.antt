use Prim.Native.Nat.{◌+◌, ◌-◌, ◌≤◌}
use lib.ListN.{length}
use Rattle.text.specs.Laws.Typed.{Still}
use Rattle.sheet.specs.Lines.{lines_keyed}
use Rattle.sheet.proofs.items.Held.lines.Given as goal

-- what is left are the lines from the i-th on
abbrev pub invariant-loop-i : goal.invariant-loop-i
invariant-loop-i l =
    (length l.rest ≤ 1_000)
    × Still (lines_keyed l.keys l.self.numbers.now l.self.count l.b l.parts l.all l.self.base) l.initial.sheet (lines_keyed l.rest l.self.numbers.now (l.self.count - l.i) (l.b + l.i) (l.parts - l.i) (l.all - l.i) l.self.base) l.sheet
