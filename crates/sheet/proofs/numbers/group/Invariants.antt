use Prim.Native.Nat.{◌+◌, ◌-◌, ◌*◌, ◌≤◌}
use mathlib.Core.List.{[]}
use lib.ListN.{take, drop}
use Rattle.text.specs.Laws.Typed.{Still}
use Rattle.sheet.specs.Keys.{keys_from, keyed}
use Rattle.sheet.proofs.numbers.group.Given as goal

-- the word that stands at i began at from; what is left is typed of the keys from i on
abbrev pub invariant-loop-i : goal.invariant-loop-i
invariant-loop-i l =
    (l.from ≤ l.i) × (l.slot ≤ l.first + 2 * l.i)
    × Still (keyed (keys_from [] l.keys) l.numbers l.first) l.initial.sheet (keyed (keys_from (take (l.i - l.from) (drop l.from l.keys)) (drop l.i l.keys)) l.numbers l.slot) l.sheet
