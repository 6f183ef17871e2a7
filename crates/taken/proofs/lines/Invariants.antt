use Rattle.std.proofs.Common.{◌≡◌, ◌+◌, ◌-◌, ◌≤◌, T}
use Rattle.std.proofs.lemmas.List.Edits.{sets}
use Rattle.lengths.specs.Lines.{first_at}
use Rattle.shapes.specs.Shapes.{in_turn}
use Rattle.taken.specs.Lines.{taken_from, left_from}
use Rattle.taken.specs.Laws.Lines.{Room}
use Rattle.taken.proofs.lines.Given as goal

-- the lines that are left go where they went from the start
abbrev pub invariant-loop-i : goal.invariant-loop-i
invariant-loop-i l = record {
  asks : (l.b + l.i + (l.left - l.i) ≤ 300) × T (in_turn (l.b + l.i) (l.left - l.i)) × Room l.base (l.b + l.i) (l.left - l.i);
  behind : left_from (l.b + l.i) (l.left - l.i) (l.n - l.i) l.rest ≡ left_from l.b l.left l.n l.t;
  kept : sets l.out (l.base + first_at (l.b + l.i)) (taken_from (l.b + l.i) (l.left - l.i) (l.n - l.i) l.rest) ≡ sets l.initial.out (l.base + first_at l.b) (taken_from l.b l.left l.n l.t);
}
