use Rattle.std.proofs.Common.{◌≡◌, ◌+◌, ◌-◌}
use Rattle.std.proofs.lemmas.List.Edits.{sets}
use Rattle.taken.specs.Lines.{flags_from}
use Rattle.taken.proofs.flags.Given as goal

-- the subfields that are left go where they went from the start
abbrev pub invariant-loop-i : goal.invariant-loop-i
invariant-loop-i l = sets l.out (l.slot + l.i) (flags_from (l.b + l.i) (l.left - l.i) (l.n - l.i) l.rest) ≡ sets l.initial.out l.slot (flags_from l.b l.left l.n l.t)
