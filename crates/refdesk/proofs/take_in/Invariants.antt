-- What will be left of the input's last line stays the same, turn by turn.
use Rattle.std.proofs.Common.{List, ℕ, ◌-◌, length, drop}
use Rattle.lines.specs.Lines.{left}
use Rattle.lines.specs.Laws.Lines.{Holds}
use Rattle.refdesk.specs.Turns.{Since}
use Rattle.refdesk.proofs.take_in.Given as goal

abbrev pub invariant-loop-next : goal.invariant-loop-next
invariant-loop-next g l = (h : List ℕ) → Holds l.initial.line.octets.now l.initial.line.held h → Since l.line.octets.now l.line.held (drop l.at l.octets) (left h l.octets)

abbrev pub decreases-loop-next : goal.decreases-loop-next
decreases-loop-next g l = length l.octets - l.at
