use Rattle.std.proofs.Common.{◌≡◌, ◌+◌, ◌-◌, ◌≤◌, T}
use Rattle.std.proofs.lemmas.List.Edits.{sets}
use Rattle.codec.specs.Line.{count}
use Rattle.papers.specs.Papers.{SLOTS}
use Rattle.lengths.specs.Lines.{pieces_from}
use Rattle.taken.specs.Lines.{taken_by, behind_by, ends_of}
use Rattle.taken.proofs.numbers.Given as goal

-- the pieces that are left go where they went from the start
abbrev pub invariant-loop : goal.invariant-loop
invariant-loop l = record {
  asks : (l.slot + count (pieces_from (l.left - l.counter) l.code) ≤ SLOTS) × T (ends_of (pieces_from (l.left - l.counter) l.code));
  behind : behind_by l.step (pieces_from (l.left - l.counter) l.code) l.rest ≡ behind_by l.step (pieces_from l.left l.initial.code) l.t;
  kept : sets l.out l.slot (taken_by l.step (pieces_from (l.left - l.counter) l.code) l.rest) ≡ sets l.initial.out l.initial.slot (taken_by l.step (pieces_from l.left l.initial.code) l.t);
}
