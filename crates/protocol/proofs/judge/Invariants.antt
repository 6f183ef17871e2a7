use Rattle.std.proofs.Common.{◌≡◌, drop}
use Rattle.protocol.specs.Line.{words_of}
use Rattle.protocol.specs.Requests.{judged_in}
use Rattle.protocol.proofs.judge.Given as goal

abbrev pub invariant-loop-row : goal.invariant-loop-row
invariant-loop-row l = judged_in (drop l.row-index l.rows) (words_of l.line) ≡ judged_in l.rows (words_of l.line)
