use Rattle.std.proofs.Common.{◌≡◌, ◌+◌, drop}
use Rattle.protocol.specs.Line.{words_of, words_at}
use Rattle.protocol.specs.Forms.{first_wrong}
use Rattle.protocol.proofs.first_wrong.Given as goal

abbrev pub invariant-loop-kind : goal.invariant-loop-kind
invariant-loop-kind l = record {
  counted : l.n ≡ l.kind-index + 2;
  answer : first_wrong l.kinds (drop 1 (words_of l.line)) 2 ≡ first_wrong (drop l.kind-index l.kinds) (words_at l.line l.at) l.n;
}
