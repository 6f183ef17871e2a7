use Rattle.std.proofs.Common.{◌≡◌, length}
use Rattle.protocol.specs.Line.{places_from}
use Rattle.protocol.specs.Laws.Line.{placed_from}
use Rattle.protocol.proofs.places.Given as goal

abbrev pub invariant-loop-start : goal.invariant-loop-start
invariant-loop-start l = record {
  ten : length l.start-items ≡ 10;
  placed : placed_from l.line l.start-items l.start-index l.at ≡ places_from l.line 0 10;
}
