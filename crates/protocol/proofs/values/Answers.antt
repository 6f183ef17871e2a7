use Rattle.std.proofs.Common.{◌<◌, sym, ◌∙◌, arith, length-set}
use Rattle.std.proofs.lemmas.List.{length-replicate}
use Rattle.protocol.specs.Laws.Record.{filled_more, filled_end, filled_all, passed_more, passed_end, passed_none}
use Rattle.protocol.proofs.values.Goals as goal

pub loop-slot-init : goal.loop-slot-init
loop-slot-init g c = record {
  long = length-replicate g.row.N c.default-values.result;
  values = filled_all g.told g.row.N c.args.line.now _ c.args.start (length-replicate g.row.N c.default-values.result);
  behind = passed_none g.row.N _;
}

pub loop-slot-preserved : goal.loop-slot-preserved
loop-slot-preserved g c =
    let s = c.args.line.now in
    let i = c.loop-slot.slot-index in
    let within : i < g.row.N = omega (arith, c.loop-slot.invariant.long) in
    record {
      long = simp length-set c.loop-slot.invariant.long;
      values = sym (filled_more g.told g.row.N s c.loop-slot.slot-items i c.loop-slot.at within c.word_at.ensures (c.requires.1.1.1.1.1 _ _ c.value.ensures) c.next_place-at.ensures) ∙ c.loop-slot.invariant.values;
      behind = sym (passed_more g.told g.row.N s i c.loop-slot.at within c.next_place-at.ensures) ∙ c.loop-slot.invariant.behind;
    }

pub returns-clause-values : goal.returns-clause-values
returns-clause-values g c = sym (filled_end g.told g.row.N c.args.line.now c.loop-slot.slot-items c.loop-slot.slot-index c.loop-slot.at (omega (arith, c.loop-slot.invariant.long))) ∙ c.loop-slot.invariant.values

pub returns-clause-behind : goal.returns-clause-behind
returns-clause-behind g c = sym (passed_end g.told g.row.N c.args.line.now c.loop-slot.slot-index c.loop-slot.at (omega (arith, c.loop-slot.invariant.long))) ∙ c.loop-slot.invariant.behind
