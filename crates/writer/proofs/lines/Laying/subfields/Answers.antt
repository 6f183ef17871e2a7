-- `writer::lines::Laying::subfields` meets its contract: what lays the subfields that are left lays all of them. Assumes nothing.
use Rattle.std.proofs.Common.{arith}
use Rattle.writer.specs.Laws.Chains.{subs_begin, subs_turn, subs_next, subs_laid}
use Rattle.writer.proofs.lines.Laying.subfields.Goals as goal

pub loop-i-init : goal.loop-i-init
loop-i-init c =
    let a = c.args in
    let begun = subs_begin a.slots.numbers.now a.slots.base a.b a.left c.requires.1 a.self.now.octets a.self.now.at in
    record { turn = begun.0; behind = begun.1 }

pub loop-i-preserved : goal.loop-i-preserved
loop-i-preserved c =
    let a = c.args in
    let so_far = c.loop-i.invariant in
    let more = c.loop-i-test.true in
    record {
      turn = subs_turn a.slots.numbers.now a.slots.base a.b a.left c.loop-i.i more so_far.turn;
      behind = subs_next a.slots.numbers.now a.slots.base a.b a.left c.loop-i.i more so_far.turn c.subfield.ensures so_far.behind;
    }

pub returns : goal.returns
returns c =
    let a = c.args in
    subs_laid a.slots.numbers.now a.slots.base a.b a.left c.loop-i.i (omega arith) c.loop-i.invariant.behind
