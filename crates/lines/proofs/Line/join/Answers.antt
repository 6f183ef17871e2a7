-- `Line::join` meets its contract: from each octet that the loop reaches the answer is the same. Assumes nothing.
use Rattle.std.specs.Prelude.{max}
use Rattle.std.proofs.Common.{◌≡◌, refl, sym, ◌∙◌, arith, length, false}
use Rattle.lines.specs.Joining.{Joined}
use Rattle.lines.specs.Laws.Joining.{join_end, join_feed, join_more}
use Rattle.lines.proofs.Line.join.Goals as goal

pub returns-then-o-eq10-clause-joined : goal.returns-then-o-eq10-clause-joined
returns-then-o-eq10-clause-joined c =
    let x = join_feed (length c.args.self.now.octets.now) c.args.octets.now c.loop-i.i c.loop-i.self.held c.loop-i.self.octets.now (omega arith) c.if-o-eq10.true in
    (x.0 ∙ sym c.loop-i.invariant.joined, x.1 ∙ sym c.loop-i.invariant.line)

pub loop-i-preserved : goal.loop-i-preserved
loop-i-preserved c =
    let x = join_more (length c.args.self.now.octets.now) c.args.octets.now c.loop-i.i c.loop-i.self.held c.loop-i.self.octets.now c.loop-i.invariant.room (omega arith) c.if-o-eq10.false c.keep.ensures.kept in
    record { same = c.keep.ensures.same ∙ c.loop-i.invariant.same; room = x.0; within = omega arith; joined = c.loop-i.invariant.joined ∙ x.1; line = c.loop-i.invariant.line ∙ x.2 }

pub returns-clause-joined : goal.returns-clause-joined
returns-clause-joined c =
    let x = join_end (length c.args.self.now.octets.now) c.args.octets.now c.loop-i.i c.loop-i.self.held c.loop-i.self.octets.now (omega arith) in
    let all : max c.args.from (length c.args.octets.now) ≡ c.loop-i.i = omega (arith, c.loop-i.invariant.within) in
    let e : ◌≡◌ {A = Joined} (record { at = max c.args.from (length c.args.octets.now); held = c.loop-i.self.held; ended = false }) (record { at = c.loop-i.i; held = c.loop-i.self.held; ended = false }) = rw all refl in
    (e ∙ x.0 ∙ sym c.loop-i.invariant.joined, x.1 ∙ sym c.loop-i.invariant.line)
