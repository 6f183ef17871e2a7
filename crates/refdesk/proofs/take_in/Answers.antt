-- `refdesk::take_in` meets its contract: each turn takes an octet, and what will be left stays the same. Assumes nothing.
use Rattle.refdesk.specs.Turns.{line_answered, all_taken, taken_within}
use Rattle.std.proofs.Common.{refl, arith}
use Rattle.refdesk.proofs.take_in.Goals as goal

-- a line ended

pub loop-next-smaller : goal.loop-next-smaller
loop-next-smaller g c =
    let t = taken_within c.args.octets.now c.loop-next.line.octets.now c.loop-next.at c.loop-next.line.held c.join.new.self.held c.in-Some.next c.in-Some.ensures.joined in
    omega (arith, t)

pub loop-next-preserved : goal.loop-next-preserved
loop-next-preserved g c h x = line_answered c.args.octets.now c.loop-next.at c.loop-next.line.held c.join.new.self.held _ c.in-Some.ensures.joined (c.loop-next.invariant h x) c.in-Some.next refl

-- no line ended

pub returns : goal.returns
returns g c h x = all_taken c.args.octets.now c.loop-next.at c.loop-next.line.held c.join.new.self.held _ c.join.ensures.joined (c.loop-next.invariant h x) c.in_default.is
