-- From each place that the loop reaches the first wrong line is the same.
use Rattle.std.proofs.Common.{inl, inr, length, ap, ◌∙◌, sym, arith}
use Rattle.compare.specs.Lines.{line_of}
use Rattle.compare.specs.Laws.Compared.{wrong_none, end_line, here_line, wrong_feed, wrong_on}
use Rattle.compare.proofs.first_wrong.Goals as goal

pub returns-then-a-b : goal.returns-then-a-b
returns-then-a-b c =
    let left = c.in-Some.ensures.steps in
    here_line _ left.0 left.1 c.loop-a.invariant.from_one c.if-a-b.true ∙ ap line_of (sym c.loop-a.invariant.answer)

pub loop-a-preserved-then-a-eq10 : goal.loop-a-preserved-then-a-eq10
loop-a-preserved-then-a-eq10 c =
    let left = c.in-Some.ensures.steps in
    let ahead = ap length left.0 in
    let behind = ap length left.1 in
    record {
      answer = c.loop-a.invariant.answer ∙ wrong_feed _ left.0 left.1 c.if-a-b.false c.if-a-eq10.true;
      from_one = omega arith;
      few = omega arith;
      abreast = omega arith;
    }

pub loop-a-preserved : goal.loop-a-preserved
loop-a-preserved c =
    let left = c.in-Some.ensures.steps in
    let ahead = ap length left.0 in
    let behind = ap length left.1 in
    record {
      answer = c.loop-a.invariant.answer ∙ wrong_on _ left.0 left.1 c.if-a-b.false c.if-a-eq10.false;
      from_one = c.loop-a.invariant.from_one;
      few = omega arith;
      abreast = omega arith;
    }

pub returns-then-s-t : goal.returns-then-s-t
returns-then-s-t c = wrong_none _ _ _ (omega (arith, c.in-None.ensures.steps)) (omega (arith, c.in-None.ensures.steps)) ∙ ap line_of (sym c.loop-a.invariant.answer)

pub returns : goal.returns
returns c = end_line _ _ _ c.loop-a.invariant.from_one (elim c.in-None.ensures.steps [ inl x ↦ inl x.1.0 | inr x ↦ inr x.1.0 ]) (λ e. omega arith) ∙ ap line_of (sym c.loop-a.invariant.answer)
