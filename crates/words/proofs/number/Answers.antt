-- The digits passed say v, and from each place that the loop reaches the answer is the same.
use Rattle.std.proofs.Common.{◌+◌, ◌*◌, sym, ap, ◌∙◌, drop, arith}
use Rattle.words.specs.Laws.Numbers.{from_here, not_number, leading, no_digit, digit_more, digit_over, digits_end}
use Rattle.words.proofs.number.Goals as goal

pub returns-then-not-leads_well : goal.returns-then-not-leads_well
returns-then-not-leads_well c = not_number _ _ (sym c.leads_well.ensures ∙ c.if-not-leads_well.true)

pub loop-o-init : goal.loop-o-init
loop-o-init c = record { below = omega arith; answer = leading _ _ (sym c.leads_well.ensures ∙ c.if-not-leads_well.false) }

pub returns-then-not-is_ascii_digit : goal.returns-then-not-is_ascii_digit
returns-then-not-is_ascii_digit c =
    no_digit _ _ _ _ c.loop-o.invariant.answer (omega arith) (sym c.is_ascii_digit.ensures.value ∙ c.if-not-is_ascii_digit.true)

pub returns-then-from-v : goal.returns-then-from-v
returns-then-from-v c =
    digit_over _ _ _ _ c.loop-o.invariant.answer (omega arith) (sym c.is_ascii_digit.ensures.value ∙ c.if-not-is_ascii_digit.false) (omega arith)

pub loop-o-preserved : goal.loop-o-preserved
loop-o-preserved c = record {
  below = omega arith;
  answer = digit_more _ _ _ _ c.loop-o.invariant.answer (omega arith) (sym c.is_ascii_digit.ensures.value ∙ c.if-not-is_ascii_digit.false)
      ∙ ap (λ d. from_here c.args.limit (c.loop-o.v * 10 + d) (drop (c.loop-o.o-index + 1) c.args.word.now)) (sym c.from.ensures);
}

pub returns : goal.returns
returns c = digits_end _ _ _ _ c.loop-o.invariant.answer (omega arith) c.loop-o.invariant.below
