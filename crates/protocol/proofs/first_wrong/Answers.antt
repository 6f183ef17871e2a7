-- From each word that the loop reaches the answer is the same.
use Rattle.std.proofs.Common.{◌+◌, drop, sym, ap, ◌∙◌, arith}
use Rattle.protocol.specs.Line.{words_at}
use Rattle.protocol.specs.Forms.{fits, first_wrong, wrong_word}
use Rattle.protocol.specs.Laws.Forms.{some_missing, some_here, wrong_more, none_wrong, some_over, wrong_start}
use Rattle.protocol.proofs.first_wrong.Goals as goal

pub loop-kind-init : goal.loop-kind-init
loop-kind-init c = record { counted = omega arith; answer = wrong_start c.args.kinds.now c.args.line.now c.next_place-at.ensures }

pub returns-then-line-at : goal.returns-then-line-at
returns-then-line-at c =
    some_missing c.args.kinds.now c.args.line.now c.loop-kind.kind-index c.loop-kind.at c.loop-kind.n (omega arith) (omega arith) c.if-line-at.true ∙ ap wrong_word (sym c.loop-kind.invariant.answer)

pub returns-then-not-fits : goal.returns-then-not-fits
returns-then-not-fits c =
    some_here c.args.kinds.now c.args.line.now c.loop-kind.kind-index c.loop-kind.at c.loop-kind.n (omega arith) (omega arith) (omega arith) (sym (c.fits.ensures ∙ ap (fits _) c.word_at.ensures) ∙ c.if-not-fits.true) ∙ ap wrong_word (sym c.loop-kind.invariant.answer)

pub loop-kind-preserved : goal.loop-kind-preserved
loop-kind-preserved c = record {
  counted = omega arith;
  answer = c.loop-kind.invariant.answer
      ∙ wrong_more c.args.kinds.now c.args.line.now c.loop-kind.kind-index c.loop-kind.at c.loop-kind.n (omega arith) (omega arith) (sym (c.fits.ensures ∙ ap (fits _) c.word_at.ensures) ∙ c.if-not-fits.false)
      ∙ ap (λ at. first_wrong (drop (c.loop-kind.kind-index + 1) c.args.kinds.now) (words_at c.args.line.now at) (c.loop-kind.n + 1)) (sym c.next_place-at-in-loop-kind.ensures);
}

pub returns-then-line-at-2 : goal.returns-then-line-at-2
returns-then-line-at-2 c = none_wrong c.args.kinds.now c.args.line.now c.loop-kind.kind-index c.loop-kind.at c.loop-kind.n (omega arith) c.if-line-at-2.true ∙ ap wrong_word (sym c.loop-kind.invariant.answer)

pub returns : goal.returns
returns c = some_over c.args.kinds.now c.args.line.now c.loop-kind.kind-index c.loop-kind.at c.loop-kind.n (omega arith) (omega arith) (omega arith) ∙ ap wrong_word (sym c.loop-kind.invariant.answer)
