use Rattle.std.proofs.Common.{length, drop, sym, ap, ◌∙◌, ◌+◌, arith}
use Rattle.protocol.specs.Laws.Line.{place_next, place_past, word_length_lem}
use Rattle.protocol.proofs.next_place.Goals as goal

pub returns-then-line-at : goal.returns-then-line-at
returns-then-line-at c = let a = c.args in sym (place_past a.line.now a.at c.if-line-at.true)

pub returns : goal.returns
returns c =
    let a = c.args in
    let counted = ap length c.word_at.ensures ∙ word_length_lem (drop a.at a.line.now) in
    ap (λ n. a.at + n + 1) counted ∙ sym (place_next a.line.now a.at (omega arith))
