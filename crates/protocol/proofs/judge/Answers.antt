-- From each row that the loop reaches the judgement is the same.
use Rattle.std.proofs.Common.{sym, ap, ◌∙◌, arith, rules}
use Rattle.protocol.specs.Line.{words_of}
use Rattle.protocol.specs.Requests.{asked_or}
use Rattle.protocol.specs.Laws.Forms.{name_of}
use Rattle.protocol.specs.Laws.Requests.{asked_by, judged_end, judged_here, judged_more}
use Rattle.protocol.proofs.judge.Goals as goal

pub returns-then-eq : goal.returns-then-eq
returns-then-eq c =
    let ws = words_of c.args.line.now in
    let said = asked_by _ c.first_wrong.result c.map_or.result c.map_or.ensures (λ n q. search rules) in
    said ∙ ap (asked_or _) c.first_wrong.ensures
    ∙ sym (judged_here c.args.rows.now ws c.loop-row.row-index (omega arith) _ (c.word_at-name.ensures ∙ name_of _) c.if-eq.ensures)
    ∙ c.loop-row.invariant

pub loop-row-preserved : goal.loop-row-preserved
loop-row-preserved c =
    let ws = words_of c.args.line.now in
    sym (judged_more c.args.rows.now ws c.loop-row.row-index (omega arith) _ (c.word_at-name.ensures ∙ name_of _) c.if-eq.ensures) ∙ c.loop-row.invariant

pub returns : goal.returns
returns c = sym (judged_end c.args.rows.now (words_of c.args.line.now) c.loop-row.row-index (omega arith)) ∙ c.loop-row.invariant
