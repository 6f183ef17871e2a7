-- `requests::answer` meets its contract: what the parser says of the line is answered. Assumes nothing.
use Rattle.requests.specs.Laws.Requests.{asked_short, answer_asks, answer_wrong}
use Rattle.requests.proofs.answer.Goals.{in-Ok, in-Err}
use Rattle.requests.proofs.answer.Goals as goal

pub answer-requires : goal.answer-requires
answer-requires c = asked_short c.args.line.now c.parse-parsed.ensures _ c.in-Ok.is

pub returns : goal.returns
returns c =
    let line = c.args.line.now in
    elim c.match-parsed.branch [
      | in-Ok w ↦ answer_asks line c.parse-parsed.ensures _ w.in-Ok.is w.answer.ensures (rw w.reply-is at c.line_end.ensures)
      | in-Err w ↦ answer_wrong line c.parse-parsed.ensures _ w.in-Err.is w.bad_request.ensures (rw w.reply-is at c.line_end.ensures)
    ]
