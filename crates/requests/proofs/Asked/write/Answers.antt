-- `requests::Asked::write` meets its contract: the room, the record, and the field. Assumes nothing.
use Rattle.replies.specs.Laws.Told.{left_told}
use Rattle.replies.specs.Laws.Typed.{types_left}
use Rattle.requests.specs.Laws.Requests.{word_in, words_from, record_is, write_said}
use Rattle.requests.proofs.Asked.write.Goals as goal

pub returns : goal.returns
returns c =
    let a = c.args.self.now in
    write_said (word_in a.line.now a.starts.now) (words_from a.line.now a.starts.now) (record_is a.line.now _ c.requires c.record_at-kept.ensures) c.output-out.ensures (types_left c.write-answer.ensures (left_told c.write-answer.result _ c.told.ensures c.left.ensures))
