-- `requests::Asked::copy` meets its contract: each word by its kind, and the copy. Assumes nothing.
use Rattle.replies.specs.Laws.Told.{left_told}
use Rattle.replies.specs.Laws.Typed.{types_left}
use Rattle.requests.specs.Laws.Requests.{word_in, copy_said}
use Rattle.requests.proofs.Asked.copy.Goals as goal

pub returns : goal.returns
returns c =
    let a = c.args.self.now in
    copy_said (word_in a.line.now a.starts.now) c.small-cat.ensures c.octets-field.ensures c.list-withheld.ensures c.output-out.ensures (types_left c.copy-answer.ensures (left_told c.copy-answer.result _ c.told.ensures c.left.ensures))
