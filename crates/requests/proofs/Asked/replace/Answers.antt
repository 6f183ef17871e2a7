-- `requests::Asked::replace` meets its contract: each word by its kind, and the edit. Assumes nothing.
use Rattle.replies.specs.Laws.Told.{left_told}
use Rattle.replies.specs.Laws.Typed.{types_left}
use Rattle.requests.specs.Laws.Requests.{word_in, replace_said}
use Rattle.requests.proofs.Asked.replace.Goals as goal

pub returns : goal.returns
returns c =
    let a = c.args.self.now in
    replace_said (word_in a.line.now a.starts.now) c.small-cat.ensures c.octets-field.ensures c.list-list.ensures c.small-item.ensures c.octets-new.ensures c.output-out.ensures (types_left c.replace-answer.ensures (left_told c.replace-answer.result _ c.told.ensures c.left.ensures))
