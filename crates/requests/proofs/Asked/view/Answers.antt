-- `requests::Asked::view` meets its contract: each word by its kind, and the view. Assumes nothing.
use Rattle.std.proofs.Common.{ap₂}
use Rattle.text.specs.Laws.Typing.{types_as}
use Rattle.replies.specs.Texts.{view_text}
use Rattle.replies.specs.Laws.Told.{view_told}
use Rattle.requests.specs.Laws.Requests.{word_in, view_said}
use Rattle.requests.proofs.Asked.view.Goals as goal

pub returns : goal.returns
returns c =
    let a = c.args.self.now in
    view_said (word_in a.line.now a.starts.now) c.small-cat.ensures c.octets-field.ensures c.small-item.ensures (types_as (ap₂ view_text c.view_answer-view.ensures c.view.ensures.result_value) (view_told c.view_answer-view.result _ c.told.ensures c.view_text.ensures))
