-- `requests::Asked::choose` meets its contract: each word by its kind, and the choice. Assumes nothing.
use Rattle.std.proofs.Common.{ap₂}
use Rattle.text.specs.Laws.Typing.{types_as}
use Rattle.replies.specs.Texts.{choice_text}
use Rattle.replies.specs.Laws.Told.{choice_told}
use Rattle.requests.specs.Laws.Requests.{word_in, choose_said}
use Rattle.requests.proofs.Asked.choose.Goals as goal

pub returns : goal.returns
returns c =
    let a = c.args.self.now in
    choose_said (word_in a.line.now a.starts.now) c.small-cat.ensures c.octets-base.ensures c.octets-correction.ensures c.small-item.ensures (types_as (ap₂ choice_text c.choose_answer-choice.ensures c.choose-part.ensures.result_value) (choice_told c.choose_answer-choice.result _ c.told.ensures c.choice_text.ensures))
