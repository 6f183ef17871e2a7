-- `replies::bad_request` meets its contract. Assumes nothing.
use Rattle.text.specs.Laws.Typing.{types_behind}
use Rattle.replies.specs.Texts.{next, bad_request}
use Rattle.replies.proofs.bad_request.Goals as goal

pub returns : goal.returns
unfolding next bad_request
returns c = types_behind c.word.ensures c.next.ensures
