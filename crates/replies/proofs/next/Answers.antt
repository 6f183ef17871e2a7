-- `replies::next` meets its contract: the word stands behind its space. Assumes nothing.
use Rattle.text.specs.Laws.Typing.{types_behind}
use Rattle.replies.proofs.next.Goals as goal

pub returns : goal.returns
returns g c = types_behind c.word.ensures c.type_into.ensures
