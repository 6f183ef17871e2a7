-- `replies::refusal` meets its contract: the words stand one behind the other. Assumes nothing.
use Rattle.text.specs.Laws.Typing.{types_behind}
use Rattle.replies.specs.Texts.{next, refusal_text}
use Rattle.replies.proofs.refusal.Goals as goal

pub returns : goal.returns
unfolding next refusal_text
returns c = types_behind c.word.ensures (types_behind c.next.ensures c.next-2.ensures)
