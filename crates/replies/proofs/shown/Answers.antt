-- `replies::shown` meets its contract: the words stand one behind the other. Assumes nothing.
use Rattle.text.specs.Laws.Typing.{types_behind}
use Rattle.replies.specs.Texts.{next, next_octets, shown_text}
use Rattle.replies.proofs.shown.Goals as goal

pub returns : goal.returns
unfolding next next_octets shown_text
returns c = types_behind c.next.ensures (types_behind c.next-2.ensures c.next-3.ensures)
