-- `text::Text::pair` meets its contract: key, =, value and line feed stand one behind the other. Assumes nothing.
use Rattle.text.specs.Laws.Typing.{types_line}
use Rattle.text.proofs.Text.pair.Goals as goal

pub returns : goal.returns
returns g c = types_line c.args.key.now _ c.word.ensures c.octet.ensures c.type_into.ensures c.line_end.ensures
