-- `text::Text::hex_pair` meets its contract: one digit behind the other. Assumes nothing.
use Rattle.text.specs.Laws.Hex.{types_pair}
use Rattle.text.proofs.Text.hex_pair.Goals as goal

pub returns : goal.returns
returns c =
    types_pair c.args.o c.hex_digit.ensures c.hex_digit-2.ensures c.octet.ensures c.octet-2.ensures
