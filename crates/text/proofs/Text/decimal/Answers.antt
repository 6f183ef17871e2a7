-- `text::Text::decimal` meets its contract: twenty digits are enough. Assumes nothing.
use Rattle.text.specs.Laws.Typing.{types_decimal}
use Rattle.text.proofs.Text.decimal.Goals as goal

pub returns : goal.returns
returns c = types_decimal c.args.n c.digits.ensures
