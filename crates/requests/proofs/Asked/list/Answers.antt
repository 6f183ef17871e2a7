-- `requests::Asked::list` meets its contract. Assumes nothing.
use mathlib.Core.Path.{ap, ◌∙◌}
use Rattle.std.specs.Option.{unwrap_or}
use Rattle.hex_words.specs.Octets.{list_in}
use Rattle.hex_words.specs.Laws.Octets.{list_told}
use Rattle.requests.proofs.Asked.list.Goals as goal

pub returns : goal.returns
returns c =
    c.unwrap_or.ensures ∙ ap (λ o. unwrap_or o 0) c.list.ensures ∙ list_told c.word.result.now ∙ ap list_in c.word.ensures
