use Rattle.std.proofs.Common.{is_some, ◌∙◌, rules, tests}
use Rattle.std.proofs.lemmas.Iterator.Search.{all_from_yields_List}
use Rattle.std.proofs.lemmas.Iterator.{YieldsList-from_slice}
use Rattle.hex_words.specs.Octets.{digit_in, hex_digit}
use Rattle.hex_words.specs.Laws.Octets.{hex_all}
use Rattle.hex_words.proofs.are_hex.Goals as goal

pub returns : goal.returns
returns c =
    all_from_yields_List (λ o. is_some (digit_in (hex_digit o))) _ _ c.all.result c.all.ensures.ran (YieldsList-from_slice _ c.iter.ensures.rest) (λ o b q k. search (rules, tests))
    ∙ hex_all c.args.word.now
