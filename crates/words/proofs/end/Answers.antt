-- The place of the first space, or the length.
use Rattle.std.proofs.Common.{nat_eq, length, unwrap_or, ap, ◌∙◌, rules, tests}
use Rattle.std.proofs.lemmas.Iterator.Search.{position_from_yields_List}
use Rattle.std.proofs.lemmas.Iterator.{YieldsList-from_slice}
use Rattle.words.specs.Laws.Lines.{word_length_is}
use Rattle.words.proofs.end.Goals as goal

pub returns : goal.returns
returns c =
    let rest = c.args.rest.now in
    let place = position_from_yields_List (λ o. nat_eq o 32) _ _ c.position.result c.position.ensures.ran (YieldsList-from_slice _ c.iter.ensures.rest) (λ x b q k. search (rules, tests)) in
    c.unwrap_or.ensures ∙ ap (λ p. unwrap_or p (length rest)) place ∙ word_length_is rest
