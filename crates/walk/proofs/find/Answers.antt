-- The place of the first octet x, or the length.
use Rattle.std.proofs.Common.{nat_eq, length, unwrap_or, ap, ◌∙◌, rules, tests}
use Rattle.std.proofs.lemmas.Iterator.Search.{position_from_yields_List}
use Rattle.std.proofs.lemmas.Iterator.{YieldsList-from_slice}
use Rattle.walk.specs.Laws.Lines.{place_is}
use Rattle.walk.proofs.find.Goals as goal

pub returns : goal.returns
returns c =
    let x = c.args.x in
    let s = c.args.s.now in
    let place = position_from_yields_List (λ o. nat_eq o x) _ _ c.position.result c.position.ensures.ran (YieldsList-from_slice _ c.iter.ensures.rest) (λ o b q k. search (rules, tests)) in
    c.unwrap_or.ensures ∙ ap (λ p. unwrap_or p (length s)) place ∙ place_is x s
