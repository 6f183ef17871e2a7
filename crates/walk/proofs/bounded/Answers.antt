use Rattle.std.proofs.Common.{◌∙◌, ap, leb, unwrap_or, option_and_then, rules, tests}
use Rattle.std.specs.Bool.{then_some}
use Rattle.words.specs.Numbers.{at_most, number_in}
use Rattle.walk.specs.Laws.Lines.{filtered, bounded_told}
use Rattle.walk.proofs.bounded.Goals as goal

pub returns : goal.returns
returns c =
    let lo = c.args.lo in
    let hi = c.args.hi in
    let left = filtered (leb lo) c.number.result c.filter.result c.filter.ensures (λ n b q. search (rules, tests)) in
    let number = c.number.ensures ∙ ap (λ v. at_most hi (number_in hi v)) c.value.ensures in
    c.from.ensures ∙ c.unwrap_or.ensures ∙ ap (λ o. unwrap_or o lo) (left ∙ ap (option_and_then (λ n. then_some (leb lo n) n)) number) ∙ bounded_told lo hi c.args.t.now
