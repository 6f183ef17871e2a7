use Rattle.std.proofs.Common.{◌∙◌, ap, pos, unwrap_or, option_and_then, rules, tests}
use Rattle.std.specs.Bool.{then_some}
use Rattle.words.specs.Numbers.{within_32, signed_in}
use Rattle.walk.specs.Ranges.{between}
use Rattle.walk.specs.Laws.Lines.{filtered}
use Rattle.walk.specs.Laws.Ranges.{ranged_told}
use Rattle.walk.proofs.ranged.Goals as goal

pub returns : goal.returns
unfolding between
returns c =
    let lo = c.args.lo in
    let hi = c.args.hi in
    let left = filtered (between lo hi) c.signed.result c.filter.result c.filter.ensures (λ n b q. search (rules, tests)) in
    let number = c.signed.ensures ∙ ap (λ v. within_32 (signed_in v)) c.value.ensures in
    search rules ∙ c.unwrap_or.ensures ∙ ap (λ o. unwrap_or o (pos 0)) (left ∙ ap (option_and_then (λ z. then_some (between lo hi z) z)) number) ∙ ranged_told lo hi c.args.t.now
