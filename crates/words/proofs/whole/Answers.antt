use Rattle.std.proofs.Common.{◌∙◌, ap, pos, unwrap_or, rules}
use Rattle.words.specs.Laws.Numbers.{whole_told}
use Rattle.words.proofs.whole.Goals as goal

pub returns : goal.returns
returns c = search rules ∙ c.unwrap_or.ensures ∙ ap (λ o. unwrap_or o (pos 0)) c.signed.ensures ∙ whole_told _
