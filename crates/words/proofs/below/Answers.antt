-- A magnitude of 32 bits is far from the ends of 64.
use Rattle.std.proofs.Common.{◌∙◌, rules}
use Rattle.std.proofs.lemmas.Int.{ints}
use Rattle.words.specs.Laws.Numbers.{not_below, below_told}
use Rattle.words.proofs.below.Goals as goal

pub returns-then-magnitude-eq0 : goal.returns-then-magnitude-eq0
returns-then-magnitude-eq0 c = not_below c.args.magnitude c.if-magnitude-eq0.true

pub returns : goal.returns
returns c = c.ok.ensures.value ∙ below_told c.args.magnitude c.if-magnitude-eq0.false c.try_from.result (search (rules, ints))
