use Rattle.std.proofs.Common.{rules}
use Rattle.words.specs.Laws.Numbers.{value_by}
use Rattle.words.proofs.room.Goals as goal

pub returns : goal.returns
returns c = value_by 300 _ c.number.result _ c.number.ensures c.map_or.ensures (λ n h q. search rules)
