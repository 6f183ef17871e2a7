-- CAT, ITEMS, the parts and the numbers one behind the other.
use Rattle.protocol.specs.Laws.Record.{record_taken}
use Rattle.protocol.proofs.record_in.Goals as goal

pub returns : goal.returns
returns c =
    record_taken c.args.line.now c.args.at c.values-last.result.1 c.word_at.ensures c.small-cat.ensures c.next_place-second.ensures c.word_at-2.ensures c.small-items.ensures c.next_place-third.ensures
    c.values-last.ensures.values c.values-last.ensures.behind c.values.ensures.values
