-- `taken::record` meets its contract: category, names and row are the guess's. Assumes nothing.
use mathlib.Core.Path.{ap, ◌∙◌}
use Rattle.codec.proofs.Laws.Tests.{holds}
use Rattle.papers.specs.Papers.{known}
use Rattle.spots.specs.Laws.Spots.{row-asks}
use Rattle.guess.specs.Guess.{category_in}
use Rattle.guess.proofs.Laws.Whole.{category_in_lem}
use Rattle.taken.specs.Laws.Record.{record_is}
use Rattle.taken.proofs.record.Goals as goal

pub names-items-requires : goal.names-items-requires
names-items-requires c =
    let t = c.args.text.now in
    let g = row-asks c.category-cat.result (ap known c.category-cat.ensures ∙ holds (known (category_in t)) (category_in_lem t)) c.spot_of-first.ensures c.items_of-n.ensures in
    (g.0, g.1)

pub row-requires : goal.row-requires
row-requires c =
    let t = c.args.text.now in
    row-asks c.category-cat.result (ap known c.category-cat.ensures ∙ holds (known (category_in t)) (category_in_lem t)) c.spot_of-first.ensures c.items_of-n.ensures

pub returns : goal.returns
returns c =
    record_is c.args.text.now c.category-cat.ensures c.spot_of-first.ensures c.items_of-n.ensures c.skip-t.ensures c.value.ensures c.names-items.ensures c.next.ensures (c.row.ensures.counts, c.row.ensures.kept)
