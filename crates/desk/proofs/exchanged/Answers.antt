-- `desk::exchanged` meets its contract. Assumes nothing.
use Rattle.desk.specs.Laws.Edits.{exchange_parts, exchange_leaves}
use Rattle.desk.proofs.exchanged.Goals as goal

pub spliced-requires : goal.spliced-requires
spliced-requires c =
    let a = c.args in
    exchange_parts a.field.now a.found.len a.found.starts a.item a.new.now c.wide-i.ensures.0 c.wide-from.ensures.0 c.wide-to.ensures.0 c.requires

pub returns : goal.returns
returns c =
    let a = c.args in
    exchange_leaves a.field.now a.found.len a.found.starts a.item a.new.now c.wide-i.ensures.0 c.wide-from.ensures.0 c.wide-to.ensures.0 a.items c.spliced.ensures
