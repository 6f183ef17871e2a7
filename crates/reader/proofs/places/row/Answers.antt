-- `reader::places::row` meets its contract: the row of a category is that of its spots. Assumes nothing.
use Rattle.reader.specs.Laws.Places.{row_048, row_021, row_007}
use Rattle.reader.proofs.places.row.Goals as goal

pub returns-in-48 : goal.returns-in-48
returns-in-48 c = let a = c.args in row_048 a.cat a.ind a.s.now c.in-48.is c.row_048.ensures

pub returns-in-21 : goal.returns-in-21
returns-in-21 c = let a = c.args in row_021 a.cat a.ind a.s.now c.in-21.is c.row_021.ensures

pub returns-in_default : goal.returns-in_default
returns-in_default c =
    let a = c.args in
    row_007 a.cat a.ind a.s.now c.requires.1 c.in_default.in_default-own.rest.0.1 c.in_default.in_default-own.rest.1 c.row_007.ensures

pub row_048-requires : goal.row_048-requires
row_048-requires c = c.requires.0

pub row_021-requires : goal.row_021-requires
row_021-requires c = c.requires.0

pub row_007-requires : goal.row_007-requires
row_007-requires c = c.requires.0
