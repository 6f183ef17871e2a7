-- `reader::rows::row` meets its contract: the row of each category. Assumes nothing.
use Rattle.codec.specs.Field.{flags}
use Rattle.reader.specs.Laws.Records.{fits_of, taken_of, place_048, place_021, place_007}
use Rattle.reader.proofs.rows.row.Goals as goal

pub row_048-requires : goal.row_048-requires
row_048-requires c = fits_of c.args.cat (place_048 c.args.cat c.in-48.is) c.requires.1

pub row_021-requires : goal.row_021-requires
row_021-requires c = fits_of c.args.cat (place_021 c.args.cat c.in-21.is) c.requires.1

pub row_007-requires : goal.row_007-requires
row_007-requires c = let w = c.in_default.in_default-own.rest in fits_of c.args.cat (place_007 c.args.cat c.requires.0 w.0.1 w.1) c.requires.1

pub returns-in-48 : goal.returns-in-48
returns-in-48 c = let a = c.args in taken_of a.cat (place_048 a.cat c.in-48.is) (flags a.found.now.items) a.s.now c.row_048.ensures

pub returns-in-21 : goal.returns-in-21
returns-in-21 c = let a = c.args in taken_of a.cat (place_021 a.cat c.in-21.is) (flags a.found.now.items) a.s.now c.row_021.ensures

pub returns-in_default : goal.returns-in_default
returns-in_default c = let a = c.args in taken_of a.cat (place_007 a.cat c.requires.0 c.in_default.in_default-own.rest.0.1 c.in_default.in_default-own.rest.1) (flags a.found.now.items) a.s.now c.row_007.ensures
