-- `writer::lay` meets its contract: LEN is known last. Assumes nothing.
use Rattle.std.proofs.Common.{refl, arith}
use Rattle.spots.specs.Laws.Spots.{row-asks}
use Rattle.writer.specs.Laws.Frames.{lay_front}
use Rattle.writer.proofs.lay.Goals as goal

pub row-requires : goal.row-requires
row-requires c =
    let g = row-asks c.args.kept.now.cat c.requires.0 c.spot_of-first.ensures c.items_of-n.ensures in
    (g.0, omega (arith, g), g.2)

pub returns : goal.returns
returns c =
    let a = c.args in let k = a.kept.now in
    lay_front k.cat k.items k.parts k.numbers c.requires.0 a.octets.now c.requires.1 c.spot_of-first.ensures c.items_of-n.ensures refl c.row.ensures c.octet.ensures refl
