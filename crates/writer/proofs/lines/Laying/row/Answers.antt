-- `writer::lines::Laying::row` meets its contract: what lays the items that are left lays the row. Assumes nothing.
use Rattle.std.proofs.Common.{refl, arith}
use Rattle.codec.specs.Field.{flags}
use Rattle.writer.specs.Laws.Rows.{row_begins, row_asks, row_next, row_laid}
use Rattle.writer.proofs.lines.Laying.row.Goals as goal

pub place-requires : goal.place-requires
place-requires c =
    let a = c.args in
    (row_asks (flags a.kept.now.items) a.kept.now.parts a.kept.now.numbers a.k a.n c.loop-i.i c.loop-i-test.true c.loop-i.invariant.asks).0

pub loop-i-init : goal.loop-i-init
loop-i-init c =
    let a = c.args in let k = a.kept.now in
    let begun = row_begins (flags k.items) k.parts k.numbers a.k a.n c.requires.2 a.self.now.octets a.self.now.at in
    record { asks = begun.0; behind = begun.1 }

pub loop-i-preserved : goal.loop-i-preserved
loop-i-preserved c =
    let a = c.args in let k = a.kept.now in
    let so_far = c.loop-i.invariant in
    let asks = (row_asks (flags k.items) k.parts k.numbers a.k a.n c.loop-i.i c.loop-i-test.true so_far.asks).1 in
    record { asks = asks; behind = row_next (flags k.items) k.parts k.numbers a.k a.n c.loop-i.i c.loop-i-test.true so_far.asks c.present-there.ensures refl c.place.ensures so_far.behind }

pub returns : goal.returns
returns c =
    let a = c.args in let k = a.kept.now in
    row_laid (flags k.items) k.parts k.numbers a.k a.n c.loop-i.i (omega arith) c.loop-i.invariant.behind
