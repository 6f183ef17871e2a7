-- `reader::rows::row_048` meets its contract: t1, t2, .. are the row so far behind each call. Assumes nothing.
use mathlib.Core.Path.{refl}
use native.Mathlib.Omega.{arith}
use Rattle.codec.specs.Line.{count}
use Rattle.codec.specs.Item.{slots_of, slots, lines_of, item}
use Rattle.papers.specs.Cat048.{cat048}
use Rattle.papers.specs.Cat021.{cat021}
use Rattle.papers.specs.Cat007.{cat007}
use Rattle.lengths.specs.Lines.{items, placed_from, placed_in, placed, placed_at}
use Rattle.shapes.specs.Shapes.{item_at}
use Rattle.spots.specs.Spots.{spots_from, spots, spot_at}
use Rattle.reader.specs.Rows.{place_run}
use Rattle.reader.specs.Taking.{opt_run, line_opt}
use Rattle.reader.specs.Laws.Records.{Row, none_taken, next_asks, next_taken, all_taken}
use Rattle.reader.proofs.rows.row_048.Goals as goal

pub md5-md5-requires : goal.md5-md5-requires
unfolding place_run opt_run line_opt spot_at spots spots_from item item_at slots slots_of placed_at placed placed_in placed_from lines_of items cat048 cat021 cat007 count
md5-md5-requires c =
    let t0 : Row 0 5 _ _ _ _ 0 0 _ _ = none_taken c.args.numbers.now (omega arith, c.requires) in
    let t = t0 in (omega arith, next_asks t tt c.start.ensures)

pub m5n-m5n-requires : goal.m5n-m5n-requires
unfolding place_run opt_run line_opt spot_at spots spots_from item item_at slots slots_of placed_at placed placed_in placed_from lines_of items cat048 cat021 cat007 count
m5n-m5n-requires c =
    let t0 : Row 0 5 _ _ _ _ 0 0 _ _ = none_taken c.args.numbers.now (omega arith, c.requires) in
    let t1 : Row 0 5 _ _ _ _ 1 33 _ _ = next_taken t0 tt c.start.ensures c.md5-md5.ensures in
    let t = t1 in (omega arith, next_asks t tt c.start-2.ensures)

pub m4e-m4e-requires : goal.m4e-m4e-requires
unfolding place_run opt_run line_opt spot_at spots spots_from item item_at slots slots_of placed_at placed placed_in placed_from lines_of items cat048 cat021 cat007 count
m4e-m4e-requires c =
    let t0 : Row 0 5 _ _ _ _ 0 0 _ _ = none_taken c.args.numbers.now (omega arith, c.requires) in
    let t1 : Row 0 5 _ _ _ _ 1 33 _ _ = next_taken t0 tt c.start.ensures c.md5-md5.ensures in
    let t2 : Row 0 5 _ _ _ _ 2 67 _ _ = next_taken t1 tt c.start-2.ensures c.m5n-m5n.ensures in
    let t = t2 in (omega arith, next_asks t tt c.start-3.ensures)

pub rpc-rpc-requires : goal.rpc-rpc-requires
unfolding place_run opt_run line_opt spot_at spots spots_from item item_at slots slots_of placed_at placed placed_in placed_from lines_of items cat048 cat021 cat007 count
rpc-rpc-requires c =
    let t0 : Row 0 5 _ _ _ _ 0 0 _ _ = none_taken c.args.numbers.now (omega arith, c.requires) in
    let t1 : Row 0 5 _ _ _ _ 1 33 _ _ = next_taken t0 tt c.start.ensures c.md5-md5.ensures in
    let t2 : Row 0 5 _ _ _ _ 2 67 _ _ = next_taken t1 tt c.start-2.ensures c.m5n-m5n.ensures in
    let t3 : Row 0 5 _ _ _ _ 3 68 _ _ = next_taken t2 tt c.start-3.ensures c.m4e-m4e.ensures in
    let t = t3 in (omega arith, next_asks t tt c.start-4.ensures)

pub line-err-requires : goal.line-err-requires
unfolding place_run opt_run line_opt spot_at spots spots_from item item_at slots slots_of placed_at placed placed_in placed_from lines_of items cat048 cat021 cat007 count
line-err-requires c =
    let t0 : Row 0 5 _ _ _ _ 0 0 _ _ = none_taken c.args.numbers.now (omega arith, c.requires) in
    let t1 : Row 0 5 _ _ _ _ 1 33 _ _ = next_taken t0 tt c.start.ensures c.md5-md5.ensures in
    let t2 : Row 0 5 _ _ _ _ 2 67 _ _ = next_taken t1 tt c.start-2.ensures c.m5n-m5n.ensures in
    let t3 : Row 0 5 _ _ _ _ 3 68 _ _ = next_taken t2 tt c.start-3.ensures c.m4e-m4e.ensures in
    let t4 : Row 0 5 _ _ _ _ 4 76 _ _ = next_taken t3 tt c.start-4.ensures c.rpc-rpc.ensures in
    let t = t4 in (refl, refl, omega arith, next_asks t tt c.start-5.ensures)

pub returns : goal.returns
unfolding place_run opt_run line_opt spot_at spots spots_from item item_at slots slots_of placed_at placed placed_in placed_from lines_of items cat048 cat021 cat007 count
returns c =
    let t0 : Row 0 5 _ _ _ _ 0 0 _ _ = none_taken c.args.numbers.now (omega arith, c.requires) in
    let t1 : Row 0 5 _ _ _ _ 1 33 _ _ = next_taken t0 tt c.start.ensures c.md5-md5.ensures in
    let t2 : Row 0 5 _ _ _ _ 2 67 _ _ = next_taken t1 tt c.start-2.ensures c.m5n-m5n.ensures in
    let t3 : Row 0 5 _ _ _ _ 3 68 _ _ = next_taken t2 tt c.start-3.ensures c.m4e-m4e.ensures in
    let t4 : Row 0 5 _ _ _ _ 4 76 _ _ = next_taken t3 tt c.start-4.ensures c.rpc-rpc.ensures in
    let t5 : Row 0 5 _ _ _ _ 5 77 _ _ = next_taken t4 tt c.start-5.ensures c.line-err.ensures in
    all_taken t5 refl
