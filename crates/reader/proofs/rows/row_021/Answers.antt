-- `reader::rows::row_021` meets its contract: t1, t2, .. are the row so far behind each call. Assumes nothing.
use mathlib.Core.Path.{refl}
use native.Mathlib.Omega.{arith}
use Rattle.codec.specs.Line.{count}
use Rattle.codec.specs.Item.{slots_of, slots, lines_of, item}
use Rattle.papers.specs.Cat048.{cat048}
use Rattle.papers.specs.Cat021.{cat021}
use Rattle.papers.specs.Cat007.{cat007}
use Rattle.lengths.specs.Lines.{items, placed_from, placed_in, placed, placed_at}
use Rattle.shapes.specs.Shapes.{item_at}
use Rattle.spots.specs.Spots.{spots_from, spots, spot_at}
use Rattle.reader.specs.Rows.{place_run}
use Rattle.reader.specs.Taking.{opt_run, line_opt}
use Rattle.reader.specs.Laws.Records.{Row, none_taken, next_asks, next_taken, all_taken}
use Rattle.reader.proofs.rows.row_021.Goals as goal

pub line-bps-requires : goal.line-bps-requires
unfolding place_run opt_run line_opt spot_at spots spots_from item item_at slots slots_of placed_at placed placed_in placed_from lines_of items cat048 cat021 cat007 count
line-bps-requires c =
    let t0 : Row 5 8 _ _ _ _ 0 0 _ _ = none_taken c.args.numbers.now (omega arith, c.requires) in
    let t = t0 in (refl, refl, omega arith, next_asks t tt c.start.ensures)

pub line-selh-requires : goal.line-selh-requires
unfolding place_run opt_run line_opt spot_at spots spots_from item item_at slots slots_of placed_at placed placed_in placed_from lines_of items cat048 cat021 cat007 count
line-selh-requires c =
    let t0 : Row 5 8 _ _ _ _ 0 0 _ _ = none_taken c.args.numbers.now (omega arith, c.requires) in
    let t1 : Row 5 8 _ _ _ _ 1 1 _ _ = next_taken t0 tt c.start.ensures c.line-bps.ensures in
    let t = t1 in (refl, refl, omega arith, next_asks t tt c.start-2.ensures)

pub line-nav-requires : goal.line-nav-requires
unfolding place_run opt_run line_opt spot_at spots spots_from item item_at slots slots_of placed_at placed placed_in placed_from lines_of items cat048 cat021 cat007 count
line-nav-requires c =
    let t0 : Row 5 8 _ _ _ _ 0 0 _ _ = none_taken c.args.numbers.now (omega arith, c.requires) in
    let t1 : Row 5 8 _ _ _ _ 1 1 _ _ = next_taken t0 tt c.start.ensures c.line-bps.ensures in
    let t2 : Row 5 8 _ _ _ _ 2 4 _ _ = next_taken t1 tt c.start-2.ensures c.line-selh.ensures in
    let t = t2 in (refl, refl, omega arith, next_asks t tt c.start-3.ensures)

pub line-gao-requires : goal.line-gao-requires
unfolding place_run opt_run line_opt spot_at spots spots_from item item_at slots slots_of placed_at placed placed_in placed_from lines_of items cat048 cat021 cat007 count
line-gao-requires c =
    let t0 : Row 5 8 _ _ _ _ 0 0 _ _ = none_taken c.args.numbers.now (omega arith, c.requires) in
    let t1 : Row 5 8 _ _ _ _ 1 1 _ _ = next_taken t0 tt c.start.ensures c.line-bps.ensures in
    let t2 : Row 5 8 _ _ _ _ 2 4 _ _ = next_taken t1 tt c.start-2.ensures c.line-selh.ensures in
    let t3 : Row 5 8 _ _ _ _ 3 10 _ _ = next_taken t2 tt c.start-3.ensures c.line-nav.ensures in
    let t = t3 in (refl, refl, omega arith, next_asks t tt c.start-4.ensures)

pub sgv-sgv-requires : goal.sgv-sgv-requires
unfolding place_run opt_run line_opt spot_at spots spots_from item item_at slots slots_of placed_at placed placed_in placed_from lines_of items cat048 cat021 cat007 count
sgv-sgv-requires c =
    let t0 : Row 5 8 _ _ _ _ 0 0 _ _ = none_taken c.args.numbers.now (omega arith, c.requires) in
    let t1 : Row 5 8 _ _ _ _ 1 1 _ _ = next_taken t0 tt c.start.ensures c.line-bps.ensures in
    let t2 : Row 5 8 _ _ _ _ 2 4 _ _ = next_taken t1 tt c.start-2.ensures c.line-selh.ensures in
    let t3 : Row 5 8 _ _ _ _ 3 10 _ _ = next_taken t2 tt c.start-3.ensures c.line-nav.ensures in
    let t4 : Row 5 8 _ _ _ _ 4 12 _ _ = next_taken t3 tt c.start-4.ensures c.line-gao.ensures in
    let t = t4 in (omega arith, next_asks t tt c.start-5.ensures)

pub sta-sta-requires : goal.sta-sta-requires
unfolding place_run opt_run line_opt spot_at spots spots_from item item_at slots slots_of placed_at placed placed_in placed_from lines_of items cat048 cat021 cat007 count
sta-sta-requires c =
    let t0 : Row 5 8 _ _ _ _ 0 0 _ _ = none_taken c.args.numbers.now (omega arith, c.requires) in
    let t1 : Row 5 8 _ _ _ _ 1 1 _ _ = next_taken t0 tt c.start.ensures c.line-bps.ensures in
    let t2 : Row 5 8 _ _ _ _ 2 4 _ _ = next_taken t1 tt c.start-2.ensures c.line-selh.ensures in
    let t3 : Row 5 8 _ _ _ _ 3 10 _ _ = next_taken t2 tt c.start-3.ensures c.line-nav.ensures in
    let t4 : Row 5 8 _ _ _ _ 4 12 _ _ = next_taken t3 tt c.start-4.ensures c.line-gao.ensures in
    let t5 : Row 5 8 _ _ _ _ 5 18 _ _ = next_taken t4 tt c.start-5.ensures c.sgv-sgv.ensures in
    let t = t5 in (omega arith, next_asks t tt c.start-6.ensures)

pub line-tnh-requires : goal.line-tnh-requires
unfolding place_run opt_run line_opt spot_at spots spots_from item item_at slots slots_of placed_at placed placed_in placed_from lines_of items cat048 cat021 cat007 count
line-tnh-requires c =
    let t0 : Row 5 8 _ _ _ _ 0 0 _ _ = none_taken c.args.numbers.now (omega arith, c.requires) in
    let t1 : Row 5 8 _ _ _ _ 1 1 _ _ = next_taken t0 tt c.start.ensures c.line-bps.ensures in
    let t2 : Row 5 8 _ _ _ _ 2 4 _ _ = next_taken t1 tt c.start-2.ensures c.line-selh.ensures in
    let t3 : Row 5 8 _ _ _ _ 3 10 _ _ = next_taken t2 tt c.start-3.ensures c.line-nav.ensures in
    let t4 : Row 5 8 _ _ _ _ 4 12 _ _ = next_taken t3 tt c.start-4.ensures c.line-gao.ensures in
    let t5 : Row 5 8 _ _ _ _ 5 18 _ _ = next_taken t4 tt c.start-5.ensures c.sgv-sgv.ensures in
    let t6 : Row 5 8 _ _ _ _ 6 44 _ _ = next_taken t5 tt c.start-6.ensures c.sta-sta.ensures in
    let t = t6 in (refl, refl, omega arith, next_asks t tt c.start-7.ensures)

pub mes-mes-requires : goal.mes-mes-requires
unfolding place_run opt_run line_opt spot_at spots spots_from item item_at slots slots_of placed_at placed placed_in placed_from lines_of items cat048 cat021 cat007 count
mes-mes-requires c =
    let t0 : Row 5 8 _ _ _ _ 0 0 _ _ = none_taken c.args.numbers.now (omega arith, c.requires) in
    let t1 : Row 5 8 _ _ _ _ 1 1 _ _ = next_taken t0 tt c.start.ensures c.line-bps.ensures in
    let t2 : Row 5 8 _ _ _ _ 2 4 _ _ = next_taken t1 tt c.start-2.ensures c.line-selh.ensures in
    let t3 : Row 5 8 _ _ _ _ 3 10 _ _ = next_taken t2 tt c.start-3.ensures c.line-nav.ensures in
    let t4 : Row 5 8 _ _ _ _ 4 12 _ _ = next_taken t3 tt c.start-4.ensures c.line-gao.ensures in
    let t5 : Row 5 8 _ _ _ _ 5 18 _ _ = next_taken t4 tt c.start-5.ensures c.sgv-sgv.ensures in
    let t6 : Row 5 8 _ _ _ _ 6 44 _ _ = next_taken t5 tt c.start-6.ensures c.sta-sta.ensures in
    let t7 : Row 5 8 _ _ _ _ 7 45 _ _ = next_taken t6 tt c.start-7.ensures c.line-tnh.ensures in
    let t = t7 in (omega arith, next_asks t tt c.start-8.ensures)

pub returns : goal.returns
unfolding place_run opt_run line_opt spot_at spots spots_from item item_at slots slots_of placed_at placed placed_in placed_from lines_of items cat048 cat021 cat007 count
returns c =
    let t0 : Row 5 8 _ _ _ _ 0 0 _ _ = none_taken c.args.numbers.now (omega arith, c.requires) in
    let t1 : Row 5 8 _ _ _ _ 1 1 _ _ = next_taken t0 tt c.start.ensures c.line-bps.ensures in
    let t2 : Row 5 8 _ _ _ _ 2 4 _ _ = next_taken t1 tt c.start-2.ensures c.line-selh.ensures in
    let t3 : Row 5 8 _ _ _ _ 3 10 _ _ = next_taken t2 tt c.start-3.ensures c.line-nav.ensures in
    let t4 : Row 5 8 _ _ _ _ 4 12 _ _ = next_taken t3 tt c.start-4.ensures c.line-gao.ensures in
    let t5 : Row 5 8 _ _ _ _ 5 18 _ _ = next_taken t4 tt c.start-5.ensures c.sgv-sgv.ensures in
    let t6 : Row 5 8 _ _ _ _ 6 44 _ _ = next_taken t5 tt c.start-6.ensures c.sta-sta.ensures in
    let t7 : Row 5 8 _ _ _ _ 7 45 _ _ = next_taken t6 tt c.start-7.ensures c.line-tnh.ensures in
    let t8 : Row 5 8 _ _ _ _ 8 74 _ _ = next_taken t7 tt c.start-8.ensures c.mes-mes.ensures in
    all_taken t8 refl
