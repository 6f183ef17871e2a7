-- `reader::places::row_021` meets its contract: one law at each item. Assumes nothing.
use mathlib.Core.Path.{refl}
use borrow.Author.Rules.{rules}
use Rattle.codec.specs.Field.{flags}
use Rattle.reader.specs.Laws.Tables.{total, cut, first_flag, next_flags, count, slots, slots_of, item, cat048, cat021, cat007, items, placed_from, placed_in, placed, placed_at, lines_of, item_at, spots_from, spots, spot_at, line_run, item_run}
use Rattle.reader.specs.Places.{places_on, places_from}
use Rattle.reader.specs.Laws.Places.{kept_none, kept_on, kept_row, row_stop}
use Rattle.reader.specs.Laws.Seen.{went_by}
use Rattle.reader.proofs.places.row_021.Goals as goal

pub returns-in_err-bps : goal.returns-in_err-bps
unfolding places_from places_on first_flag next_flags cut total item_run line_run item item_at slots slots_of count spot_at spots spots_from placed_at placed placed_in placed_from lines_of items cat048 cat021 cat007
returns-in_err-bps c =
    let xs = c.args.s.now in
    row_stop 6 7 (next_flags (flags c.args.ind)) xs c.in_err-bps.field-0.0 c.from_residual.ensures.1 (kept_on 5 _ xs kept_none c.in_err-bps.ensures).ends

pub returns-in_err-selh : goal.returns-in_err-selh
unfolding places_from places_on first_flag next_flags cut total item_run line_run item item_at slots slots_of count spot_at spots spots_from placed_at placed placed_in placed_from lines_of items cat048 cat021 cat007
returns-in_err-selh c =
    let xs = c.args.s.now in
    row_stop 7 6 (next_flags (next_flags (flags c.args.ind))) xs c.in_err-selh.field-0.0 c.from_residual-in_err-selh.ensures.1 (kept_on 6 _ xs (kept_on 5 _ xs kept_none c.in_ok-bps.ensures) c.in_err-selh.ensures).ends

pub returns-in_err-nav : goal.returns-in_err-nav
unfolding places_from places_on first_flag next_flags cut total item_run line_run item item_at slots slots_of count spot_at spots spots_from placed_at placed placed_in placed_from lines_of items cat048 cat021 cat007
returns-in_err-nav c =
    let xs = c.args.s.now in
    row_stop 8 5 (next_flags (next_flags (next_flags (flags c.args.ind)))) xs c.in_err-nav.field-0.0 c.from_residual-in_err-nav.ensures.1 (kept_on 7 _ xs (kept_on 6 _ xs (kept_on 5 _ xs kept_none c.in_ok-bps.ensures) c.in_ok-selh.ensures) c.in_err-nav.ensures).ends

pub returns-in_err-gao : goal.returns-in_err-gao
unfolding places_from places_on first_flag next_flags cut total item_run line_run item item_at slots slots_of count spot_at spots spots_from placed_at placed placed_in placed_from lines_of items cat048 cat021 cat007
returns-in_err-gao c =
    let xs = c.args.s.now in
    row_stop 9 4 (next_flags (next_flags (next_flags (next_flags (flags c.args.ind))))) xs c.in_err-gao.field-0.0 c.from_residual-in_err-gao.ensures.1 (kept_on 8 _ xs (kept_on 7 _ xs (kept_on 6 _ xs (kept_on 5 _ xs kept_none c.in_ok-bps.ensures) c.in_ok-selh.ensures) c.in_ok-nav.ensures) c.in_err-gao.ensures).ends

pub returns-in_err-sgv : goal.returns-in_err-sgv
unfolding places_from places_on first_flag next_flags cut total item_run line_run item item_at slots slots_of count spot_at spots spots_from placed_at placed placed_in placed_from lines_of items cat048 cat021 cat007
returns-in_err-sgv c =
    let xs = c.args.s.now in
    row_stop 10 3 (next_flags (next_flags (next_flags (next_flags (next_flags (flags c.args.ind)))))) xs c.in_err-sgv.field-0.0 c.from_residual-in_err-sgv.ensures.1 (kept_on 9 _ xs (kept_on 8 _ xs (kept_on 7 _ xs (kept_on 6 _ xs (kept_on 5 _ xs kept_none c.in_ok-bps.ensures) c.in_ok-selh.ensures) c.in_ok-nav.ensures) c.in_ok-gao.ensures) (went_by c.in_err-sgv.ensures (λ p. search rules))).ends

pub returns-in_err-sta : goal.returns-in_err-sta
unfolding places_from places_on first_flag next_flags cut total item_run line_run item item_at slots slots_of count spot_at spots spots_from placed_at placed placed_in placed_from lines_of items cat048 cat021 cat007
returns-in_err-sta c =
    let xs = c.args.s.now in
    row_stop 11 2 (next_flags (next_flags (next_flags (next_flags (next_flags (next_flags (flags c.args.ind))))))) xs c.in_err-sta.field-0.0 c.from_residual-in_err-sta.ensures.1 (kept_on 10 _ xs (kept_on 9 _ xs (kept_on 8 _ xs (kept_on 7 _ xs (kept_on 6 _ xs (kept_on 5 _ xs kept_none c.in_ok-bps.ensures) c.in_ok-selh.ensures) c.in_ok-nav.ensures) c.in_ok-gao.ensures) (went_by c.in_ok-sgv.ensures (λ p. search rules))) (went_by c.in_err-sta.ensures (λ p. search rules))).ends

pub returns-in_err-tnh : goal.returns-in_err-tnh
unfolding places_from places_on first_flag next_flags cut total item_run line_run item item_at slots slots_of count spot_at spots spots_from placed_at placed placed_in placed_from lines_of items cat048 cat021 cat007
returns-in_err-tnh c =
    let xs = c.args.s.now in
    row_stop 12 1 (next_flags (next_flags (next_flags (next_flags (next_flags (next_flags (next_flags (flags c.args.ind)))))))) xs c.in_err-tnh.field-0.0 c.from_residual-in_err-tnh.ensures.1 (kept_on 11 _ xs (kept_on 10 _ xs (kept_on 9 _ xs (kept_on 8 _ xs (kept_on 7 _ xs (kept_on 6 _ xs (kept_on 5 _ xs kept_none c.in_ok-bps.ensures) c.in_ok-selh.ensures) c.in_ok-nav.ensures) c.in_ok-gao.ensures) (went_by c.in_ok-sgv.ensures (λ p. search rules))) (went_by c.in_ok-sta.ensures (λ p. search rules))) c.in_err-tnh.ensures).ends

pub returns-in_err-mes : goal.returns-in_err-mes
unfolding places_from places_on first_flag next_flags cut total item_run line_run item item_at slots slots_of count spot_at spots spots_from placed_at placed placed_in placed_from lines_of items cat048 cat021 cat007
returns-in_err-mes c =
    let xs = c.args.s.now in
    row_stop 13 0 (next_flags (next_flags (next_flags (next_flags (next_flags (next_flags (next_flags (next_flags (flags c.args.ind))))))))) xs c.in_err-mes.field-0.0 c.from_residual-in_err-mes.ensures.1 (kept_on 12 _ xs (kept_on 11 _ xs (kept_on 10 _ xs (kept_on 9 _ xs (kept_on 8 _ xs (kept_on 7 _ xs (kept_on 6 _ xs (kept_on 5 _ xs kept_none c.in_ok-bps.ensures) c.in_ok-selh.ensures) c.in_ok-nav.ensures) c.in_ok-gao.ensures) (went_by c.in_ok-sgv.ensures (λ p. search rules))) (went_by c.in_ok-sta.ensures (λ p. search rules))) c.in_ok-tnh.ensures) (went_by c.in_err-mes.ensures (λ p. search rules))).ends

pub returns : goal.returns
unfolding places_from places_on first_flag next_flags cut total item_run line_run item item_at slots slots_of count spot_at spots spots_from placed_at placed placed_in placed_from lines_of items cat048 cat021 cat007
returns c =
    let xs = c.args.s.now in
    kept_row 8 (kept_on 12 _ xs (kept_on 11 _ xs (kept_on 10 _ xs (kept_on 9 _ xs (kept_on 8 _ xs (kept_on 7 _ xs (kept_on 6 _ xs (kept_on 5 _ xs kept_none c.in_ok-bps.ensures) c.in_ok-selh.ensures) c.in_ok-nav.ensures) c.in_ok-gao.ensures) (went_by c.in_ok-sgv.ensures (λ p. search rules))) (went_by c.in_ok-sta.ensures (λ p. search rules))) c.in_ok-tnh.ensures) (went_by c.in_ok-mes.ensures (λ p. search rules))) refl
