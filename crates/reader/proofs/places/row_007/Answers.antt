-- `reader::places::row_007` meets its contract: one law at each item. Assumes nothing.
use mathlib.Core.Path.{refl, sym}
use borrow.Author.Rules.{rules}
use Rattle.codec.specs.Field.{flags}
use Rattle.reader.specs.Laws.Tables.{total, cut, first_flag, next_flags, count, slots, slots_of, item, cat048, cat021, cat007, items, placed_from, placed_in, placed, placed_at, lines_of, item_at, spots_from, spots, spot_at, line_run, item_run, lines_from, parts_ok, flags_under, item_of, more_from}
use Rattle.reader.specs.Places.{places_on, places_from}
use Rattle.reader.specs.Laws.Items.{item_from}
use Rattle.reader.specs.Laws.Places.{kept_none, kept_on, kept_row, row_stop}
use Rattle.reader.specs.Laws.Seen.{went_by, went_same}
use Rattle.std.specs.Prelude.{T}
use Rattle.std.proofs.iter.Serving.{serving}
use Rattle.reader.proofs.places.row_007.Goals as goal

lone : T (parts_ok 18 0)
unfolding parts_ok count placed_at placed placed_in placed_from lines_of items cat048 cat021 cat007
lone = tt

pub there-requires-2 : goal.there-requires-2
there-requires-2 c = grind (serving, lone)

pub returns-in_err-ta : goal.returns-in_err-ta
unfolding places_from places_on first_flag next_flags cut total flags_under item_of more_from lines_from item_run line_run item item_at slots slots_of count spot_at spots spots_from placed_at placed placed_in placed_from lines_of items cat048 cat021 cat007
returns-in_err-ta c =
    let xs = c.args.s.now in
    row_stop 14 4 (next_flags (flags c.args.ind)) xs c.in_err-ta.field-0.0 c.from_residual.ensures.1 (kept_on 13 _ xs kept_none c.in_err-ta.ensures).ends

pub returns-in_err-m5n : goal.returns-in_err-m5n
unfolding places_from places_on first_flag next_flags cut total flags_under item_of more_from lines_from item_run line_run item item_at slots slots_of count spot_at spots spots_from placed_at placed placed_in placed_from lines_of items cat048 cat021 cat007
returns-in_err-m5n c =
    let xs = c.args.s.now in
    row_stop 15 3 (next_flags (next_flags (flags c.args.ind))) xs c.in_err-m5n.field-0.0 c.from_residual-in_err-m5n.ensures.1 (kept_on 14 _ xs (kept_on 13 _ xs kept_none c.in_ok-ta.ensures) (went_by c.in_err-m5n.ensures (λ p. search rules))).ends

pub returns-in_err-m4e : goal.returns-in_err-m4e
unfolding places_from places_on first_flag next_flags cut total flags_under item_of more_from lines_from item_run line_run item item_at slots slots_of count spot_at spots spots_from placed_at placed placed_in placed_from lines_of items cat048 cat021 cat007
returns-in_err-m4e c =
    let xs = c.args.s.now in
    row_stop 16 2 (next_flags (next_flags (next_flags (flags c.args.ind)))) xs c.in_err-m4e.field-0.0 c.from_residual-in_err-m4e.ensures.1 (kept_on 15 _ xs (kept_on 14 _ xs (kept_on 13 _ xs kept_none c.in_ok-ta.ensures) (went_by c.in_ok-m5n.ensures (λ p. search rules))) (went_same (went_by c.in_err-m4e.ensures (λ p. search rules)) (sym (item_from 18 0 0 xs c.in_ok-m5n.m5n tt)))).ends

pub returns-in_err-rpc : goal.returns-in_err-rpc
unfolding places_from places_on first_flag next_flags cut total flags_under item_of more_from lines_from item_run line_run item item_at slots slots_of count spot_at spots spots_from placed_at placed placed_in placed_from lines_of items cat048 cat021 cat007
returns-in_err-rpc c =
    let xs = c.args.s.now in
    row_stop 17 1 (next_flags (next_flags (next_flags (next_flags (flags c.args.ind))))) xs c.in_err-rpc.field-0.0 c.from_residual-in_err-rpc.ensures.1 (kept_on 16 _ xs (kept_on 15 _ xs (kept_on 14 _ xs (kept_on 13 _ xs kept_none c.in_ok-ta.ensures) (went_by c.in_ok-m5n.ensures (λ p. search rules))) (went_same (went_by c.in_ok-m4e.ensures (λ p. search rules)) (sym (item_from 18 0 0 xs c.in_ok-m5n.m5n tt)))) (went_by c.in_err-rpc.ensures (λ p. search rules))).ends

pub returns-in_err-err : goal.returns-in_err-err
unfolding places_from places_on first_flag next_flags cut total flags_under item_of more_from lines_from item_run line_run item item_at slots slots_of count spot_at spots spots_from placed_at placed placed_in placed_from lines_of items cat048 cat021 cat007
returns-in_err-err c =
    let xs = c.args.s.now in
    row_stop 18 0 (next_flags (next_flags (next_flags (next_flags (next_flags (flags c.args.ind)))))) xs c.in_err-err.field-0.0 c.from_residual-in_err-err.ensures.1 (kept_on 17 _ xs (kept_on 16 _ xs (kept_on 15 _ xs (kept_on 14 _ xs (kept_on 13 _ xs kept_none c.in_ok-ta.ensures) (went_by c.in_ok-m5n.ensures (λ p. search rules))) (went_same (went_by c.in_ok-m4e.ensures (λ p. search rules)) (sym (item_from 18 0 0 xs c.in_ok-m5n.m5n tt)))) (went_by c.in_ok-rpc.ensures (λ p. search rules))) c.in_err-err.ensures).ends

pub returns : goal.returns
unfolding places_from places_on first_flag next_flags cut total flags_under item_of more_from lines_from item_run line_run item item_at slots slots_of count spot_at spots spots_from placed_at placed placed_in placed_from lines_of items cat048 cat021 cat007
returns c =
    let xs = c.args.s.now in
    kept_row 5 (kept_on 17 _ xs (kept_on 16 _ xs (kept_on 15 _ xs (kept_on 14 _ xs (kept_on 13 _ xs kept_none c.in_ok-ta.ensures) (went_by c.in_ok-m5n.ensures (λ p. search rules))) (went_same (went_by c.in_ok-m4e.ensures (λ p. search rules)) (sym (item_from 18 0 0 xs c.in_ok-m5n.m5n tt)))) (went_by c.in_ok-rpc.ensures (λ p. search rules))) c.in_ok-err.ensures) refl
