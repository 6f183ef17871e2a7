-- `reader::places::item` meets its contract: each item by its own walk. Assumes nothing.
use mathlib.Core.Path.{refl, sym}
use Rattle.codec.proofs.Laws.Arms.{past}
use Rattle.reader.specs.Laws.Tables.{total, cut, count, slots_of, slots, lines_of, item, cat048, cat021, cat007, items, placed_from, placed_in, placed, placed_at, item_at, lines_from, parts_ok, flags_under, item_of, line_run, item_run, more_from}
use Rattle.reader.specs.Laws.Items.{item_from, past_items}
use Rattle.reader.specs.Laws.Places.{item_ends}
use Rattle.reader.proofs.places.item.Goals as goal

pub only-requires : goal.only-requires
unfolding cut total flags_under more_from item_run item_of lines_from parts_ok item item_at line_run slots slots_of placed_at placed placed_in placed_from lines_of items cat048 cat021 cat007 count
only-requires c = (c.requires, tt)

pub returns-in-0 : goal.returns-in-0
unfolding cut total flags_under more_from item_run item_of lines_from parts_ok item item_at line_run slots slots_of placed_at placed placed_in placed_from lines_of items cat048 cat021 cat007 count
returns-in-0 c = item_ends c.args.k 0 c.in-0.is c.args.s.now refl c.md5.ensures

pub returns-in-1 : goal.returns-in-1
unfolding cut total flags_under more_from item_run item_of lines_from parts_ok item item_at line_run slots slots_of placed_at placed placed_in placed_from lines_of items cat048 cat021 cat007 count
returns-in-1 c = item_ends c.args.k 1 c.in-1.is c.args.s.now refl c.m5n.ensures

pub returns-in-2 : goal.returns-in-2
unfolding cut total flags_under more_from item_run item_of lines_from parts_ok item item_at line_run slots slots_of placed_at placed placed_in placed_from lines_of items cat048 cat021 cat007 count
returns-in-2 c = item_ends c.args.k 2 c.in-2.is c.args.s.now (sym (item_from 18 0 0 c.args.s.now 0 tt)) c.only.ensures

pub returns-in-3 : goal.returns-in-3
unfolding cut total flags_under more_from item_run item_of lines_from parts_ok item item_at line_run slots slots_of placed_at placed placed_in placed_from lines_of items cat048 cat021 cat007 count
returns-in-3 c = item_ends c.args.k 3 c.in-3.is c.args.s.now refl c.rpc.ensures

pub returns-in-4 : goal.returns-in-4
unfolding cut total flags_under more_from item_run item_of lines_from parts_ok item item_at line_run slots slots_of placed_at placed placed_in placed_from lines_of items cat048 cat021 cat007 count
returns-in-4 c = item_ends c.args.k 4 c.in-4.is c.args.s.now refl c.seen.ensures

pub returns-in-5 : goal.returns-in-5
unfolding cut total flags_under more_from item_run item_of lines_from parts_ok item item_at line_run slots slots_of placed_at placed placed_in placed_from lines_of items cat048 cat021 cat007 count
returns-in-5 c = item_ends c.args.k 5 c.in-5.is c.args.s.now refl c.seen-in-5.ensures

pub returns-in-6 : goal.returns-in-6
unfolding cut total flags_under more_from item_run item_of lines_from parts_ok item item_at line_run slots slots_of placed_at placed placed_in placed_from lines_of items cat048 cat021 cat007 count
returns-in-6 c = item_ends c.args.k 6 c.in-6.is c.args.s.now refl c.seen-in-6.ensures

pub returns-in-7 : goal.returns-in-7
unfolding cut total flags_under more_from item_run item_of lines_from parts_ok item item_at line_run slots slots_of placed_at placed placed_in placed_from lines_of items cat048 cat021 cat007 count
returns-in-7 c = item_ends c.args.k 7 c.in-7.is c.args.s.now refl c.seen-in-7.ensures

pub returns-in-8 : goal.returns-in-8
unfolding cut total flags_under more_from item_run item_of lines_from parts_ok item item_at line_run slots slots_of placed_at placed placed_in placed_from lines_of items cat048 cat021 cat007 count
returns-in-8 c = item_ends c.args.k 8 c.in-8.is c.args.s.now refl c.seen-in-8.ensures

pub returns-in-9 : goal.returns-in-9
unfolding cut total flags_under more_from item_run item_of lines_from parts_ok item item_at line_run slots slots_of placed_at placed placed_in placed_from lines_of items cat048 cat021 cat007 count
returns-in-9 c = item_ends c.args.k 9 c.in-9.is c.args.s.now refl c.sgv.ensures

pub returns-in-10 : goal.returns-in-10
unfolding cut total flags_under more_from item_run item_of lines_from parts_ok item item_at line_run slots slots_of placed_at placed placed_in placed_from lines_of items cat048 cat021 cat007 count
returns-in-10 c = item_ends c.args.k 10 c.in-10.is c.args.s.now refl c.sta.ensures

pub returns-in-11 : goal.returns-in-11
unfolding cut total flags_under more_from item_run item_of lines_from parts_ok item item_at line_run slots slots_of placed_at placed placed_in placed_from lines_of items cat048 cat021 cat007 count
returns-in-11 c = item_ends c.args.k 11 c.in-11.is c.args.s.now refl c.seen-in-11.ensures

pub returns-in-12 : goal.returns-in-12
unfolding cut total flags_under more_from item_run item_of lines_from parts_ok item item_at line_run slots slots_of placed_at placed placed_in placed_from lines_of items cat048 cat021 cat007 count
returns-in-12 c = item_ends c.args.k 12 c.in-12.is c.args.s.now refl c.mes.ensures

pub returns-in-13 : goal.returns-in-13
unfolding cut total flags_under more_from item_run item_of lines_from parts_ok item item_at line_run slots slots_of placed_at placed placed_in placed_from lines_of items cat048 cat021 cat007 count
returns-in-13 c = item_ends c.args.k 13 c.in-13.is c.args.s.now refl c.seen-in-13.ensures

pub returns-in_default : goal.returns-in_default
unfolding cut total flags_under more_from item_run item_of lines_from parts_ok item item_at line_run slots slots_of placed_at placed placed_in placed_from lines_of items cat048 cat021 cat007 count
returns-in_default c = item_ends c.args.k c.args.k refl c.args.s.now (past_items c.args.k (past 14 c.args.k c.in_default.in_default-own.rest) c.args.s.now 0) c.seen-in_default.ensures
