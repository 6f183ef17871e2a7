-- `reader::taking::rpc` meets its contract: its part, and then its four subfields one behind the other. Assumes nothing.
use mathlib.Core.Path.{refl, ap}
use Prim.Native.Nat.{◌+◌, ◌≤◌}
use native.Mathlib.Omega.{arith}
use lib.ListN.{length}
use Rattle.reader.specs.Laws.Tables.{total, cut, to_num, widths, count, nums, slots_of, SLOTS, cat048, cat021, cat007, items, placed_from, placed_in, placed, placed_at, lines_of, item_at, lines_from, parts_ok, flags_under, item_of, more_from}
use Rattle.reader.specs.Laws.Taking.{span_from, sub_on, item_ends, part_there, Flagged, flags_of, one_begun, one_room, item_absent}
use Rattle.reader.specs.Taking.{is_there, place}
use Rattle.reader.proofs.taking.rpc.Goals as goal

is : Flagged 3 19 4 4
unfolding parts_ok nums to_num widths cut total slots_of flags_under item_at item_of lines_from count placed_at placed placed_in placed_from lines_of items cat048 cat021 cat007
is = record { item = record { shape = refl; start = refl; parts = tt; under = tt }; part_bits = record { part = refl; octet = refl; numbers = λ m. refl } }

pub returns : goal.returns
unfolding more_from slots_of lines_from cut total count placed_at placed placed_in placed_from lines_of items cat048 cat021 cat007
returns c =
    let xs = c.args.s.now in
    let h0 = one_begun is xs c.in-Some.at refl (omega arith) c.args.base c.take-part.ensures in let h1 = sub_on 20 (omega arith) h0 c.subfield-sco.ensures in
    let h2 = sub_on 21 (omega arith) h1 c.subfield-scr.ensures in let h3 = sub_on 22 (omega arith) h2 c.subfield-rw.ensures in
    rw c.in-Some.is (item_ends is.item xs c.in-Some.at refl (sub_on 23 (omega arith) h3 c.subfield.ensures).item refl)

pub take-part-requires : goal.take-part-requires
unfolding span_from count cut total placed_at placed placed_in placed_from lines_of items cat048 cat021 cat007
take-part-requires c = (omega (arith, part_there is.item c.args.s.now c.in-Some.at refl (rw c.in-Some.is at c.requires.1)), omega (arith, c.requires.0))

pub bounds-s-at : goal.bounds-s-at
unfolding span_from count cut total placed_at placed placed_in placed_from lines_of items cat048 cat021 cat007 flags_under lines_from
bounds-s-at c =
    let span : (c.take-part.result + span_from (flags_of 4 c.args.s.now c.in-Some.at) 20 4 ≤ length c.args.s.now) × (c.args.base + 8 ≤ SLOTS) =
    (one_room is c.args.s.now c.in-Some.at refl (omega arith) c.args.base c.take-part.ensures (rw c.in-Some.is at c.requires.1) tt, c.requires.0) in
    omega (arith, span)

pub subfield-sco-requires : goal.subfield-sco-requires
unfolding span_from count cut total placed_at placed placed_in placed_from lines_of items cat048 cat021 cat007 flags_under lines_from
subfield-sco-requires c =
    let span : (c.take-part.result + span_from (flags_of 4 c.args.s.now c.in-Some.at) 20 4 ≤ length c.args.s.now) × (c.args.base + 8 ≤ SLOTS) =
    (one_room is c.args.s.now c.in-Some.at refl (omega arith) c.args.base c.take-part.ensures (rw c.in-Some.is at c.requires.1) tt, c.requires.0) in
    let g = span in (omega (arith, g), omega (arith, g))

pub subfield-scr-requires : goal.subfield-scr-requires
unfolding span_from count cut total placed_at placed placed_in placed_from lines_of items cat048 cat021 cat007 flags_under lines_from
subfield-scr-requires c =
    let span : (c.take-part.result + span_from (flags_of 4 c.args.s.now c.in-Some.at) 20 4 ≤ length c.args.s.now) × (c.args.base + 8 ≤ SLOTS) =
    (one_room is c.args.s.now c.in-Some.at refl (omega arith) c.args.base c.take-part.ensures (rw c.in-Some.is at c.requires.1) tt, c.requires.0) in
    let g = span in (omega (arith, g), omega (arith, g))

pub subfield-rw-requires : goal.subfield-rw-requires
unfolding span_from count cut total placed_at placed placed_in placed_from lines_of items cat048 cat021 cat007 flags_under lines_from
subfield-rw-requires c =
    let span : (c.take-part.result + span_from (flags_of 4 c.args.s.now c.in-Some.at) 20 4 ≤ length c.args.s.now) × (c.args.base + 8 ≤ SLOTS) =
    (one_room is c.args.s.now c.in-Some.at refl (omega arith) c.args.base c.take-part.ensures (rw c.in-Some.is at c.requires.1) tt, c.requires.0) in
    let g = span in (omega (arith, g), omega (arith, g))

pub subfield-requires : goal.subfield-requires
unfolding span_from count cut total placed_at placed placed_in placed_from lines_of items cat048 cat021 cat007 flags_under lines_from
subfield-requires c =
    let span : (c.take-part.result + span_from (flags_of 4 c.args.s.now c.in-Some.at) 20 4 ≤ length c.args.s.now) × (c.args.base + 8 ≤ SLOTS) =
    (one_room is c.args.s.now c.in-Some.at refl (omega arith) c.args.base c.take-part.ensures (rw c.in-Some.is at c.requires.1) tt, c.requires.0) in
    let g = span in (omega (arith, g), omega (arith, g))

pub returns-in_default : goal.returns-in_default
unfolding span_from count cut total placed_at placed placed_in placed_from lines_of items cat048 cat021 cat007
returns-in_default c = let a = c.args in item_absent 3 a.s.now (place a.start) (ap is_there c.in_default.is) a.numbers.now a.base
