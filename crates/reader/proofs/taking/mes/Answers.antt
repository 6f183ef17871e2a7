-- `reader::taking::mes` meets its contract: its part, and then its six subfields one behind the other. Assumes nothing.
use mathlib.Core.Path.{refl, ap}
use Prim.Native.Nat.{◌+◌, ◌≤◌}
use native.Mathlib.Omega.{arith}
use lib.ListN.{length}
use Rattle.reader.specs.Laws.Tables.{total, cut, to_num, widths, count, nums, slots_of, SLOTS, cat048, cat021, cat007, items, placed_from, placed_in, placed, placed_at, lines_of, item_at, lines_from, parts_ok, flags_under, item_of, more_from}
use Rattle.reader.specs.Laws.Taking.{span_from, sub_on, item_ends, part_there, Flagged, flags_of, one_begun, one_room, item_absent}
use Rattle.reader.specs.Taking.{is_there, place}
use Rattle.reader.proofs.taking.mes.Goals as goal

is : Flagged 12 38 6 6
unfolding parts_ok nums to_num widths cut total slots_of flags_under item_at item_of lines_from count placed_at placed placed_in placed_from lines_of items cat048 cat021 cat007
is = record { item = record { shape = refl; start = refl; parts = tt; under = tt }; part_bits = record { part = refl; octet = refl; numbers = λ m. refl } }

pub returns : goal.returns
unfolding more_from slots_of lines_from cut total count placed_at placed placed_in placed_from lines_of items cat048 cat021 cat007
returns c =
    let xs = c.args.s.now in
    let h0 = one_begun is xs c.in-Some.at refl (omega arith) c.args.base c.take-part.ensures in let h1 = sub_on 39 (omega arith) h0 c.subfield-sum.ensures in
    let h2 = sub_on 40 (omega arith) h1 c.subfield-pno.ensures in let h3 = sub_on 41 (omega arith) h2 c.subfield-em1.ensures in let h4 = sub_on 42 (omega arith) h3 c.subfield-xp.ensures in
    let h5 = sub_on 43 (omega arith) h4 c.subfield-fom.ensures in
    rw c.in-Some.is (item_ends is.item xs c.in-Some.at refl (sub_on 44 (omega arith) h5 c.subfield.ensures).item refl)

pub take-part-requires : goal.take-part-requires
unfolding span_from count cut total placed_at placed placed_in placed_from lines_of items cat048 cat021 cat007
take-part-requires c = (omega (arith, part_there is.item c.args.s.now c.in-Some.at refl (rw c.in-Some.is at c.requires.1)), omega (arith, c.requires.0))

pub bounds-s-at : goal.bounds-s-at
unfolding span_from count cut total placed_at placed placed_in placed_from lines_of items cat048 cat021 cat007 flags_under lines_from
bounds-s-at c =
    let span : (c.take-part.result + span_from (flags_of 6 c.args.s.now c.in-Some.at) 39 6 ≤ length c.args.s.now) × (c.args.base + 29 ≤ SLOTS) =
    (one_room is c.args.s.now c.in-Some.at refl (omega arith) c.args.base c.take-part.ensures (rw c.in-Some.is at c.requires.1) tt, c.requires.0) in
    omega (arith, span)

pub subfield-sum-requires : goal.subfield-sum-requires
unfolding span_from count cut total placed_at placed placed_in placed_from lines_of items cat048 cat021 cat007 flags_under lines_from
subfield-sum-requires c =
    let span : (c.take-part.result + span_from (flags_of 6 c.args.s.now c.in-Some.at) 39 6 ≤ length c.args.s.now) × (c.args.base + 29 ≤ SLOTS) =
    (one_room is c.args.s.now c.in-Some.at refl (omega arith) c.args.base c.take-part.ensures (rw c.in-Some.is at c.requires.1) tt, c.requires.0) in
    let g = span in (omega (arith, g), omega (arith, g))

pub subfield-pno-requires : goal.subfield-pno-requires
unfolding span_from count cut total placed_at placed placed_in placed_from lines_of items cat048 cat021 cat007 flags_under lines_from
subfield-pno-requires c =
    let span : (c.take-part.result + span_from (flags_of 6 c.args.s.now c.in-Some.at) 39 6 ≤ length c.args.s.now) × (c.args.base + 29 ≤ SLOTS) =
    (one_room is c.args.s.now c.in-Some.at refl (omega arith) c.args.base c.take-part.ensures (rw c.in-Some.is at c.requires.1) tt, c.requires.0) in
    let g = span in (omega (arith, g), omega (arith, g))

pub subfield-em1-requires : goal.subfield-em1-requires
unfolding span_from count cut total placed_at placed placed_in placed_from lines_of items cat048 cat021 cat007 flags_under lines_from
subfield-em1-requires c =
    let span : (c.take-part.result + span_from (flags_of 6 c.args.s.now c.in-Some.at) 39 6 ≤ length c.args.s.now) × (c.args.base + 29 ≤ SLOTS) =
    (one_room is c.args.s.now c.in-Some.at refl (omega arith) c.args.base c.take-part.ensures (rw c.in-Some.is at c.requires.1) tt, c.requires.0) in
    let g = span in (omega (arith, g), omega (arith, g))

pub subfield-xp-requires : goal.subfield-xp-requires
unfolding span_from count cut total placed_at placed placed_in placed_from lines_of items cat048 cat021 cat007 flags_under lines_from
subfield-xp-requires c =
    let span : (c.take-part.result + span_from (flags_of 6 c.args.s.now c.in-Some.at) 39 6 ≤ length c.args.s.now) × (c.args.base + 29 ≤ SLOTS) =
    (one_room is c.args.s.now c.in-Some.at refl (omega arith) c.args.base c.take-part.ensures (rw c.in-Some.is at c.requires.1) tt, c.requires.0) in
    let later : let a = c.args in (c.subfield-em1.result + span_from (flags_of 6 a.s.now c.in-Some.at) 42 3 ≤ length a.s.now) × (a.base + 29 ≤ SLOTS) =
    let g = span in (omega (arith, g), g.1) in
    let g = later in (omega (arith, g), omega (arith, g))

pub subfield-fom-requires : goal.subfield-fom-requires
unfolding span_from count cut total placed_at placed placed_in placed_from lines_of items cat048 cat021 cat007 flags_under lines_from
subfield-fom-requires c =
    let span : (c.take-part.result + span_from (flags_of 6 c.args.s.now c.in-Some.at) 39 6 ≤ length c.args.s.now) × (c.args.base + 29 ≤ SLOTS) =
    (one_room is c.args.s.now c.in-Some.at refl (omega arith) c.args.base c.take-part.ensures (rw c.in-Some.is at c.requires.1) tt, c.requires.0) in
    let later : let a = c.args in (c.subfield-em1.result + span_from (flags_of 6 a.s.now c.in-Some.at) 42 3 ≤ length a.s.now) × (a.base + 29 ≤ SLOTS) =
    let g = span in (omega (arith, g), g.1) in
    let g = later in (omega (arith, g), omega (arith, g))

pub subfield-requires : goal.subfield-requires
unfolding span_from count cut total placed_at placed placed_in placed_from lines_of items cat048 cat021 cat007 flags_under lines_from
subfield-requires c =
    let span : (c.take-part.result + span_from (flags_of 6 c.args.s.now c.in-Some.at) 39 6 ≤ length c.args.s.now) × (c.args.base + 29 ≤ SLOTS) =
    (one_room is c.args.s.now c.in-Some.at refl (omega arith) c.args.base c.take-part.ensures (rw c.in-Some.is at c.requires.1) tt, c.requires.0) in
    let later : let a = c.args in (c.subfield-em1.result + span_from (flags_of 6 a.s.now c.in-Some.at) 42 3 ≤ length a.s.now) × (a.base + 29 ≤ SLOTS) =
    let g = span in (omega (arith, g), g.1) in
    let g = later in (omega (arith, g), omega (arith, g))

pub returns-in_default : goal.returns-in_default
unfolding span_from count cut total placed_at placed placed_in placed_from lines_of items cat048 cat021 cat007
returns-in_default c = let a = c.args in item_absent 12 a.s.now (place a.start) (ap is_there c.in_default.is) a.numbers.now a.base
