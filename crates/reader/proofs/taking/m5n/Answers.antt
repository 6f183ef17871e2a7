-- `reader::taking::m5n` meets its contract: its parts, and then its eight subfields one behind the other. Assumes nothing.
use mathlib.Core.Path.{refl, sym, ap, subst}
use Prim.Native.Nat.{◌+◌, ◌≤◌}
use native.Mathlib.Omega.{arith}
use lib.Dec.{eqb}
use lib.ListN.{length, get_or}
use Rattle.codec.specs.Pick.{pick}
use Rattle.codec.specs.Field.{flags}
use Rattle.lengths.specs.Lines.{line_at}
use Rattle.reader.specs.Seen.{goes_on}
use Rattle.reader.specs.Laws.Tables.{total, cut, to_num, widths, count, nums, slots_of, SLOTS, cat048, cat021, cat007, items, placed_from, placed_in, placed, placed_at, lines_of, item_at, lines_from, parts_ok, flags_under, item_of, more_from}
use Rattle.reader.specs.Laws.Taking.{opt_as, few, span_from, sub_on, item_ends, part_there, chain_ahead, second_of, second_is, two_flags, Twice, two_begun, two_room, item_absent}
use Rattle.reader.specs.Taking.{is_there, place}
use Rattle.reader.proofs.taking.m5n.Goals as goal

is : Twice 1 8 8
unfolding parts_ok nums to_num widths cut total slots_of flags_under item_at item_of lines_from count placed_at placed placed_in placed_from lines_of items cat048 cat021 cat007
is = record {
  item = record { shape = refl; start = refl; parts = tt; under = tt };
  first_bits = record { part = refl; octet = refl; numbers = λ m. refl };
  second_bits = record { part = refl; octet = refl; numbers = λ m. refl };
  one = refl;
  next = refl;
}

pub subfield-requires : goal.subfield-requires
unfolding span_from count cut total placed_at placed placed_in placed_from lines_of items cat048 cat021 cat007 flags_under lines_from
subfield-requires c =
    let span : (c.further-second.result + span_from (two_flags c.args.s.now c.in-Some.at (second_of c.args.s.now c.take-part.result)) 10 8 ≤ length c.args.s.now) × (c.args.base + 34 ≤ SLOTS) =
    (two_room is c.args.s.now c.in-Some.at refl (omega arith) c.args.base c.take-part.ensures c.further-second.ensures.taken (rw c.in-Some.is at c.requires.1) c.further-second.ensures.stops tt, c.requires.0) in
    let later : let a = c.args in (c.subfield-ga.result + span_from (two_flags a.s.now c.in-Some.at (second_of a.s.now c.take-part.result)) 14 4 ≤ length a.s.now) × (a.base + 34 ≤ SLOTS) =
    let g = span in (omega (arith, g), g.1) in
    let xs = c.args.s.now in
    let g = later in let n5 = c.subfield-em1.ensures.at_next in let n6 = c.subfield-tos.ensures.at_next in let n7 = c.subfield-xp.ensures.at_next in
    let q = second_is xs c.take-part.result {k = 1} refl c.further-second.ensures.taken.at_next c.second_flags-q.ensures in
    (omega (arith, g), subst (λ x. c.subfield-xp.result + pick (eqb (get_or (flags x) 0 0) 1) (line_at 17).octets 0 ≤ length xs) (sym q) (omega (arith, g, n5, n6, n7)))

pub returns : goal.returns
unfolding more_from slots_of lines_from cut total count placed_at placed placed_in placed_from lines_of items cat048 cat021 cat007
returns c =
    let xs = c.args.s.now in
    let h0 = two_begun is xs c.in-Some.at refl (omega arith) c.args.base c.take-part.ensures c.further-second.ensures.taken in let h1 = sub_on 10 (omega arith) h0 c.subfield-sum.ensures in
    let h2 = sub_on 11 (omega arith) h1 c.subfield-pmn.ensures in let h3 = sub_on 12 (omega arith) h2 c.subfield-pos.ensures in let h4 = sub_on 13 (omega arith) h3 c.subfield-ga.ensures in
    let h5 = sub_on 14 (omega arith) h4 c.subfield-em1.ensures in let h6 = sub_on 15 (omega arith) h5 c.subfield-tos.ensures in let h7 = sub_on 16 (omega arith) h6 c.subfield-xp.ensures in
    let q = second_is xs c.take-part.result {k = 1} refl c.further-second.ensures.taken.at_next c.second_flags-q.ensures in
    let h8 = sub_on 17 (omega arith) h7 (opt_as (ap (λ x. eqb (get_or (flags x) 0 0) 1) q) c.subfield.ensures) in
    rw c.in-Some.is (item_ends is.item xs c.in-Some.at refl h8.item (omega (arith, c.octet.ensures, c.less.ensures, c.further-second.ensures.taken.at_next, c.take-part.ensures.at_next, few (goes_on xs c.take-part.result))))

pub take-part-requires : goal.take-part-requires
unfolding span_from count cut total placed_at placed placed_in placed_from lines_of items cat048 cat021 cat007
take-part-requires c = (omega (arith, part_there is.item c.args.s.now c.in-Some.at refl (rw c.in-Some.is at c.requires.1)), omega (arith, c.requires.0))

pub further-second-requires : goal.further-second-requires
unfolding span_from count cut total placed_at placed placed_in placed_from lines_of items cat048 cat021 cat007
further-second-requires c = (omega (arith, c.requires.0), refl, chain_ahead is.item c.args.s.now c.in-Some.at refl (rw c.in-Some.is at c.requires.1) c.take-part.ensures.at_next)

pub bounds-s-at : goal.bounds-s-at
unfolding span_from count cut total placed_at placed placed_in placed_from lines_of items cat048 cat021 cat007
bounds-s-at c = omega (arith, part_there is.item c.args.s.now c.in-Some.at refl (rw c.in-Some.is at c.requires.1))

pub subfield-sum-requires : goal.subfield-sum-requires
unfolding span_from count cut total placed_at placed placed_in placed_from lines_of items cat048 cat021 cat007 flags_under lines_from
subfield-sum-requires c =
    let span : (c.further-second.result + span_from (two_flags c.args.s.now c.in-Some.at (second_of c.args.s.now c.take-part.result)) 10 8 ≤ length c.args.s.now) × (c.args.base + 34 ≤ SLOTS) =
    (two_room is c.args.s.now c.in-Some.at refl (omega arith) c.args.base c.take-part.ensures c.further-second.ensures.taken (rw c.in-Some.is at c.requires.1) c.further-second.ensures.stops tt, c.requires.0) in
    let g = span in (omega (arith, g), omega (arith, g))

pub subfield-pmn-requires : goal.subfield-pmn-requires
unfolding span_from count cut total placed_at placed placed_in placed_from lines_of items cat048 cat021 cat007 flags_under lines_from
subfield-pmn-requires c =
    let span : (c.further-second.result + span_from (two_flags c.args.s.now c.in-Some.at (second_of c.args.s.now c.take-part.result)) 10 8 ≤ length c.args.s.now) × (c.args.base + 34 ≤ SLOTS) =
    (two_room is c.args.s.now c.in-Some.at refl (omega arith) c.args.base c.take-part.ensures c.further-second.ensures.taken (rw c.in-Some.is at c.requires.1) c.further-second.ensures.stops tt, c.requires.0) in
    let g = span in (omega (arith, g), omega (arith, g))

pub subfield-pos-requires : goal.subfield-pos-requires
unfolding span_from count cut total placed_at placed placed_in placed_from lines_of items cat048 cat021 cat007 flags_under lines_from
subfield-pos-requires c =
    let span : (c.further-second.result + span_from (two_flags c.args.s.now c.in-Some.at (second_of c.args.s.now c.take-part.result)) 10 8 ≤ length c.args.s.now) × (c.args.base + 34 ≤ SLOTS) =
    (two_room is c.args.s.now c.in-Some.at refl (omega arith) c.args.base c.take-part.ensures c.further-second.ensures.taken (rw c.in-Some.is at c.requires.1) c.further-second.ensures.stops tt, c.requires.0) in
    let g = span in (omega (arith, g), omega (arith, g))

pub subfield-ga-requires : goal.subfield-ga-requires
unfolding span_from count cut total placed_at placed placed_in placed_from lines_of items cat048 cat021 cat007 flags_under lines_from
subfield-ga-requires c =
    let span : (c.further-second.result + span_from (two_flags c.args.s.now c.in-Some.at (second_of c.args.s.now c.take-part.result)) 10 8 ≤ length c.args.s.now) × (c.args.base + 34 ≤ SLOTS) =
    (two_room is c.args.s.now c.in-Some.at refl (omega arith) c.args.base c.take-part.ensures c.further-second.ensures.taken (rw c.in-Some.is at c.requires.1) c.further-second.ensures.stops tt, c.requires.0) in
    let g = span in (omega (arith, g), omega (arith, g))

pub subfield-em1-requires : goal.subfield-em1-requires
unfolding span_from count cut total placed_at placed placed_in placed_from lines_of items cat048 cat021 cat007 flags_under lines_from
subfield-em1-requires c =
    let span : (c.further-second.result + span_from (two_flags c.args.s.now c.in-Some.at (second_of c.args.s.now c.take-part.result)) 10 8 ≤ length c.args.s.now) × (c.args.base + 34 ≤ SLOTS) =
    (two_room is c.args.s.now c.in-Some.at refl (omega arith) c.args.base c.take-part.ensures c.further-second.ensures.taken (rw c.in-Some.is at c.requires.1) c.further-second.ensures.stops tt, c.requires.0) in
    let later : let a = c.args in (c.subfield-ga.result + span_from (two_flags a.s.now c.in-Some.at (second_of a.s.now c.take-part.result)) 14 4 ≤ length a.s.now) × (a.base + 34 ≤ SLOTS) =
    let g = span in (omega (arith, g), g.1) in
    let g = later in (omega (arith, g), omega (arith, g))

pub subfield-tos-requires : goal.subfield-tos-requires
unfolding span_from count cut total placed_at placed placed_in placed_from lines_of items cat048 cat021 cat007 flags_under lines_from
subfield-tos-requires c =
    let span : (c.further-second.result + span_from (two_flags c.args.s.now c.in-Some.at (second_of c.args.s.now c.take-part.result)) 10 8 ≤ length c.args.s.now) × (c.args.base + 34 ≤ SLOTS) =
    (two_room is c.args.s.now c.in-Some.at refl (omega arith) c.args.base c.take-part.ensures c.further-second.ensures.taken (rw c.in-Some.is at c.requires.1) c.further-second.ensures.stops tt, c.requires.0) in
    let later : let a = c.args in (c.subfield-ga.result + span_from (two_flags a.s.now c.in-Some.at (second_of a.s.now c.take-part.result)) 14 4 ≤ length a.s.now) × (a.base + 34 ≤ SLOTS) =
    let g = span in (omega (arith, g), g.1) in
    let g = later in (omega (arith, g), omega (arith, g))

pub subfield-xp-requires : goal.subfield-xp-requires
unfolding span_from count cut total placed_at placed placed_in placed_from lines_of items cat048 cat021 cat007 flags_under lines_from
subfield-xp-requires c =
    let span : (c.further-second.result + span_from (two_flags c.args.s.now c.in-Some.at (second_of c.args.s.now c.take-part.result)) 10 8 ≤ length c.args.s.now) × (c.args.base + 34 ≤ SLOTS) =
    (two_room is c.args.s.now c.in-Some.at refl (omega arith) c.args.base c.take-part.ensures c.further-second.ensures.taken (rw c.in-Some.is at c.requires.1) c.further-second.ensures.stops tt, c.requires.0) in
    let later : let a = c.args in (c.subfield-ga.result + span_from (two_flags a.s.now c.in-Some.at (second_of a.s.now c.take-part.result)) 14 4 ≤ length a.s.now) × (a.base + 34 ≤ SLOTS) =
    let g = span in (omega (arith, g), g.1) in
    let g = later in (omega (arith, g), omega (arith, g))

pub second_flags-q-requires : goal.second_flags-q-requires
unfolding span_from count cut total placed_at placed placed_in placed_from lines_of items cat048 cat021 cat007 flags_under lines_from
second_flags-q-requires c =
    let span : (c.further-second.result + span_from (two_flags c.args.s.now c.in-Some.at (second_of c.args.s.now c.take-part.result)) 10 8 ≤ length c.args.s.now) × (c.args.base + 34 ≤ SLOTS) =
    (two_room is c.args.s.now c.in-Some.at refl (omega arith) c.args.base c.take-part.ensures c.further-second.ensures.taken (rw c.in-Some.is at c.requires.1) c.further-second.ensures.stops tt, c.requires.0) in
    omega (arith, span.0)

pub returns-in_default : goal.returns-in_default
unfolding span_from count cut total placed_at placed placed_in placed_from lines_of items cat048 cat021 cat007
returns-in_default c = let a = c.args in item_absent 1 a.s.now (place a.start) (ap is_there c.in_default.is) a.numbers.now a.base
