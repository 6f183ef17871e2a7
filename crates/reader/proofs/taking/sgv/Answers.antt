-- `reader::taking::sgv` meets its contract: its first part, and the second if the first says so. Assumes nothing.
use mathlib.Core.Path.{refl, ap}
use native.Mathlib.Omega.{arith}
use Rattle.reader.specs.Seen.{goes_on}
use Rattle.reader.specs.Laws.Tables.{count, slots_of, cat048, cat021, cat007, items, placed_from, placed_in, placed, placed_at, lines_of, item_at, lines_from, parts_ok, flags_under, item_of, more_from}
use Rattle.reader.specs.Laws.Taking.{chain_last, first_on, few, Compound, item_ends, at_base, part_there, chain_ahead, item_absent}
use Rattle.reader.specs.Taking.{is_there, place}
use Rattle.reader.proofs.taking.sgv.Goals as goal

is : Compound 9 29 1 0
unfolding parts_ok slots_of flags_under item_at item_of lines_from count placed_at placed placed_in placed_from lines_of items cat048 cat021 cat007
is = record { shape = refl; start = refl; parts = tt; under = tt }

pub returns : goal.returns
unfolding more_from count placed_at placed placed_in placed_from lines_of items cat048 cat021 cat007
returns c =
    let xs = c.args.s.now in let at = c.in-Some.at in
    let w = first_on 29 xs at (omega arith) c.take-part.ensures 0 refl (omega arith) (chain_last c.further-second.ensures.taken) in
    rw c.in-Some.is (item_ends is xs at refl (at_base is xs at refl w).item (omega (arith, few (goes_on xs c.take-part.result))))

pub take-part-requires : goal.take-part-requires
unfolding count placed_at placed placed_in placed_from lines_of items cat048 cat021 cat007
take-part-requires c = (omega (arith, part_there is c.args.s.now c.in-Some.at refl (rw c.in-Some.is at c.requires.1)), omega (arith, c.requires.0))

pub further-second-requires : goal.further-second-requires
unfolding count placed_at placed placed_in placed_from lines_of items cat048 cat021 cat007
further-second-requires c = (omega (arith, c.requires.0), refl, chain_ahead is c.args.s.now c.in-Some.at refl (rw c.in-Some.is at c.requires.1) c.take-part.ensures.at_next)

pub returns-in_default : goal.returns-in_default
unfolding count placed_at placed placed_in placed_from lines_of items cat048 cat021 cat007
returns-in_default c = let a = c.args in item_absent 9 a.s.now (place a.start) (ap is_there c.in_default.is) a.numbers.now a.base
