-- `reader::taking::sta` meets its contract: its first part, and each further one if the part before says so. Assumes nothing.
use mathlib.Core.Path.{refl, ap}
use native.Mathlib.Omega.{arith}
use Rattle.reader.specs.Seen.{goes_on}
use Rattle.reader.specs.Laws.Tables.{count, slots_of, cat048, cat021, cat007, items, placed_from, placed_in, placed, placed_at, lines_of, item_at, lines_from, parts_ok, flags_under, item_of, more_from}
use Rattle.reader.specs.Laws.Taking.{chain_last, chain_on, first_on, few, Compound, item_ends, at_base, part_there, chain_ahead, item_absent}
use Rattle.reader.specs.Taking.{is_there, place}
use Rattle.reader.proofs.taking.sta.Goals as goal

is : Compound 10 31 5 0
unfolding parts_ok slots_of flags_under item_at item_of lines_from count placed_at placed placed_in placed_from lines_of items cat048 cat021 cat007
is = record { shape = refl; start = refl; parts = tt; under = tt }

pub returns : goal.returns
unfolding more_from count placed_at placed placed_in placed_from lines_of items cat048 cat021 cat007
returns c =
    let xs = c.args.s.now in let at = c.in-Some.at in
    let w5 = chain_last c.further-sixth.ensures.taken in let w4 = chain_on c.further-fifth.ensures.taken 0 refl (omega arith) (λ e. e) w5 in let w3 = chain_on c.further-fourth.ensures.taken 1 refl (omega arith) (λ e. e) w4 in
    let w2 = chain_on c.further-third.ensures.taken 2 refl (omega arith) (λ e. e) w3 in let w1 = chain_on c.further-second.ensures.taken 3 refl (omega arith) (λ e. e) w2 in
    let w = first_on 31 xs at (omega arith) c.take-part.ensures 4 refl (omega arith) w1 in
    let n0 = c.take-part.ensures.at_next in let n1 = c.further-second.ensures.taken.at_next in let n2 = c.further-third.ensures.taken.at_next in let n3 = c.further-fourth.ensures.taken.at_next in
    let n4 = c.further-fifth.ensures.taken.at_next in let n5 = c.further-sixth.ensures.taken.at_next in let e0 = few (goes_on xs c.take-part.result) in let e1 = few (goes_on xs c.further-second.result) in
    let e2 = few (goes_on xs c.further-third.result) in let e3 = few (goes_on xs c.further-fourth.result) in let e4 = few (goes_on xs c.further-fifth.result) in
    rw c.in-Some.is (item_ends is xs at refl (at_base is xs at refl w).item (omega (arith, c.octet.ensures, c.less.ensures)))

pub take-part-requires : goal.take-part-requires
unfolding count placed_at placed placed_in placed_from lines_of items cat048 cat021 cat007
take-part-requires c = (omega (arith, part_there is c.args.s.now c.in-Some.at refl (rw c.in-Some.is at c.requires.1)), omega (arith, c.requires.0))

pub further-second-requires : goal.further-second-requires
unfolding count placed_at placed placed_in placed_from lines_of items cat048 cat021 cat007
further-second-requires c = (omega (arith, c.requires.0), refl, chain_ahead is c.args.s.now c.in-Some.at refl (rw c.in-Some.is at c.requires.1) c.take-part.ensures.at_next)

pub further-third-requires : goal.further-third-requires
unfolding count placed_at placed placed_in placed_from lines_of items cat048 cat021 cat007
further-third-requires c = (omega (arith, c.requires.0), refl, c.further-second.ensures.stops)

pub further-fourth-requires : goal.further-fourth-requires
unfolding count placed_at placed placed_in placed_from lines_of items cat048 cat021 cat007
further-fourth-requires c = (omega (arith, c.requires.0), refl, c.further-third.ensures.stops)

pub further-fifth-requires : goal.further-fifth-requires
unfolding count placed_at placed placed_in placed_from lines_of items cat048 cat021 cat007
further-fifth-requires c = (omega (arith, c.requires.0), refl, c.further-fourth.ensures.stops)

pub further-sixth-requires : goal.further-sixth-requires
unfolding count placed_at placed placed_in placed_from lines_of items cat048 cat021 cat007
further-sixth-requires c = (omega (arith, c.requires.0), refl, c.further-fifth.ensures.stops)

pub returns-in_default : goal.returns-in_default
unfolding count placed_at placed placed_in placed_from lines_of items cat048 cat021 cat007
returns-in_default c = let a = c.args in item_absent 10 a.s.now (place a.start) (ap is_there c.in_default.is) a.numbers.now a.base
