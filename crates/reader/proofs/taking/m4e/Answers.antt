-- `reader::taking::m4e` meets its contract: it is its one part. Assumes nothing.
use mathlib.Core.Path.{refl, ap}
use Prim.Native.Nat.{◌+◌}
use native.Mathlib.Omega.{arith}
use Rattle.lengths.specs.Lines.{first_at}
use Rattle.reader.specs.Laws.Tables.{count, slots_of, cat048, cat021, cat007, items, placed_from, placed_in, placed, placed_at, lines_of, item_at, lines_from, parts_ok, flags_under, item_of, more_from}
use Rattle.reader.specs.Laws.Taking.{opt_there, chain_last, Compound, item_ends, at_base, part_there, item_absent}
use Rattle.reader.specs.Taking.{is_there, place}
use Rattle.reader.proofs.taking.m4e.Goals as goal

is : Compound 2 18 0 0
unfolding parts_ok slots_of flags_under item_at item_of lines_from count placed_at placed placed_in placed_from lines_of items cat048 cat021 cat007
is = record { shape = refl; start = refl; parts = tt; under = tt }

pub returns : goal.returns
unfolding more_from
returns c =
    let xs = c.args.s.now in let at = c.in-Some.at in
    let w = chain_last (opt_there c.args.numbers.now (omega arith) (c.args.base + first_at 18) 18 xs at refl c.take.ensures) in
    rw c.in-Some.is (item_ends is xs at refl (at_base is xs at refl w).item refl)

pub take-requires : goal.take-requires
unfolding count placed_at placed placed_in placed_from lines_of items cat048 cat021 cat007
take-requires c = (omega (arith, part_there is c.args.s.now c.in-Some.at refl (rw c.in-Some.is at c.requires.1)), omega (arith, c.requires.0))

pub returns-in_default : goal.returns-in_default
unfolding count placed_at placed placed_in placed_from lines_of items cat048 cat021 cat007
returns-in_default c = let a = c.args in item_absent 2 a.s.now (place a.start) (ap is_there c.in_default.is) a.numbers.now a.base
