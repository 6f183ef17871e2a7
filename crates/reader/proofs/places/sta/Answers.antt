-- `reader::places::sta` meets its contract: one law at each part, and one at each way out. Assumes nothing.
use mathlib.Core.Path.{sym}
use borrow.Author.Rules.{rules}
use Rattle.reader.specs.Laws.Tables.{count, lines_of, slots_of, cat048, cat021, cat007, items, placed_from, placed_in, placed, placed_at, item_at, lines_from, parts_ok, flags_under, item_of, item_run, more_from}
use Rattle.reader.specs.Laws.Items.{item_from}
use Rattle.reader.specs.Laws.Onward.{chain-from, chain_on, by_octet}
use Rattle.reader.specs.Laws.Seen.{went_by, went_stop, err_big, handed, ends_same}
use Rattle.std.specs.Prelude.{T}
use Rattle.std.proofs.iter.Serving.{serving}
use Rattle.reader.proofs.places.sta.Goals as goal

lone : T (parts_ok 36 0)
unfolding parts_ok count placed_at placed placed_in placed_from lines_of items cat048 cat021 cat007
lone = tt

pub there-requires : goal.there-requires
there-requires c = grind (serving, lone)

pub returns-in_err-part : goal.returns-in_err-part
unfolding parts_ok flags_under item_run item_at item_of more_from lines_from slots_of count placed_at placed placed_in placed_from lines_of items cat048 cat021 cat007
returns-in_err-part c =
    let a = c.args in let xs = a.s.now in
    handed c.from_residual.result c.in_err-part.field-0.0 c.from_residual.ensures.1 (ends_same (chain-from 31 xs 4 tt a.at c.in_err-part.ensures (went_stop (err_big c.in_err-part.field-0.0))) (sym (item_from 31 5 0 xs a.at tt)))

pub returns-in_err-second : goal.returns-in_err-second
unfolding parts_ok flags_under item_run item_at item_of more_from lines_from slots_of count placed_at placed placed_in placed_from lines_of items cat048 cat021 cat007
returns-in_err-second c =
    let a = c.args in let xs = a.s.now in
    handed c.from_residual-in_err-second.result c.in_err-second.field-0.0 c.from_residual-in_err-second.ensures.1 (ends_same (chain-from 31 xs 4 tt a.at c.in_ok-part.ensures (chain_on 32 xs 3 tt (by_octet xs c.before-2.ensures c.in_err-second.ensures) (went_stop (err_big c.in_err-second.field-0.0)))) (sym (item_from 31 5 0 xs a.at tt)))

pub returns-in_err-third : goal.returns-in_err-third
unfolding parts_ok flags_under item_run item_at item_of more_from lines_from slots_of count placed_at placed placed_in placed_from lines_of items cat048 cat021 cat007
returns-in_err-third c =
    let a = c.args in let xs = a.s.now in
    handed c.from_residual-in_err-third.result c.in_err-third.field-0.0 c.from_residual-in_err-third.ensures.1 (ends_same (chain-from 31 xs 4 tt a.at c.in_ok-part.ensures (chain_on 32 xs 3 tt (by_octet xs c.before-2.ensures c.in_ok-second.ensures) (chain_on 33 xs 2 tt (by_octet xs c.before-3.ensures c.in_err-third.ensures) (went_stop (err_big c.in_err-third.field-0.0))))) (sym (item_from 31 5 0 xs a.at tt)))

pub returns-in_err-fourth : goal.returns-in_err-fourth
unfolding parts_ok flags_under item_run item_at item_of more_from lines_from slots_of count placed_at placed placed_in placed_from lines_of items cat048 cat021 cat007
returns-in_err-fourth c =
    let a = c.args in let xs = a.s.now in
    handed c.from_residual-in_err-fourth.result c.in_err-fourth.field-0.0 c.from_residual-in_err-fourth.ensures.1 (ends_same (chain-from 31 xs 4 tt a.at c.in_ok-part.ensures (chain_on 32 xs 3 tt (by_octet xs c.before-2.ensures c.in_ok-second.ensures) (chain_on 33 xs 2 tt (by_octet xs c.before-3.ensures c.in_ok-third.ensures) (chain_on 34 xs 1 tt (by_octet xs c.before-4.ensures c.in_err-fourth.ensures) (went_stop (err_big c.in_err-fourth.field-0.0)))))) (sym (item_from 31 5 0 xs a.at tt)))

pub returns-in_err-fifth : goal.returns-in_err-fifth
unfolding parts_ok flags_under item_run item_at item_of more_from lines_from slots_of count placed_at placed placed_in placed_from lines_of items cat048 cat021 cat007
returns-in_err-fifth c =
    let a = c.args in let xs = a.s.now in
    handed c.from_residual-in_err-fifth.result c.in_err-fifth.field-0.0 c.from_residual-in_err-fifth.ensures.1 (ends_same (chain-from 31 xs 4 tt a.at c.in_ok-part.ensures (chain_on 32 xs 3 tt (by_octet xs c.before-2.ensures c.in_ok-second.ensures) (chain_on 33 xs 2 tt (by_octet xs c.before-3.ensures c.in_ok-third.ensures) (chain_on 34 xs 1 tt (by_octet xs c.before-4.ensures c.in_ok-fourth.ensures) (chain_on 35 xs 0 tt (by_octet xs c.before-5.ensures c.in_err-fifth.ensures) (went_stop (err_big c.in_err-fifth.field-0.0))))))) (sym (item_from 31 5 0 xs a.at tt)))

pub returns : goal.returns
unfolding parts_ok flags_under item_run item_at item_of more_from lines_from slots_of count placed_at placed placed_in placed_from lines_of items cat048 cat021 cat007
returns c =
    let a = c.args in let xs = a.s.now in
    ends_same (chain-from 31 xs 4 tt a.at c.in_ok-part.ensures (chain_on 32 xs 3 tt (by_octet xs c.before-2.ensures c.in_ok-second.ensures) (chain_on 33 xs 2 tt (by_octet xs c.before-3.ensures c.in_ok-third.ensures) (chain_on 34 xs 1 tt (by_octet xs c.before-4.ensures c.in_ok-fourth.ensures) (chain_on 35 xs 0 tt (by_octet xs c.before-5.ensures c.in_ok-fifth.ensures) (by_octet xs c.before-6.ensures (went_by c.there.ensures (λ p. search rules)))))))) (sym (item_from 31 5 0 xs a.at tt))
