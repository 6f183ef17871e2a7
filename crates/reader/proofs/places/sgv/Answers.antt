-- `reader::places::sgv` meets its contract: one law at each way out. Assumes nothing.
use mathlib.Core.Path.{sym}
use borrow.Author.Rules.{rules}
use Rattle.reader.specs.Laws.Tables.{count, lines_of, slots_of, cat048, cat021, cat007, items, placed_from, placed_in, placed, placed_at, item_at, lines_from, parts_ok, flags_under, item_of, item_run, more_from}
use Rattle.reader.specs.Laws.Items.{item_from}
use Rattle.reader.specs.Laws.Onward.{chain-from, by_octet}
use Rattle.reader.specs.Laws.Seen.{went_by, went_stop, err_big, handed, ends_same}
use Rattle.std.specs.Prelude.{T}
use Rattle.std.proofs.iter.Serving.{serving}
use Rattle.reader.proofs.places.sgv.Goals as goal

lone : T (parts_ok 30 0)
unfolding parts_ok count placed_at placed placed_in placed_from lines_of items cat048 cat021 cat007
lone = tt

pub there-requires : goal.there-requires
there-requires c = grind (serving, lone)

pub returns-in_err-part : goal.returns-in_err-part
unfolding parts_ok flags_under item_run item_at item_of more_from lines_from slots_of count placed_at placed placed_in placed_from lines_of items cat048 cat021 cat007
returns-in_err-part c =
    let a = c.args in let xs = a.s.now in
    handed c.from_residual.result c.in_err-part.field-0.0 c.from_residual.ensures.1 (ends_same (chain-from 29 xs 0 tt a.at c.in_err-part.ensures (went_stop (err_big c.in_err-part.field-0.0))) (sym (item_from 29 1 0 xs a.at tt)))

pub returns : goal.returns
unfolding parts_ok flags_under item_run item_at item_of more_from lines_from slots_of count placed_at placed placed_in placed_from lines_of items cat048 cat021 cat007
returns c =
    let a = c.args in let xs = a.s.now in
    ends_same (chain-from 29 xs 0 tt a.at c.in_ok-part.ensures (by_octet xs c.before-2.ensures (went_by c.there.ensures (λ p. search rules)))) (sym (item_from 29 1 0 xs a.at tt))
