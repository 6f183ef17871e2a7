-- `reader::is_item` meets its contract: one law at each way out. Assumes nothing.
use mathlib.Core.Path.{◌≡◌, sym, ap, ◌∙◌, subst}
use Prim.Native.Nat.{◌+◌, ◌≤◌, ◌<◌}
use native.Mathlib.Omega.{arith}
use borrow.Author.Tests.{ne_eqb}
use lib.Dec.{eqb}
use lib.ListN.{length}
use Rattle.std.specs.Prelude.{Err}
use mir.Facts.{Fits-of_lt}
use Rattle.papers.proofs.Laws.Papers.{few_items}
use Rattle.spots.specs.Spots.{spot_at, spot_of}
use Rattle.spots.specs.Laws.Spots.{spots_right}
use Rattle.reader.specs.Items.{item_run}
use Rattle.reader.specs.Seen.{Ends, step_number}
use Rattle.reader.specs.Laws.Seen.{err_big}
use Rattle.reader.specs.Laws.Alone.{is_none, is_long, is_other, is_behind, is_right}
use Rattle.reader.proofs.is_item.Goals as goal

pub returns-then-n-eq0 : goal.returns-then-n-eq0
returns-then-n-eq0 c = let a = c.args in is_none a.cat a.i a.octets.now c.if-n-eq0.true

pub returns-then-n-gt253 : goal.returns-then-n-gt253
returns-then-n-gt253 c = let a = c.args in is_long a.cat a.i a.octets.now c.if-n-gt253.true

pub overflow_add-spot_of : goal.overflow_add-spot_of
overflow_add-spot_of c =
    let i = c.args.i in
    let few : c.items_of.result ≤ 8 = subst (◌≤ 8) (sym c.items_of.ensures) (few_items _) in
    let low : c.spot_of.result < 100 = subst (◌< 100) (sym c.spot_of.ensures) (spots_right _ (sym c.is_known.ensures ∙ c.if-is_known.true)).few in
    Fits-of_lt (omega (arith, few, low, c.if-i-items_of.true))

pub returns-in-Ok : goal.returns-in-Ok
returns-in-Ok c =
    let a = c.args in let xs = a.octets.now in
    let e : c.wide.result ≡ (spot_at (spot_of a.cat + a.i)).0 = c.wide.ensures.0 ∙ ap (λ x. x.0) c.spot_at-spot.ensures ∙ ap (λ j. (spot_at (j + a.i)).0) c.spot_of.ensures in
    let right = is_right a.cat a.i xs c.if-n-eq0.false (omega (arith, c.if-n-gt253.false)) (sym c.is_known.ensures ∙ c.if-is_known.true) (omega (arith, c.if-i-items_of.true, c.items_of.ensures))
    (subst (λ j. Ends (item_run j xs 0) (step_number c.item.result)) e c.item.ensures) in
    ap (λ j. eqb j (length xs)) c.from.ensures ∙ ap (λ r. eqb (step_number r) (length xs)) (sym c.in-Ok.is) ∙ right

pub returns-in_default : goal.returns-in_default
returns-in_default c =
    let a = c.args in let xs = a.octets.now in
    let e : c.wide.result ≡ (spot_at (spot_of a.cat + a.i)).0 = c.wide.ensures.0 ∙ ap (λ x. x.0) c.spot_at-spot.ensures ∙ ap (λ j. (spot_at (j + a.i)).0) c.spot_of.ensures in
    let right = is_right a.cat a.i xs c.if-n-eq0.false (omega (arith, c.if-n-gt253.false)) (sym c.is_known.ensures ∙ c.if-is_known.true) (omega (arith, c.if-i-items_of.true, c.items_of.ensures))
    (subst (λ j. Ends (item_run j xs 0) (step_number c.item.result)) e c.item.ensures) in
    sym (ap (λ r. eqb (step_number r) (length xs)) c.in_default.is ∙ ne_eqb (step_number (Err c.in_default.field-0)) (length xs) (λ q. absurd (omega (arith, q, err_big c.in_default.field-0, c.if-n-gt253.false)))) ∙ right

pub returns-else-i-items_of : goal.returns-else-i-items_of
returns-else-i-items_of c =
    let a = c.args in
    is_behind a.cat a.i a.octets.now (sym c.is_known.ensures ∙ c.if-is_known.true) (omega (arith, c.if-i-items_of.false, c.items_of.ensures))

pub returns-else-is_known : goal.returns-else-is_known
returns-else-is_known c =
    let a = c.args in
    is_other a.cat a.i a.octets.now (sym c.is_known.ensures ∙ c.if-is_known.false)
