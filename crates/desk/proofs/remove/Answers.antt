-- `desk::remove` meets its contract: one law at each way out. Assumes nothing.
use mathlib.Core.Path.{refl, ap, ◌∙◌}
use native.Mathlib.Omega.{arith}
use lib.ListN.{length}
use Rattle.std.proofs.lemmas.Result.{err_from_is_err_and}
use Rattle.codec.specs.Change.{remove, set_flag}
use Rattle.codec.proofs.Laws.Change.{new_octets, new_flag}
use Rattle.scope.proofs.Laws.Outputs.{refused_left}
use Rattle.codec.proofs.Laws.Codec.{octets_all}
use Rattle.desk.specs.Laws.Edits.{emptied-found, emptied-fell, edit_removes, exchange_asks, edit_made}
use Rattle.desk.proofs.remove.Goals as goal

pub returns-in_err-found : goal.returns-in_err-found
returns-in_err-found c =
    let a = c.args in
    let p = err_from_is_err_and c.from_residual.result c.from_residual.ensures.1 in
    rw (p.1, p.2) (refused_left (emptied-fell a.cat a.field.now a.list a.item c.in_err-found.ensures refl remove (length a.out.now)) a.out.now refl)

pub exchanged-requires : goal.exchanged-requires
unfolding new_octets
exchanged-requires c =
    let a = c.args in
    let f = emptied-found a.cat a.field.now a.list a.item c.in_ok-found.ensures refl in
    let p = edit_removes a.cat a.field.now f.0 refl a.list a.item refl f.1 in
    exchange_asks a.cat a.field.now f.0 refl a.list a.item refl f.1 (octets_all a.field.now (λ i. omega (arith, c.type_inv.field i))) remove tt p.0 p.1

pub returns : goal.returns
unfolding new_octets new_flag
returns c =
    let a = c.args in
    let f = emptied-found a.cat a.field.now a.list a.item c.in_ok-found.ensures refl in
    let p = edit_removes a.cat a.field.now f.0 refl a.list a.item refl f.1 in
    edit_made a.cat a.field.now f.0 refl a.list a.item refl f.1 (octets_all a.field.now (λ i. omega (arith, c.type_inv.field i))) remove tt p.0 p.1
    (c.without_item-items.ensures ∙ ap (λ j. set_flag c.in_ok-found.found.items j 0) c.index.ensures) c.exchanged.ensures
