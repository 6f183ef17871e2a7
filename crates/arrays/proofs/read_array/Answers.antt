-- `arrays::read_array` meets its contract: one law at each way out. Assumes nothing.
use mathlib.Core.Path.{refl, ◌∙◌}
use Rattle.std.proofs.lemmas.Result.{err_from_is_err_and}
use native.Mathlib.Omega.{arith}
use borrow.Author.Rules.{sfits_of}
use mir.Syntax.{w32}
use mir.Facts.{to_z-of_z}
use Rattle.codec.specs.Codec.{Octets}
use Rattle.codec.proofs.Laws.Codec.{octets_all}
use Rattle.interface.proofs.Laws.Arrays.{two_there, filled_other, filled_refused, filled_accepted}
use Rattle.arrays.proofs.read_array.Goals as goal

pub returns-then-out-ne-PLACES : goal.returns-then-out-ne-PLACES
returns-then-out-ne-PLACES c = filled_other c.args.out.now c.if-out-ne-PLACES.true c.read_into.ensures

pub returns-in_err-len : goal.returns-in_err-len
returns-in_err-len c =
    let p = err_from_is_err_and c.from_residual.result c.from_residual.ensures.1 in
    rw (p.1, p.2) (filled_refused c.args.out.now c.if-out-ne-PLACES.false c.in_err-len.ensures refl)

pub bounds-field-1 : goal.bounds-field-1
bounds-field-1 c =
    let a = c.args in
    let octets : Octets a.field.now = octets_all a.field.now (λ i. omega (arith, c.type_inv.field i)) in
    omega (arith, two_there a.cat a.field.now octets c.in_ok-len.ensures refl)

pub returns : goal.returns
returns c =
    let a = c.args in
    let octets : Octets a.field.now = octets_all a.field.now (λ i. omega (arith, c.type_inv.field i)) in
    filled_accepted a.cat a.field.now octets a.out.now c.if-out-ne-PLACES.false c.in_ok-len.ensures c.read_into-2.auto.numbers refl
    (to_z-of_z {w = w32} (sfits_of c.from.type_inv) ∙ c.from.ensures)
    (to_z-of_z {w = w32} (sfits_of c.from-2.type_inv) ∙ c.from-2.ensures) c.widen.ensures
