-- `outputs::deliver` meets its contract. Assumes nothing.
use Rattle.std.proofs.Common.{◌++◌, length, drop, arith, ap, sym, ◌∙◌, take_all, refl}
use Rattle.scope.proofs.Laws.Outputs.{delivered, no_room}
use Rattle.outputs.proofs.deliver.Goals as goal

pub returns-then-n-out : goal.returns-then-n-out
returns-then-n-out c =
    let a = c.args in
    let s = a.octets.now in
    delivered s a.out.now (omega (arith, c.if-n-out.true)) refl
    (ap (◌++ drop (length s) a.out.now) (c.copy_from_slice.ensures.after ∙ sym (take_all (length s) s (omega arith))))

pub returns : goal.returns
returns c = let a = c.args in rw c.at.ensures (no_room a.octets.now a.out.now (omega (arith, c.if-n-out.false)))
