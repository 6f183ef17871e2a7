-- `sheet::sheet` meets its contract: the text holds every sheet. Assumes nothing.
use mathlib.Core.Path.{subst}
use native.Mathlib.Omega.{arith}
use lib.ListN.{length}
use Rattle.layout.specs.Answer.{by_number}
use Rattle.scope.specs.Outputs.{with_room, Leaves}
use Rattle.codec.proofs.Laws.Codec.{octets_all}
use Rattle.sheet.specs.Laws.Whole.{sheet_held}
use Rattle.sheet.proofs.sheet.Goals as goal

pub returns : goal.returns
returns c =
    let t = c.args.input.now in
    let out = c.args.out.now in
    subst (λ x. Leaves (with_room (length out) x) out (by_number c.deliver.result) c.deliver.new.out)
    (sheet_held t (octets_all t (λ i. omega (arith, c.type_inv.input i))) c.new-sheet.ensures c.typed.ensures c.as_slice.ensures) c.deliver.ensures
