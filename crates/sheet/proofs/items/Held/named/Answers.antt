-- `sheet::items::Held::named` meets its contract: its chain, if it has one, and its lines. Assumes nothing.
use mathlib.Core.Path.{refl}
use Rattle.text.specs.Laws.Typing.{types_behind}
use Rattle.sheet.specs.Laws.Items.{arm_plain, arm_chained, arm_past}
use Rattle.sheet.proofs.items.Held.named.Goals.{in-Some-chain_of, in_default-chain_of}
use Rattle.sheet.proofs.items.Held.named.Goals as goal

pub returns-in_default : goal.returns-in_default
returns-in_default c =
    let h = c.args.self.now in
    arm_past h.numbers.now h.base h.count c.args.k c.in_default.ensures _ _

pub returns : goal.returns
returns c =
    let a = c.args in
    let h = a.self.now in
    let keys = c.in-Some.keys.now in
    let of = c.in-Some.ensures in
    elim c.match-chain_of.branch [
      | in-Some-chain_of w ↦ arm_chained h.numbers.now h.base h.count a.k refl keys of.grouped w.in-Some-chain_of.key.now (λ n. w.in-Some-chain_of.ensures n) (types_behind w.pair.ensures (rw w.sheet-is at c.item.ensures))
      | in_default-chain_of w ↦ arm_plain h.numbers.now h.base h.count a.k refl keys of.grouped (λ n. w.in_default-chain_of.ensures n) (rw w.sheet-is at c.item.ensures)
    ]
