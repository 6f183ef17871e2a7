-- `sheet::numbers::group` meets its contract: a mark types its word, and any other octet goes on with it. Assumes nothing.
use mathlib.Core.Path.{◌≡◌, refl, sym, ap, subst, ◌∙◌}
use Prim.Native.Nat.{ℕ, ◌≤◌}
use native.Mathlib.Omega.{arith}
use mir.Facts.{Fits-of_lt}
use Rattle.text.specs.Laws.Typing.{types_as}
use Rattle.sheet.specs.Keys.{slots_in, keyed}
use Rattle.sheet.specs.Laws.Numbers.{slots_few}
use Rattle.sheet.specs.Laws.Groups.{group_end, group_mark, group_word}
use Rattle.sheet.proofs.numbers.group.Goals.{in-Some, in_default}
use Rattle.sheet.proofs.numbers.group.Goals as goal

few : (m : ℕ) {n : ℕ} → n ≡ slots_in m → n ≤ 2
few m e = subst (◌≤ 2) (sym e) (slots_few m)

pub overflow_add-slot : goal.overflow_add-slot
overflow_add-slot c = Fits-of_lt (omega (arith, c.requires, c.loop-i.invariant.1, c.loop-i-test.true, few _ c.slots-slot.ensures))

pub loop-i-preserved : goal.loop-i-preserved
loop-i-preserved c =
    let t = c.args.keys.now in
    let ns = c.args.numbers.now in
    let l = c.loop-i in
    elim c.match-mark_of.branch [
      | in-Some w ↦ rw (w.from-is, w.slot-is, w.sheet-is) (
        omega arith,
        omega (arith, l.invariant.1, few _ w.slots-slot.ensures),
        λ v r.
            let like = w.in-Some.ensures.1 in
            l.invariant.2 v (group_mark t l.from l.i ns l.slot c.loop-i-test.true (sym w.in-Some.ensures.0) refl (w.slots-slot.ensures ∙ like.slots) (types_as (ap (λ x. keyed x ns l.slot) (like.keys _)) w.lines.ensures) r),
      )
      | in_default w ↦ rw (w.from-is, w.slot-is, w.sheet-is) (
        omega (arith, l.invariant.0),
        omega (arith, l.invariant.1),
        λ v r.
            l.invariant.2 v (group_word t l.from l.i ns l.slot c.loop-i-test.true (sym w.in_default.ensures) refl l.invariant.0 r),
      )
    ]

pub returns : goal.returns
returns c =
    let l = c.loop-i in
    l.invariant.2 l.sheet (group_end c.args.keys.now l.from l.i c.args.numbers.now l.slot c.loop-i-test.false _ _)
