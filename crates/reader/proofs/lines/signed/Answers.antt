-- `reader::lines::signed` meets its contract: the lower half stands for itself, the upper for d - full. Assumes nothing.
use mathlib.Core.Path.{◌≡◌, sym, ap₂, ◌∙◌, subst}
use Prim.Native.Nat.{ℕ, suc, ◌-◌, ◌^◌, ◌≤◌, ◌<◌}
use native.Mathlib.Omega.{arith}
use borrow.Author.Rules.{rules}
use lib.IntN.{negsuc, ◌-ℤ◌}
use mir.Syntax.{w32}
use mir.Val.{to_z, SFits}
use mir.Facts.{to_z-of_z, to_z_pos}
use Rattle.codec.proofs.Laws.Signed.{minus, signed_low, signed_high}
use Rattle.reader.proofs.lines.signed.Goals as goal

-- the difference, as 32 bits read it
difference : (d full : ℕ) → d < full → full ≤ 2 ^ 24 → to_z w32 d -ℤ to_z w32 full ≡ negsuc (full - suc d)
difference d full h k = ap₂ ◌-ℤ◌ (to_z_pos w32 {n = d} (omega arith)) (to_z_pos w32 {n = full} (omega arith)) ∙ minus d full h

difference_fits : (d full : ℕ) → d < full → full ≤ 2 ^ 24 → SFits w32 (to_z w32 d -ℤ to_z w32 full)
difference_fits d full h k = subst (SFits w32) (sym (difference d full h k)) (record { sfits = omega arith })

pub overflow_add-d : goal.overflow_add-d
overflow_add-d c = search rules

pub overflow_cast-result : goal.overflow_cast-result
overflow_cast-result c = search rules

pub returns-then-d-full : goal.returns-then-d-full
returns-then-d-full c = let a = c.args in to_z_pos w32 {n = a.d} (omega arith) ∙ sym (signed_low a.full a.d c.if-d-full.true)

pub overflow_cast-result-2 : goal.overflow_cast-result-2
overflow_cast-result-2 c = search rules

pub overflow_cast-result-3 : goal.overflow_cast-result-3
overflow_cast-result-3 c = search rules

pub overflow_sub-result : goal.overflow_sub-result
overflow_sub-result c = let a = c.args in difference_fits a.d a.full (omega arith) (omega arith)

pub returns : goal.returns
returns c =
    let a = c.args in
    to_z-of_z (difference_fits a.d a.full (omega arith) (omega arith)) ∙ difference a.d a.full (omega arith) (omega arith)
    ∙ sym (signed_high a.full a.d c.if-d-full.false)
