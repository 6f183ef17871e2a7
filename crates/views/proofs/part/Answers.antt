-- `views::part` meets its contract. Assumes nothing.
use mathlib.Core.Path.{◌≡◌, sym, ap, ◌∙◌}
use Prim.Native.Nat.{ℕ, ◌+◌, ◌-◌}
use native.Mathlib.Omega.{arith}
use lib.ListN.{take, drop}
use Rattle.layout.specs.Answer.{view_by_number}
use Rattle.scope.specs.Views.{part_of}
use Rattle.views.specs.Parts.{part_at}
use Rattle.views.proofs.part.Goals as goal

back : (a m : ℕ) → a + m - a ≡ m
back a m = omega arith

pub returns-in_default : goal.returns-in_default
unfolding part_of part_at
returns-in_default c =
    let f = c.args.field in
    let e = ap view_by_number c.in_default.is in
    (sym (ap (part_of f.now) e), sym (ap (part_at f.ref_ptr) e))

pub overflow_add-result : goal.overflow_add-result
overflow_add-result c =
    let h = c.requires c.in-Ok.shown.start c.in-Ok.shown.length (ap view_by_number c.in-Ok.is) in
    omega (arith, h)

pub slice_bounds-result-end-2 : goal.slice_bounds-result-end-2
slice_bounds-result-end-2 c =
    let h = c.requires c.in-Ok.shown.start c.in-Ok.shown.length (ap view_by_number c.in-Ok.is) in
    omega (arith, h)

pub returns : goal.returns
unfolding part_of part_at
returns c =
    let f = c.args.field in
    let v = c.in-Ok.shown in
    let e = ap view_by_number c.in-Ok.is in
    (ap (λ k. take k (drop v.start f.now)) (back v.start v.length) ∙ sym (ap (part_of f.now) e), sym (ap (part_at f.ref_ptr) e))
