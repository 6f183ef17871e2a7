-- `visitors::copy` meets its contract: the array holds a field without those of the items passed that are withheld. Assumes nothing.
use Rattle.visitors.proofs.copy.Goals.{else-loop-item-test, then-loop-item-test+else-item-items}
use Rattle.std.proofs.lemmas.Result.{err_from_is_err_and}
use mathlib.Core.Path.{◌≡◌, refl, sym, ◌∙◌, subst}
use Prim.Native.Nat.{ℕ, suc, ◌+◌, ◌-◌, ◌%◌, ◌≤◌, ◌<◌}
use mathlib.Core.List.{List}
use Rattle.codec.specs.Field.{Contents}
use Rattle.visitors.specs.Passing.{passed_of}
use native.Mathlib.Omega.{arith}
use lib.ListN.{length}
use lib.Seq.{length-take-le}
use Rattle.leaves.specs.{octet_is}
use Rattle.codec.specs.Codec.{Octets}
use Rattle.codec.proofs.Laws.Codec.{octets_all}
use Rattle.papers.specs.Papers.{paper_of, items_of}
use Rattle.papers.proofs.Laws.Papers.{few_items}
use Rattle.scope.specs.Visitors.{without}
use Rattle.scope.proofs.Laws.Outputs.{refused_left}
use Rattle.scope.proofs.Laws.Reading.{one_reading}
use Rattle.scope.proofs.Laws.Visitors.{left_of}
use Rattle.visitors.specs.Laws.Passing.{InFront, begun, whole_long, has_room, first_copied, next_held, all_passed, passed_on}
use Rattle.visitors.proofs.copy.Goals as goal

-- a turn passes an item
turn : (cat : ℕ) (q : Contents) {kept : List ℕ} (withheld item : ℕ) → InFront cat (without (paper_of cat) withheld (item - 1) q) kept → 1 ≤ item
    → {items : ℕ} → items ≡ items_of cat → item ≤ items → {o : ℕ} → o ≡ item % 256 → {next : List ℕ} → next ≡ passed_of cat kept withheld o
    → InFront cat (without (paper_of cat) withheld (item + 1 - 1) q) next
turn cat q {kept} withheld item h one e le eo {next} en =
    let below : item - 1 < items_of cat = omega arith in
    let next_item : suc (item - 1) ≡ item + 1 - 1 = omega arith in
    let o_is = eo ∙ octet_is item (omega (arith, few_items cat)) ∙ omega arith in
    subst (λ m. InFront cat (without (paper_of cat) withheld m q) next) next_item (next_held q withheld (item - 1) h below o_is en)

pub returns-in_err-len : goal.returns-in_err-len
returns-in_err-len c =
    let a = c.args in
    let p = err_from_is_err_and c.from_residual.result c.from_residual.ensures.1 in
    rw (p.1, p.2) (refused_left (passed_on a.cat a.field.now c.in_err-len.ensures refl a.withheld (length a.out.now)) a.out.now refl)

pub slice_bounds-kept-end : goal.slice_bounds-kept-end
slice_bounds-kept-end c =
    let os : Octets c.args.field.now = octets_all c.args.field.now (λ i. omega (arith, c.type_inv.field i)) in
    omega (arith, whole_long c.args.cat c.args.field.now os c.in_ok-len.ensures refl, has_room c.args.cat c.args.field.now os c.in_ok-len.ensures refl)

pub slice_bounds-copy_from_slice-end : goal.slice_bounds-copy_from_slice-end
slice_bounds-copy_from_slice-end c =
    let os : Octets c.args.field.now = octets_all c.args.field.now (λ i. omega (arith, c.type_inv.field i)) in
    sym (length-take-le _ _ (omega (arith, whole_long c.args.cat c.args.field.now os c.in_ok-len.ensures refl, has_room c.args.cat c.args.field.now os c.in_ok-len.ensures refl)))

pub slice_bounds-copy_from_slice-end-2 : goal.slice_bounds-copy_from_slice-end-2
slice_bounds-copy_from_slice-end-2 c =
    let os : Octets c.args.field.now = octets_all c.args.field.now (λ i. omega (arith, c.type_inv.field i)) in
    whole_long c.args.cat c.args.field.now os c.in_ok-len.ensures refl

pub copy_from_slice-requires : goal.copy_from_slice-requires
copy_from_slice-requires c =
    let os : Octets c.args.field.now = octets_all c.args.field.now (λ i. omega (arith, c.type_inv.field i)) in
    length-take-le _ _ (omega (arith, whole_long c.args.cat c.args.field.now os c.in_ok-len.ensures refl, has_room c.args.cat c.args.field.now os c.in_ok-len.ensures refl))
    ∙ whole_long c.args.cat c.args.field.now os c.in_ok-len.ensures refl

pub loop-item-init : goal.loop-item-init
unfolding without
loop-item-init c = (
  omega arith,
  λ r.
      let os : Octets c.args.field.now = octets_all c.args.field.now (λ i. omega (arith, c.type_inv.field i)) in
      subst (λ q. InFront c.args.cat q _) (one_reading (begun c.args.cat c.args.field.now os c.in_ok-len.ensures refl) r)
      (first_copied c.args.cat c.args.field.now os c.in_ok-len.ensures refl c.copy_from_slice.ensures.after),
)

pub loop-item-preserved : goal.loop-item-preserved
loop-item-preserved c = (
  omega arith,
  λ r. turn c.args.cat r.what c.args.withheld c.loop-item.item (c.loop-item.invariant.1 r) (omega arith) c.items_of-items.ensures (omega arith) c.octet.ensures c.passed-kept.ensures,
)

pub returns : goal.returns
returns c =
    let os : Octets c.args.field.now = octets_all c.args.field.now (λ i. omega (arith, c.type_inv.field i)) in
    let b = begun c.args.cat c.args.field.now os c.in_ok-len.ensures refl in
    let held : InFront c.args.cat (left_of b c.args.withheld) c.loop-item-test.kept =
    elim c.loop-item-test.branch [
      | else-loop-item-test w ↦
          let all : c.loop-item.item - 1 ≡ items_of c.args.cat = omega (arith, c.items_of-items.ensures, c.loop-item.invariant.0) in
          rw w.kept-is (subst (λ m. InFront c.args.cat (without (paper_of c.args.cat) c.args.withheld m b.what) c.loop-item.kept) all (c.loop-item.invariant.1 b))
      | then-loop-item-test+else-item-items w ↦
          let all : c.loop-item.item + 1 - 1 ≡ items_of c.args.cat = omega (arith, c.items_of-items.ensures) in
          rw w.kept-is (subst (λ m. InFront c.args.cat (without (paper_of c.args.cat) c.args.withheld m b.what) w.passed-kept.result) all
          (turn c.args.cat b.what c.args.withheld c.loop-item.item (c.loop-item.invariant.1 b) (omega arith) c.items_of-items.ensures w.loop-item-test.true w.octet.ensures w.passed-kept.ensures))
    ] in
    all_passed b c.args.withheld held c.wide-n.ensures.0 c.front.ensures c.deliver.ensures
