-- `writer::lines::Laying::chain` meets its contract: one law at each way out. Assumes nothing.
use mathlib.Core.Path.{◌≡◌, sym, ◌∙◌, subst}
use Prim.Native.Nat.{◌+◌, ◌-◌}
use native.Mathlib.Omega.{arith}
use borrow.Author.Rules.{rules}
use lib.Dec.{T}
use mir.Facts.{Fits-of_lt}
use Rattle.lengths.specs.Lines.{first_at, count_at}
use Rattle.shapes.specs.Shapes.{in_turn}
use Rattle.shapes.specs.Laws.Runs.{turn_first, turn_rest}
use Rattle.writer.specs.Laws.Chains.{goes, chain_last, chain_on}
use Rattle.writer.proofs.lines.Laying.+chain.Goals as goal

pub goes_on-requires : goal.goes_on-requires
goes_on-requires t c = search rules

pub overflow_sub-count : goal.overflow_sub-count
overflow_sub-count t c =
    let a = c.args in
    omega (arith, (goes a.count a.left (sym c.goes_on.ensures ∙ c.if-goes_on.true)).1)

pub overflow_add-b : goal.overflow_add-b
overflow_add-b t c = let g = c.requires in Fits-of_lt (omega (arith, g))

pub overflow_sub-left : goal.overflow_sub-left
overflow_sub-left t c =
    let a = c.args in
    let h = (goes a.count a.left (sym c.goes_on.ensures ∙ c.if-goes_on.true)).0 in
    omega (arith, h)

pub chain-requires : goal.chain-requires
chain-requires t c =
    let a = c.args in
    let g = c.requires in
    let h = (goes a.count a.left (sym c.goes_on.ensures ∙ c.if-goes_on.true)).0 in
    let e : a.left + 1 - 1 ≡ a.left - 1 + 1 = omega arith in
    (omega (arith, c.decreases, h), (omega (arith, g, h), subst (λ n. T (in_turn (a.b + 1) n)) e (turn_rest a.b (a.left + 1) (λ z. omega arith) g.1)))

pub returns-then-goes_on : goal.returns-then-goes_on
returns-then-goes_on t c =
    let a = c.args in
    let t = sym c.goes_on.ensures ∙ c.if-goes_on.true in
    let h = (goes a.count a.left t).0 in
    let f = turn_first a.b (a.left + 1) (λ z. h (omega arith)) c.requires.1 in
    let e : a.slots.base + first_at (a.b + 1) ≡ a.slots.base + first_at a.b + count_at a.b = omega (arith, f) in
    chain_on a.slots.numbers.now a.b a.left a.count (a.slots.base + first_at a.b) t c.line.ensures e c.chain.ensures

pub returns : goal.returns
returns t c =
    let a = c.args in
    chain_last a.slots.numbers.now a.b a.left a.count (a.slots.base + first_at a.b) (sym c.goes_on.ensures ∙ c.if-goes_on.false) c.line-2.ensures
