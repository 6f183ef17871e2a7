-- `views::standing` meets its contract: one law at each way out. Assumes nothing.
use mathlib.Core.Path.{ap₂, ◌∙◌}
use Prim.Native.Nat.{◌-◌, ◌≤◌, ◌<◌}
use native.Mathlib.Omega.{arith}
use Rattle.layout.specs.Answer.{Shown}
use Rattle.views.specs.Laws.Standing.{stands_none, item_some, item_low, rises, stands_there, stands_absent}
use Rattle.views.proofs.standing.Goals as goal

pub overflow_sub-i : goal.overflow_sub-i
overflow_sub-i c =
    let a = c.args in
    item_some a.cat a.found.items a.found.starts a.item c.is_item.ensures c.if-is_item.true c.wide-i.ensures.0

pub overflow_sub-result : goal.overflow_sub-result
overflow_sub-result c =
    let a = c.args in
    let r = rises a.cat a.found.items a.found.starts a.item c.is_item.ensures c.if-is_item.true c.wide-i.ensures.0 c.requires in
    omega (arith, r, c.wide-from.ensures.0, c.wide-to.ensures.0)

pub returns-then-present : goal.returns-then-present
returns-then-present c =
    let a = c.args in
    ap₂ (λ i j. Shown i (j - i)) c.wide-from.ensures.0 c.wide-to.ensures.0
    ∙ stands_there a.cat a.found.items a.found.starts a.item c.is_item.ensures c.if-is_item.true c.wide-i.ensures.0 c.present.ensures c.if-present.true

pub returns-then-is_item : goal.returns-then-is_item
returns-then-is_item c =
    let a = c.args in
    rw c.at.ensures (stands_absent a.cat a.found.items a.found.starts a.item c.is_item.ensures c.if-is_item.true c.wide-i.ensures.0 c.present.ensures c.if-present.false)

pub returns : goal.returns
returns c =
    let a = c.args in
    rw c.at-2.ensures (stands_none a.cat a.found.items a.found.starts a.item c.is_item.ensures c.if-is_item.false)

pub overflow_sub-i-then-present : goal.overflow_sub-i-then-present
overflow_sub-i-then-present c =
    let low : ((1 ≤ c.wide-i.result) × (c.wide-i.result - 1 < 8)) =
    let a = c.args in
    (item_some a.cat a.found.items a.found.starts a.item c.is_item.ensures c.if-is_item.true c.wide-i.ensures.0, item_low a.cat a.found.items a.found.starts a.item c.is_item.ensures c.if-is_item.true c.wide-i.ensures.0) in
    omega (arith, low)

pub bounds-starts-i : goal.bounds-starts-i
bounds-starts-i c =
    let low : ((1 ≤ c.wide-i.result) × (c.wide-i.result - 1 < 8)) =
    let a = c.args in
    (item_some a.cat a.found.items a.found.starts a.item c.is_item.ensures c.if-is_item.true c.wide-i.ensures.0, item_low a.cat a.found.items a.found.starts a.item c.is_item.ensures c.if-is_item.true c.wide-i.ensures.0) in
    omega (arith, low)

pub bounds-starts-i-then-present : goal.bounds-starts-i-then-present
bounds-starts-i-then-present c =
    let low : ((1 ≤ c.wide-i.result) × (c.wide-i.result - 1 < 8)) =
    let a = c.args in
    (item_some a.cat a.found.items a.found.starts a.item c.is_item.ensures c.if-is_item.true c.wide-i.ensures.0, item_low a.cat a.found.items a.found.starts a.item c.is_item.ensures c.if-is_item.true c.wide-i.ensures.0) in
    omega (arith, low)
