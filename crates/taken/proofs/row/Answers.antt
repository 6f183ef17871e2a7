-- The items that are left go where they went from the start.
use Rattle.std.proofs.Common.{◌+◌, ◌-◌, refl, ap, ◌∙◌, arith}
use Rattle.codec.specs.Field.{flags}
use Rattle.spots.specs.declared.Spot.{Spot}
use Rattle.taken.specs.Laws.Rows.{row_none, row_asks, item_room, there_next, absent_next}
use Rattle.taken.proofs.row.Goals as goal
use Rattle.taken.proofs.row.Goals.{then-present, else-present}

pub item-rest-requires : goal.item-rest-requires
item-rest-requires c =
    let a = c.args in
    item_room (a.k + c.loop-j.j) (row_asks (flags a.items) a.k a.i a.left c.loop-j.j c.loop-j-test.true c.loop-j.invariant.asks).0
    (c.wide-at.ensures.0 ∙ ap (λ (z : Spot). z.0) c.spot_at-spot.ensures) (c.wide-base.ensures.0 ∙ ap (λ (z : Spot). z.1) c.spot_at-spot.ensures)

pub item-requires : goal.item-requires
item-requires c =
    let a = c.args in
    item_room (a.k + c.loop-j.j) (row_asks (flags a.items) a.k a.i a.left c.loop-j.j c.loop-j-test.true c.loop-j.invariant.asks).0
    (c.wide-at.ensures.0 ∙ ap (λ (z : Spot). z.0) c.spot_at-spot.ensures) (c.wide-base.ensures.0 ∙ ap (λ (z : Spot). z.1) c.spot_at-spot.ensures)

pub loop-j-preserved : goal.loop-j-preserved
loop-j-preserved c =
    let a = c.args in
    let more = c.loop-j-test.true in
    let so_far = c.loop-j.invariant in
    let own = c.wide-at.ensures.0 ∙ ap (λ (z : Spot). z.0) c.spot_at-spot.ensures in
    let base = c.wide-base.ensures.0 ∙ ap (λ (z : Spot). z.1) c.spot_at-spot.ensures in
    let asks = (row_asks (flags a.items) a.k a.i a.left c.loop-j.j more so_far.asks).1 in
    elim c.if-present.branch [
      | then-present w ↦
          let next = there_next (flags a.items) a.k a.i a.left c.loop-j.j more so_far.asks c.loop-j.rest.now c.loop-j.parts c.loop-j.out c.present.ensures own base w.if-present.true w.count.ensures refl (w.item-rest.ensures.behind, w.item-rest.ensures.kept) in
          rw (w.parts-is, w.out-is, w.rest-is) (record { asks = asks; counts = next.0 ∙ so_far.counts; kept = next.1 ∙ so_far.kept })
      | else-present w ↦
          let next = absent_next (flags a.items) a.k a.i a.left c.loop-j.j more so_far.asks c.loop-j.rest.now c.loop-j.parts c.loop-j.out c.present.ensures own base w.if-present.false refl (w.item.ensures.behind, w.item.ensures.kept) in
          rw (w.parts-is, w.out-is, w.rest-is) (record { asks = asks; counts = next.0 ∙ so_far.counts; kept = next.1 ∙ so_far.kept })
    ]

pub returns : goal.returns
returns c =
    let a = c.args in
    let j = c.loop-j.j in
    let all = row_none (flags a.items) (a.k + j) (a.i + j) (a.left - j) c.loop-j.rest.now c.loop-j.parts c.loop-j.out (omega arith) in
    record { counts = all.0 ∙ c.loop-j.invariant.counts; kept = all.1 ∙ c.loop-j.invariant.kept }
