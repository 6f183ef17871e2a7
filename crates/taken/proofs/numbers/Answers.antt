-- The pieces that are left go where they went from the start.
use Rattle.std.proofs.Common.{◌-◌, set, ap, ◌∙◌, arith, rules}
use Rattle.taken.specs.Laws.Numbers.{numbers_none, spare_next, num_room, num_next}
use Rattle.taken.proofs.numbers.Goals as goal
use Rattle.taken.proofs.numbers.Goals.{then-kind-ne0, else-kind-ne0}

pub piece-requires : goal.piece-requires
piece-requires c = (num_room c.args.left c.loop.code c.loop.counter c.loop-test.true c.if-kind-ne0.true c.loop.slot c.loop.invariant.asks).0

pub bounds-out-slot : goal.bounds-out-slot
bounds-out-slot c = (num_room c.args.left c.loop.code c.loop.counter c.loop-test.true c.if-kind-ne0.true c.loop.slot c.loop.invariant.asks).1

pub loop-preserved : goal.loop-preserved
loop-preserved c =
    let a = c.args in
    let so_far = c.loop.invariant in
    let more = c.loop-test.true in
    elim c.if-kind-ne0.branch [
      | then-kind-ne0 w ↦
          let room = num_room a.left c.loop.code c.loop.counter more w.if-kind-ne0.true c.loop.slot so_far.asks in
          let next = num_next a.left c.loop.code c.loop.counter more w.if-kind-ne0.true a.step c.loop.rest.now c.loop.out c.loop.slot w.piece.ensures (ap (set c.loop.out c.loop.slot) (search rules)) w.skip-rest.ensures in
          rw (w.out-is, w.rest-is, w.slot-is) (record { asks = room.2; behind = next.0 ∙ so_far.behind; kept = next.1 ∙ so_far.kept })
      | else-kind-ne0 w ↦
          let next = spare_next a.left c.loop.code c.loop.counter more w.if-kind-ne0.false a.step c.loop.rest.now c.loop.out c.loop.slot so_far.asks in
          rw (w.out-is, w.rest-is, w.slot-is) (record { asks = next.0; behind = next.1 ∙ so_far.behind; kept = next.2 ∙ so_far.kept })
    ]

pub returns : goal.returns
returns c =
    let a = c.args in
    let all = numbers_none a.step (a.left - c.loop.counter) c.loop.code c.loop.rest.now c.loop.out c.loop.slot (omega arith) in
    record { behind = all.0 ∙ c.loop.invariant.behind; kept = all.1 ∙ c.loop.invariant.kept }
