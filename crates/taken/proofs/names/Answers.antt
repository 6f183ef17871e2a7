-- The names that are left set the flags that they set from the start.
use Rattle.std.proofs.Common.{◌+◌, ◌-◌, ◌∙◌, arith}
use Rattle.taken.specs.Laws.Names.{names_none, there_next, absent_next}
use Rattle.taken.proofs.names.Goals as goal
use Rattle.taken.proofs.names.Goals.{in-Some, in_default}

pub loop-j-preserved : goal.loop-j-preserved
loop-j-preserved c =
    let a = c.args in
    let so_far = c.loop-j.invariant in
    let more = c.loop-j-test.true in
    elim c.match-behind_name.branch [
      | in-Some w ↦
          let next = there_next c.loop-j.items a.i c.loop-j.comma a.k a.left c.loop-j.j more c.requires.1 c.loop-j.rest.now so_far.low w.in-Some.ensures.0 w.in-Some.ensures.1 w.with_item-items.ensures in
          rw (w.rest-is, w.comma-is, w.items-is) (record { low = w.with_item-items.type_inv; answer = next ∙ so_far.answer })
      | in_default w ↦
          let next = absent_next c.loop-j.items a.i c.loop-j.comma a.k a.left c.loop-j.j more c.requires.1 c.loop-j.rest.now so_far.low w.in_default.ensures w.without_item-items.ensures in
          rw (w.rest-is, w.comma-is, w.items-is) (record { low = w.without_item-items.type_inv; answer = next ∙ so_far.answer })
    ]

pub returns : goal.returns
returns c =
    let a = c.args in
    let j = c.loop-j.j in
    names_none c.loop-j.items (a.i + j) c.loop-j.comma (a.k + j) (a.left - j) c.loop-j.rest.now c.loop-j.invariant.low (omega arith) ∙ c.loop-j.invariant.answer
