-- The places that are left go where they went from the start.
use Rattle.std.proofs.Common.{refl, sym, ◌∙◌, arith, length-set}
use Rattle.protocol.specs.Laws.Line.{placed_more, placed_end, placed_all}
use Rattle.protocol.proofs.places.Goals as goal

pub loop-start-init : goal.loop-start-init
loop-start-init c = record { ten = refl; placed = placed_all _ _ refl }

pub loop-start-preserved : goal.loop-start-preserved
loop-start-preserved c = record {
  ten = simp length-set c.loop-start.invariant.ten;
  placed = sym (placed_more _ c.loop-start.start-items c.loop-start.start-index c.loop-start.at (omega arith) c.next_place-at.ensures) ∙ c.loop-start.invariant.placed;
}

pub returns : goal.returns
returns c = sym (placed_end _ c.loop-start.start-items c.loop-start.start-index c.loop-start.at (omega arith)) ∙ c.loop-start.invariant.placed
