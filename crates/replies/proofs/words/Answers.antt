-- `replies::words` meets its contract. The loop has typed the words passed. Assumes nothing.
use mathlib.Core.Path.{ap}
use mathlib.Core.List.{List, ◌∷◌}
use Prim.Native.Nat.{ℕ}
use Rattle.text.specs.Laws.Typing.{types_as}
use Rattle.replies.specs.Laws.Typed.{words_none, words_more}
use Rattle.replies.proofs.words.Goals as goal

pub loop-value-init : goal.loop-value-init
loop-value-init g c = words_none (λ value. 32 ∷ g.W.Word.text_of value) c.args.values.now _ _

pub loop-value-preserved : goal.loop-value-preserved
loop-value-preserved g c =
    let word : g.row.W.Denot → List ℕ = λ value. 32 ∷ g.W.Word.text_of value in
    words_more word c.value-item.result c.args.values.now c.loop-value.value-index c.loop-value-test.true c.loop-value.invariant (types_as (ap word c.value-item.is) c.next.ensures)
