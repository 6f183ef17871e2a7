use mathlib.Core.List.{◌∷◌}
use lib.ListN.{take}
use Rattle.text.specs.Typed.{Typed}
use Rattle.replies.specs.Texts.{words_text}
use Rattle.replies.proofs.words.Given as goal

abbrev pub invariant-loop-value : goal.invariant-loop-value
invariant-loop-value g l = Typed (words_text (λ value. 32 ∷ g.W.Word.text_of value) (take l.value-index l.values)) l.initial.reply l.reply
