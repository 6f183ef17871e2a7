-- What stands in a text that was blank, and what is still to be typed of a whole.
use Rattle.std.specs.Prelude.{◌≡◌, List, ℕ, ◌≤◌, length, take}
use Rattle.std.proofs.Common.{◌∙◌, subst}
use Rattle.std.proofs.lemmas.List.{length-replicate}
use Rattle.text.specs.Typing.{Types}
use Rattle.text.specs.Typed.{blank, Typed}
use Rattle.text.specs.Laws.Typing.{typed_front}
use Rattle.text.specs.declared.Text.{Text}

pub stands : (xs : List ℕ) → length xs ≤ 4_096 → {t t' : Text} → t ≡ blank → Typed xs t t' → {s : List ℕ} → s ≡ take t'.end t'.octets → s ≡ xs
unfolding blank
stands xs h {t} {t'} e a es =
    es ∙ (typed_front xs h (length-replicate {A = ℕ} 4_096 0) (subst (λ (x : Text). Types xs x.octets x.end t'.octets t'.end) e a)).1

-- of the whole, which begins behind t, the rest is left to be typed behind u
abbrev pub Still : List ℕ → Text → List ℕ → Text → Type 0
Still whole t rest u = (v : Text) → Typed rest u v → Typed whole t v
