-- The answer to a text, a category octet and a field in the front of an output, if the text is their sheet, and the lines of a refusal. There is room for
-- every field, so that the number of a refusal is never 11.
use Rattle.std.specs.Prelude.{◌≡◌, List, [], ◌∷◌, ◌++◌, ℕ, suc, ◌≤◌, ◌<◌, length, take}
use Rattle.codec.specs.Frame.{accepted}
use Rattle.papers.specs.Papers.{LONGEST}
use Rattle.papers.specs.Names.{text}
use Rattle.layout.specs.Answer.{Answer, Accepted, Refused, length_of}
use Rattle.scope.specs.Outputs.{answer_of}
use Rattle.scope.specs.Rebuilding.{octets_given}
use Rattle.scope.specs.Sheet.{key_line, decimal}
use Rattle.guess.specs.Guess.{rebuild_of}

abbrev pub ROOM : ℕ
ROOM = suc LONGEST

pub record Unlists (t : List ℕ) (a : Answer) (out : List ℕ) : Type 0 where
  pub answer : a ≡ answer_of (octets_given (rebuild_of t LONGEST))
  pub roomy : (k : ℕ) → a ≡ Refused 11 k → ⊥
  pub octets : (cat : ℕ) (b : List ℕ) → rebuild_of t LONGEST ≡ accepted (cat, b) → take (suc (length b)) out ≡ cat ∷ b
  pub few : length_of a ≤ LONGEST
  pub within : length_of a < length out

unfoldable pub refusal_lines : Answer → List ℕ
refusal_lines (Accepted n) = []
refusal_lines (Refused n k) = key_line (text "refused") (decimal n) ++ key_line (text "line") (decimal k)
