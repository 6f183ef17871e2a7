-- The one word that every exported function answers: the refusal's number, which field is meant, the place and the length.
use Rattle.std.specs.Prelude.{◌≡◌, List, ℕ, ◌+◌, ◌*◌, ◌^◌, ◌<◌}
use Rattle.codec.specs.Frame.{Outcome}
use Rattle.layout.specs.Answer.{Answer, View, Choice, number_of, place_of, length_of, view_number, view_place, view_length, which_number}
use Rattle.scope.specs.Outputs.{answer_of, after}
use Rattle.scope.specs.Rebuilding.{category_given, octets_given}

-- four numbers of 16 bits each, the refusal's number highest
unfoldable pub word_of : ℕ → ℕ → ℕ → ℕ → ℕ
word_of number which place size = number * 2 ^ 48 + which * 2 ^ 32 + place * 2 ^ 16 + size

-- a place and a length that have room in it
abbrev pub Fit : ℕ → ℕ → Type 0
Fit place size = (place < 65_536) × (size < 65_536)

-- of an answer and a number beside it
unfoldable pub beside_word : ℕ → Answer → ℕ
unfolding word_of
beside_word which a = word_of (number_of a) which (place_of a) (length_of a)

-- of what was read or written
unfoldable pub answer_word : Answer → ℕ
unfolding beside_word
answer_word a = beside_word 0 a

-- of a view in one of two fields: the start of what is shown stands in the place
unfoldable pub side_word : ℕ → View → ℕ
unfolding word_of
side_word which v = word_of (view_number v) which (view_place v) (view_length v)

-- of a view in the one field that there is
unfoldable pub view_word : View → ℕ
unfolding side_word
view_word v = side_word 0 v

unfoldable pub choice_word : Choice → ℕ
unfolding side_word
choice_word c = side_word (which_number c.which) c.view

-- of what was rebuilt: the category stands where a choice has its field
unfoldable pub rebuilt_word : Outcome (ℕ × List ℕ) → ℕ
unfolding beside_word
rebuilt_word o = beside_word (category_given o) (answer_of (octets_given o))

-- what a function with an output promises of its word, and of the output before and after
pub record Hands (o : Outcome (List ℕ)) (out : List ℕ) (w : ℕ) (out' : List ℕ) : Type 0 where
  pub word : w ≡ answer_word (answer_of o)
  pub output : out' ≡ after o out

-- and one that rebuilds a field
pub record HandsRebuilt (o : Outcome (ℕ × List ℕ)) (out : List ℕ) (w : ℕ) (out' : List ℕ) : Type 0 where
  pub word : w ≡ rebuilt_word o
  pub output : out' ≡ after (octets_given o) out
