-- Where the items of a field stand: what views and desk ask of the reader. An absent item begins with the next one; behind the last item the field ends.
use Rattle.std.specs.Prelude.{List, [], ◌∷◌, ◌++◌, ℕ, ◌+◌, ◌-◌, length, replicate}
use Rattle.codec.specs.Field.{Contents, texts_of}
use Rattle.codec.specs.Frame.{Outcome, accepted, refused}
use Rattle.codec.specs.Meaning.{len_of}
use Rattle.papers.specs.Papers.{paper_of, items_of}
use Rattle.layout.specs.Answer.{Accepted, Refused, Surveyed}
use Rattle.scope.specs.Reading.{field_of}

-- texts behind each other from a place on: where each begins, and where the last ends
unfoldable pub starts_from : ℕ → List (List ℕ) → List ℕ
starts_from at [] = at ∷ []
starts_from at (t ∷ ts) = at ∷ starts_from (at + length t) ts

unfoldable pub surveyed : ℕ → List ℕ → Outcome Contents → Surveyed
unfolding starts_from
surveyed cat s (accepted r) = record { answer = Accepted (len_of s); items = r.0; starts = starts_from 2 (texts_of (paper_of cat) r) ++ replicate (8 - items_of cat) 0 }
surveyed cat s (refused n p) = record { answer = Refused n p; items = 0; starts = replicate 9 0 }

unfoldable pub survey_of : ℕ → List ℕ → Surveyed
unfolding surveyed
survey_of cat s = surveyed cat s (field_of cat s)
