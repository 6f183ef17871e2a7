-- What an operation with an output answers and leaves there (01, 'Numbers of refusal').
use Rattle.std.specs.Prelude.{◌≡◌, List, ◌++◌, ℕ, leb, length, drop}
use Rattle.codec.specs.Pick.{pick}
use Rattle.codec.specs.Frame.{Outcome, accepted, refused}
use Rattle.layout.specs.Answer.{Answer, Accepted, Refused}

-- 11 is given for an "output slice shorter than the result"
unfoldable pub with_room : ℕ → List ℕ → Outcome (List ℕ)
with_room room b = pick (leb (length b) room) (accepted b) (refused 11 0)

-- "On every refusal by any operation .. the length answered is 0" (Answer.length_of)
unfoldable pub answer_of : Outcome (List ℕ) → Answer
answer_of (accepted b) = Accepted (length b)
answer_of (refused n p) = Refused n p

-- "On success of any operation with an output, its front holds the field and the rest is as before. On every refusal .. the output is as before"
unfoldable pub after : Outcome (List ℕ) → List ℕ → List ℕ
after (accepted b) out = b ++ drop (length b) out
after (refused n p) out = out

-- so every operation with an output promises of its answer, and of the output before and after, that they are those of its outcome
pub record Leaves (o : Outcome (List ℕ)) (out : List ℕ) (a : Answer) (out' : List ℕ) : Type 0 where
  pub answer : a ≡ answer_of o
  pub output : out' ≡ after o out
