-- Reading a field (01, 'Numbers of refusal', "Reader: 1; 2 for an empty slice; 3; 2 for a short one; 4; then the items in order; then 9").
use Rattle.std.specs.Prelude.{◌≡◌, List, ℕ, eqb, ℤ, pos, length, replicate}
use Rattle.codec.specs.Pick.{pick}
use Rattle.codec.specs.Field.{Contents, body}
use Rattle.codec.specs.Frame.{Outcome, accepted, refused, read_frame}
use Rattle.codec.specs.Meaning.{len_of}
use Rattle.papers.specs.Papers.{known, paper_of, SLOTS}
use Rattle.layout.specs.declared.Record.{Record}
use Rattle.layout.specs.Answer.{Reading, Answer, Accepted, Refused}
use Rattle.layout.specs.Record.{flatten}

-- what a field of a category holds, or the reader's refusal: every operation on a field begins with this
unfoldable pub field_of : ℕ → List ℕ → Outcome Contents
field_of cat s = pick (known cat) (read_frame (body (paper_of cat)) s) (refused 1 0)

-- "A refused read gives a record of zeros"
unfoldable pub no_record : Record
no_record = record { cat = 0; items = 0; parts = replicate 8 0; numbers = replicate SLOTS (pos 0) }

unfoldable pub shown : ℕ → List ℕ → Outcome Contents → Reading
unfolding no_record
shown cat s (accepted r) = record { answer = Accepted (len_of s); kept = flatten cat (paper_of cat) r }
shown cat s (refused n p) = record { answer = Refused n p; kept = no_record }

unfoldable pub read_of : ℕ → List ℕ → Reading
unfolding shown
read_of cat s = shown cat s (field_of cat s)

-- ---- reading into lent slots: the field's own refusal, then 11 where the numbers have not SLOTS places (01, 'Numbers of refusal': "output slice shorter
-- than the result", here also one that is longer; "On every refusal by any operation the output is as before")

unfoldable pub into_answer : ℕ → Answer → Answer
into_answer room (Refused n p) = Refused n p
into_answer room (Accepted n) = pick (eqb room SLOTS) (Accepted n) (Refused 11 0)

unfoldable pub kept_by : {A : Type 0} → Answer → A → A → A
kept_by (Accepted n) new old = new
kept_by (Refused n p) new old = old

pub record ReadsInto (x : Reading) (ps : List ℕ) (l : List ℤ) (a : Answer) (qs : List ℕ) (m : List ℤ) : Type 0 where
  pub answer : a ≡ into_answer (length l) x.answer
  pub parts : qs ≡ kept_by (into_answer (length l) x.answer) x.kept.parts ps
  pub numbers : m ≡ kept_by (into_answer (length l) x.answer) x.kept.numbers l
