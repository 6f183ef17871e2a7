-- The record as an array of 87 numbers of 32 bits with a sign: the category, the items, 8 parts, 77 numbers.
use Rattle.std.specs.Prelude.{◌≡◌, Bool, true, false, ◌&&◌, List, [], ◌∷◌, ◌++◌, map, ℕ, ◌+◌, ltb, eqb, ℤ, pos, negsuc, length, get_or, take, drop}
use Rattle.codec.specs.Pick.{pick}
use Rattle.codec.specs.Frame.{Outcome, refused}
use Rattle.papers.specs.Papers.{known}
use Rattle.layout.specs.declared.Record.{Record}
use Rattle.layout.specs.Answer.{Reading, Answer, Accepted, Refused}
use Rattle.scope.specs.Writing.{write_of}
use Rattle.interface.specs.Packed.{answer_word}
use Rattle.papers.specs.Papers.{SLOTS}

abbrev pub PLACES : ℕ
PLACES = 10 + SLOTS

unfoldable pub array_of : Record → List ℤ
array_of f = pos f.cat ∷ pos f.items ∷ (map pos f.parts ++ f.numbers)

-- ---- a record that is filled

-- the field's own refusal; then 11 for an array that has not 87 places
unfoldable pub fill_answer : ℕ → Answer → Answer
fill_answer room (Refused n p) = Refused n p
fill_answer room (Accepted n) = pick (eqb room PLACES) (Accepted n) (Refused 11 0)

-- the record, or on a refusal the array as it was
unfoldable pub filled_by : Answer → Record → List ℤ → List ℤ
unfolding array_of
filled_by (Refused n p) f out = out
filled_by (Accepted n) f out = array_of f

-- what filling an array by a reading promises of the answer, and of the array before and after
abbrev pub Filled : Reading → List ℤ → Answer → List ℤ → Type 0
Filled r out a out' = (a ≡ fill_answer (length out) r.answer) × (out' ≡ filled_by (fill_answer (length out) r.answer) r.kept out)

-- what reading into an array promises of its word, and of the array before and after
pub record Fills (r : Reading) (out : List ℤ) (w : ℕ) (out' : List ℤ) : Type 0 where
  pub word : w ≡ answer_word (fill_answer (length out) r.answer)
  pub array : out' ≡ filled_by (fill_answer (length out) r.answer) r.kept out

-- ---- a record that is written

unfoldable pub is_octet : ℤ → Bool
is_octet (pos n) = ltb n 256
is_octet (negsuc n) = false

unfoldable pub are_octets : List ℤ → Bool
unfolding is_octet
are_octets [] = true
are_octets (z ∷ zs) = is_octet z && are_octets zs

-- the octet that a number is; 0, which is no category, for one that is none
unfoldable pub octet_of : ℤ → ℕ
octet_of (pos n) = pick (ltb n 256) n 0
octet_of (negsuc n) = 0

unfoldable pub of_array : List ℤ → Record
unfolding octet_of
of_array a = record {
  cat = octet_of (get_or a 0 (pos 0));
  items = octet_of (get_or a 1 (pos 0));
  parts = map octet_of (take 8 (drop 2 a));
  numbers = drop 10 a;
}

-- 10 for an array of another length; 1; 10 where the items or some parts are no octet; then what the writer answers
unfoldable pub write_array : List ℤ → ℕ → Outcome (List ℕ)
unfolding of_array are_octets
write_array a room =
    pick (eqb (length a) PLACES)
    (pick (known (of_array a).cat) (pick (are_octets (take 9 (drop 1 a))) (write_of (of_array a) room) (refused 10 0)) (refused 1 0))
    (refused 10 0)
