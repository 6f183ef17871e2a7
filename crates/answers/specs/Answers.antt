-- The answer to a line (docs/PROTOCOL.md), and to nothing but the line: the parser judges its form, and a request is answered by its words.
use Rattle.std.specs.Prelude.{List, [], ◌∷◌, ◌++◌, ℕ, eqb, drop}
use Rattle.codec.specs.Pick.{pick}
use Rattle.codec.specs.Change.{remove, put}
use Rattle.layout.specs.Answer.{Answer, Accepted, Refused, View, Choice}
use Rattle.scope.specs.Reading.{read_of}
use Rattle.scope.specs.Writing.{write_of}
use Rattle.scope.specs.Sheet.{sheet_of}
use Rattle.scope.specs.Views.{view_of, part_of, choose_of, chosen_of}
use Rattle.scope.specs.Desk.{edit_of}
use Rattle.scope.specs.Visitors.{copy_of}
use Rattle.words.specs.Numbers.{value_in}
use Rattle.guess.specs.Guess.{rebuild_of}
use Rattle.hex_words.specs.Octets.{octets_in, list_in}
use Rattle.protocol.specs.Line.{words_of, nth}
use Rattle.protocol.specs.Forms.{Judged, Asks, Wrong, parse_of}
use Rattle.protocol.specs.Record.{record_in}
use Rattle.replies.specs.Texts.{bad_request, refusal_text, output_text, given_text, view_text, choice_text, reading_text, sheet_text}

-- ---- what the words of a request are, by their kinds

abbrev CAT : List ℕ → ℕ
CAT w = value_in 255 w

abbrev ITEM : List ℕ → ℕ
ITEM w = value_in 255 w

abbrev ROOM : List ℕ → ℕ
ROOM w = value_in 300 w

-- ---- each request by its words; word 0 is its name

-- `read CAT FIELD`
unfoldable pub read_answer : (ℕ → List ℕ) → List ℕ
read_answer word = reading_text (read_of (CAT (word 1)) (octets_in (word 2)))

-- `write ROOM` and a record, which is all words from its CAT on
unfoldable pub write_answer : (ℕ → List ℕ) → (ℕ → List (List ℕ)) → List ℕ
write_answer word from = output_text (write_of (record_in (from 2)) (ROOM (word 1)))

-- `sheet CAT FIELD`: the sheet of an accepted field
unfoldable pub listed : Answer → List ℕ → List ℕ
listed (Accepted n) lines = sheet_text lines
listed (Refused n p) lines = refusal_text n p

unfoldable pub sheet_answer : (ℕ → List ℕ) → List ℕ
unfolding listed
sheet_answer word = listed (read_of (CAT (word 1)) (octets_in (word 2))).answer (sheet_of (CAT (word 1) ∷ octets_in (word 2)))

-- `view CAT FIELD ITEM`: the view with the part itself
abbrev pub viewed : List ℕ → View → List ℕ
viewed field v = view_text v (part_of field v)

unfoldable pub view_answer : (ℕ → List ℕ) → List ℕ
view_answer word = viewed (octets_in (word 2)) (view_of (CAT (word 1)) (octets_in (word 2)) (ITEM (word 3)))

-- `choose CAT BASE CORRECTION ITEM`
abbrev pub chosen : List ℕ → List ℕ → Choice → List ℕ
chosen base correction c = choice_text c (chosen_of base correction c)

unfoldable pub choose_answer : (ℕ → List ℕ) → List ℕ
choose_answer word = chosen (octets_in (word 2)) (octets_in (word 3)) (choose_of (CAT (word 1)) (octets_in (word 2)) (octets_in (word 3)) (ITEM (word 4)))

-- `remove CAT FIELD LIST ITEM ROOM`
unfoldable pub remove_answer : (ℕ → List ℕ) → List ℕ
remove_answer word = output_text (edit_of (CAT (word 1)) (octets_in (word 2)) (list_in (word 3)) (ITEM (word 4)) remove (ROOM (word 5)))

-- `replace CAT FIELD LIST ITEM NEW ROOM`
unfoldable pub replace_answer : (ℕ → List ℕ) → List ℕ
replace_answer word = output_text (edit_of (CAT (word 1)) (octets_in (word 2)) (list_in (word 3)) (ITEM (word 4)) (put (octets_in (word 5))) (ROOM (word 6)))

-- `copy CAT FIELD WITHHELD ROOM`
unfoldable pub copy_answer : (ℕ → List ℕ) → List ℕ
copy_answer word = output_text (copy_of (CAT (word 1)) (octets_in (word 2)) (list_in (word 3)) (ROOM (word 4)))

-- `rebuild TEXT ROOM`
unfoldable pub rebuild_answer : (ℕ → List ℕ) → List ℕ
rebuild_answer word = given_text (rebuild_of (octets_in (word 1)) (ROOM (word 2)))

-- ---- a line

-- a request by its number in the table of forms, with its words one by one and all from one on
unfoldable pub asked : ℕ → (ℕ → List ℕ) → (ℕ → List (List ℕ)) → List ℕ
unfolding read_answer write_answer sheet_answer view_answer choose_answer remove_answer replace_answer copy_answer rebuild_answer
asked q word from =
    pick (eqb q 0) (read_answer word)
    (pick (eqb q 1) (write_answer word from)
    (pick (eqb q 2) (sheet_answer word)
    (pick (eqb q 3) (view_answer word)
    (pick (eqb q 4) (choose_answer word)
    (pick (eqb q 5) (remove_answer word)
    (pick (eqb q 6) (replace_answer word)
    (pick (eqb q 7) (copy_answer word)
    (pick (eqb q 8) (rebuild_answer word) (bad_request 1)))))))))

unfoldable pub said : Judged → (ℕ → List ℕ) → (ℕ → List (List ℕ)) → List ℕ
unfolding asked
said (Asks q) word from = asked q word from
said (Wrong n) word from = bad_request n

-- ended by a line feed
unfoldable pub answer_of : List ℕ → List ℕ
unfolding said
answer_of line = said (parse_of line).judged (nth (words_of line)) (λ k. drop k (words_of line)) ++ (10 ∷ [])
