-- What each operation answers, in words: `ok` and what was asked for, or `refused`, number and place. Each word but the first stands behind one space.
use Rattle.std.specs.Prelude.{List, [], ◌∷◌, ◌++◌, ℕ, ◌-◌, eqb, ℤ, length, take}
use Rattle.codec.specs.Pick.{pick}
use Rattle.codec.specs.Frame.{Outcome, accepted, refused}
use Rattle.papers.specs.Names.{text}
use Rattle.layout.specs.Answer.{Answer, Accepted, Refused, View, Shown, Hidden, Choice, Reading, which_number}
use Rattle.layout.specs.declared.Record.{Record}
use Rattle.scope.specs.Sheet.{decimal, signed_decimal}
use Rattle.text.specs.Hex.{hex_text}
use Rattle.papers.specs.Papers.{SLOTS}

-- a number behind a space; 32 is the space
unfoldable pub next : ℕ → List ℕ
next n = 32 ∷ decimal n

unfoldable pub next_signed : ℤ → List ℕ
next_signed z = 32 ∷ signed_decimal z

unfoldable pub next_octets : List ℕ → List ℕ
next_octets s = 32 ∷ hex_text s

-- `bad-request N`
unfoldable pub bad_request : ℕ → List ℕ
unfolding next
bad_request n = text "bad-request" ++ next n

-- `refused NO PLACE`
unfoldable pub refusal_text : ℕ → ℕ → List ℕ
unfolding next
refusal_text n p = text "refused" ++ (next n ++ next p)

-- `ok OCTETS`
unfoldable pub output_text : Outcome (List ℕ) → List ℕ
unfolding refusal_text next_octets
output_text (accepted b) = text "ok" ++ next_octets b
output_text (refused n p) = refusal_text n p

-- of the answer and the output that it left
unfoldable pub left_text : Answer → List ℕ → List ℕ
unfolding refusal_text next_octets
left_text (Accepted n) out = text "ok" ++ next_octets (take n out)
left_text (Refused n p) out = refusal_text n p

-- `ok CAT OCTETS`
unfoldable pub given_text : Outcome (ℕ × List ℕ) → List ℕ
unfolding refusal_text next next_octets
given_text (accepted x) = text "ok" ++ (next x.0 ++ next_octets x.1)
given_text (refused n p) = refusal_text n p

-- of the category, the answer and the output that it left
unfoldable pub rebuilt_text : ℕ → Answer → List ℕ → List ℕ
unfolding refusal_text next next_octets
rebuilt_text cat (Accepted n) out = text "ok" ++ (next cat ++ next_octets (take n out))
rebuilt_text cat (Refused n p) out = refusal_text n p

-- `ok START LENGTH OCTETS`
unfoldable pub shown_text : ℕ → ℕ → List ℕ → List ℕ
unfolding next next_octets
shown_text a n s = next a ++ (next n ++ next_octets s)

-- of the view and the part that it shows
unfoldable pub view_text : View → List ℕ → List ℕ
unfolding refusal_text shown_text
view_text (Shown a n) s = text "ok" ++ shown_text a n s
view_text (Hidden n p) s = refusal_text n p

-- `ok WHICH START LENGTH OCTETS`, or `refused NO PLACE WHICH`
unfoldable pub choice_in : ℕ → View → List ℕ → List ℕ
unfolding refusal_text shown_text
choice_in which (Shown a n) s = text "ok" ++ (next which ++ shown_text a n s)
choice_in which (Hidden n p) s = refusal_text n p ++ next which

unfoldable pub choice_text : Choice → List ℕ → List ℕ
unfolding choice_in
choice_text c s = choice_in (which_number c.which) c.view s

-- words in a row
unfoldable pub words_text : {A : Type 0} → (A → List ℕ) → List A → List ℕ
words_text word [] = []
words_text word (x ∷ xs) = word x ++ words_text word xs

-- the record: `CAT ITEMS`, 8 parts, the numbers
unfoldable pub record_text : Record → List ℕ
unfolding words_text
record_text f = next f.cat ++ (next f.items ++ (words_text next (take 8 f.parts) ++ words_text next_signed (take SLOTS f.numbers)))

-- `ok LEN` and the record
unfoldable pub read_in : Answer → Record → List ℕ
unfolding refusal_text record_text
read_in (Accepted n) f = text "ok" ++ (next n ++ record_text f)
read_in (Refused n p) f = refusal_text n p

unfoldable pub reading_text : Reading → List ℕ
unfolding read_in
reading_text r = read_in r.answer r.kept

-- `ok` and the lines of a sheet, a space in place of each line feed but the last; 10 is the line feed
unfoldable pub in_line : ℕ → ℕ
in_line o = pick (eqb o 10) 32 o

unfoldable pub line_octet : ℕ → List ℕ
unfolding in_line
line_octet o = in_line o ∷ []

unfoldable pub sheet_text : List ℕ → List ℕ
unfolding words_text line_octet
sheet_text sheet = text "ok" ++ (32 ∷ words_text line_octet (take (length sheet - 1) sheet))
