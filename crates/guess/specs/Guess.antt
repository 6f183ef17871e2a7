-- Reading the sheet back (02, Ask 6) as a definition. The guess is what a text would hold if it were a sheet, taken in one walk over the layout and the text's lines that refuses
-- nothing. Where a line says nothing that could stand there, something that can be printed is taken; the comparison of the guess's own sheet with the text then finds that line.
-- None of it has to be believed: the answer is the right one, and the only one (Laws/Rebuilt: `right_answer`, `one_answer`).
use Rattle.std.specs.Prelude.{Bool, true, false, ◌&&◌, List, [], ◌∷◌, ◌++◌, ℕ, suc, ◌-◌, ltb, leb, eqb, ℤ, pos, length, take, drop, replicate}
use Rattle.codec.specs.Pick.{pick}
use Rattle.codec.specs.Radix.{join, ones}
use Rattle.codec.specs.Line.{Kind, Piece, spare, num, Line, Held, in_num, limit, count}
use Rattle.codec.specs.Item.{Item, chained, single, slots_of, slots}
use Rattle.codec.specs.Field.{first_flag, next_flags, flags, Contents, body}
use Rattle.codec.specs.Frame.{Outcome, accepted, refused, write_frame}
use Rattle.papers.specs.Names.{text, Key, hidden, shown, angle, pressure, Named, names_of}
use Rattle.papers.specs.Papers.{paper_of}
use Rattle.scope.specs.Sheet.{key_line, decimal, parts_there, items_text, row_text}
use Rattle.words.specs.Numbers.{signed_in, number_in}
use Rattle.guess.specs.Lines.{behind_octet, until_feed, behind_feed, behind_feeds}

-- ---- a line's value: behind its first `=`

unfoldable pub value_in : List ℕ → List ℕ
value_in t = behind_octet 61 (until_feed t)

-- ---- a number of a piece: what the line says, whatever key it has; 0 if it is no plain decimal or not a number of the piece

unfoldable pub fits_piece : Kind → ℕ → ℤ → Bool
fits_piece k w z = in_num k w z && limit k z

unfoldable pub piece_in : Kind → ℕ → List ℕ → ℤ
unfolding fits_piece value_in
piece_in k w t = pick (fits_piece k w (signed_in (value_in t))) (signed_in (value_in t)) (pos 0)

-- a plain decimal from lo to hi, else lo: the parts of a chain, and the length
unfoldable pub bounded_in : ℕ → ℕ → List ℕ → ℕ
unfolding value_in
bounded_in lo hi t = pick (leb lo (number_in hi (value_in t)) && leb (number_in hi (value_in t)) hi) (number_in hi (value_in t)) lo

-- how many lines a number has, those derived from it with it
unfoldable pub lines_for : Key → ℕ
lines_for hidden = 0
lines_for (shown k) = 1
lines_for (angle k) = 3
lines_for (pressure k) = 3

-- ---- the numbers of a chain part or a subfield

unfoldable pub behind_keys : List Key → List ℕ → List ℕ
unfolding lines_for behind_feeds
behind_keys [] t = t
behind_keys (key ∷ ks) t = behind_keys ks (behind_feeds (lines_for key) t)

unfoldable pub numbers_in : List Key → List Piece → List ℕ → List ℤ
unfolding piece_in lines_for behind_feeds
numbers_in ks [] t = []
numbers_in ks (spare w ∷ ps) t = numbers_in ks ps t
numbers_in [] (num k w ∷ ps) t = pos 0 ∷ numbers_in [] ps t
numbers_in (key ∷ ks) (num k w ∷ ps) t = piece_in k w t ∷ numbers_in ks ps (behind_feeds (lines_for key) t)

-- ---- parts or subfields, where it is known which are there; zeros for the others

unfoldable pub taken_lines : List Bool → List (List Key) → List Line → List ℕ → List ℤ
unfolding numbers_in behind_keys
taken_lines ts ks [] t = []
taken_lines [] ks (l ∷ ls) t = []
taken_lines (b ∷ ts) [] (l ∷ ls) t = []
taken_lines (true ∷ ts) (k ∷ ks) (l ∷ ls) t = numbers_in k l.pieces t ++ taken_lines ts ks ls (behind_keys k t)
taken_lines (false ∷ ts) (k ∷ ks) (l ∷ ls) t = replicate (count l.pieces) (pos 0) ++ taken_lines ts ks ls t

unfoldable pub left_lines : List Bool → List (List Key) → List ℕ → List ℕ
unfolding behind_keys
left_lines [] ks t = t
left_lines (b ∷ ts) [] t = t
left_lines (true ∷ ts) (k ∷ ks) t = left_lines ts ks (behind_keys k t)
left_lines (false ∷ ts) (k ∷ ks) t = left_lines ts ks t

-- ---- which subfields are there: one whose flag's part is there, if the line begins with its first key

unfoldable pub begins : List ℕ → List ℕ → Bool
begins [] t = true
begins (o ∷ w) [] = false
begins (o ∷ w) (x ∷ t) = eqb x o && begins w t

unfoldable pub key_text : Key → List ℕ
key_text hidden = []
key_text (shown k) = k
key_text (angle k) = k
key_text (pressure k) = k

-- how the first line of a group begins
unfoldable pub head_of : List Key → List ℕ
unfolding key_text
head_of [] = []
head_of (key ∷ ks) = key_text key ++ (61 ∷ [])

-- n flags stand in the parts that are there, and they are those of the first n subfields
unfoldable pub open_in : ℕ → List (List Key) → List ℕ → List Bool
unfolding begins head_of behind_keys
open_in n [] t = []
open_in n (k ∷ ks) t = (ltb 0 n && begins (head_of k) t) ∷ open_in (n - 1) ks (pick (ltb 0 n && begins (head_of k) t) (behind_keys k t) t)

unfoldable pub bit : Bool → ℤ
bit true = pos 1
bit false = pos 0

unfoldable pub bits : List Bool → List ℤ
unfolding bit
bits [] = []
bits (b ∷ bs) = bit b ∷ bits bs

-- ---- an item

-- the parts: from the line `ITEM.chain` where there is one
unfoldable pub count_in : Item → List ℕ → ℕ
unfolding bounded_in
count_in (chained p [] ss) t = 1
count_in (chained p (q ∷ qs) ss) t = bounded_in 1 (length (p ∷ q ∷ qs)) t
count_in (single l) t = 0

unfoldable pub behind_count : Item → List ℕ → List ℕ
behind_count (chained p [] ss) t = t
behind_count (chained p (q ∷ qs) ss) t = behind_feed t
behind_count (single l) t = t

-- behind that line, n parts being there: which lines are taken from the text, and with which keys. The flags of subfields are on no line
unfoldable pub there_in : Item → Named → ℕ → List ℕ → List Bool
unfolding open_in
there_in (chained p qs []) nm n t = parts_there n (p ∷ qs)
there_in (chained p qs (s ∷ ss)) nm n t = open_in (slots_of (take n (p ∷ qs))) (drop (length (p ∷ qs)) nm.keys) t
there_in (single l) nm n t = true ∷ []

unfoldable pub keys_in : Item → Named → List (List Key)
keys_in (chained p qs []) nm = nm.keys
keys_in (chained p qs (s ∷ ss)) nm = drop (length (p ∷ qs)) nm.keys
keys_in (single l) nm = nm.keys

unfoldable pub item_numbers : Item → Named → List Bool → List ℕ → List ℤ
unfolding taken_lines keys_in bits
item_numbers (chained p qs []) nm bs t = taken_lines bs (keys_in (chained p qs []) nm) (p ∷ qs) t
item_numbers (chained p qs (s ∷ ss)) nm bs t = bits bs ++ taken_lines bs (keys_in (chained p qs (s ∷ ss)) nm) (s ∷ ss) t
item_numbers (single l) nm bs t = taken_lines bs (keys_in (single l) nm) (l ∷ []) t

unfoldable pub item_in : Item → Named → List ℕ → Held
unfolding count_in behind_count there_in item_numbers
item_in it nm t = (count_in it t, item_numbers it nm (there_in it nm (count_in it t) (behind_count it t)) (behind_count it t))

unfoldable pub item_left : Item → Named → List ℕ → List ℕ
unfolding count_in behind_count there_in left_lines keys_in
item_left it nm t = left_lines (there_in it nm (count_in it t) (behind_count it t)) (keys_in it nm) (behind_count it t)

-- ---- the items in a row, the flags being known

unfoldable pub row_in : List ℕ → List Item → List Named → List ℕ → List Held
unfolding item_in item_left
row_in ds [] nms t = []
row_in ds (it ∷ its) [] t = []
row_in ds (it ∷ its) (nm ∷ nms) t =
    pick (eqb (first_flag ds) 1) (item_in it nm t) (0, replicate (slots it) (pos 0))
    ∷ row_in (next_flags ds) its nms (pick (eqb (first_flag ds) 1) (item_left it nm t) t)

-- ---- which items: the names of the line `items` in order, as far as it goes

unfoldable pub names_in : List ℕ → List Named → List ℕ → List ℕ
unfolding begins
names_in comma [] w = []
names_in comma (nm ∷ nms) w = pick (begins (comma ++ nm.name) w) (1 ∷ names_in (text ",") nms (drop (length (comma ++ nm.name)) w)) (0 ∷ names_in comma nms w)

unfoldable pub indicator_of : List Named → List ℕ → ℕ
unfolding names_in
indicator_of nms w = join ones (names_in [] nms w ++ replicate (8 - length nms) 0)

unfoldable pub indicator_in : List Named → List ℕ → ℕ
unfolding indicator_of value_in
indicator_in nms t = indicator_of nms (value_in t)

-- ---- the whole guess: line 1, line 2, and the contents from line 3 on

unfoldable pub category_of : List ℕ → ℕ
unfolding begins
category_of w = pick (begins (text "cat=21") w) 21 (pick (begins (text "cat=7") w) 7 48)

unfoldable pub category_in : List ℕ → ℕ
unfolding category_of
category_in t = category_of (until_feed t)

unfoldable pub length_in : List ℕ → ℕ
unfolding bounded_in
length_in t = bounded_in 2 255 (behind_feed t)

-- from line 3 on
unfoldable pub contents_in : ℕ → List ℕ → Contents
unfolding indicator_in row_in
contents_in cat t = (indicator_in (names_of cat) t, row_in (flags (indicator_in (names_of cat) t)) (paper_of cat) (names_of cat) (behind_feed t))

unfoldable pub guess_of : List ℕ → Contents
unfolding contents_in category_in
guess_of t = contents_in (category_in t) (behind_feeds 2 t)

-- ---- the sheet of contents, with a value of `len` set beside them

-- from line 3 on
unfoldable pub behind_len : ℕ → Contents → List ℕ
behind_len cat r =
    key_line (text "items") (items_text [] (flags r.0) (names_of cat))
    ++ (row_text (flags r.0) (paper_of cat) (names_of cat) r.1 ++ key_line (text "end") (text "ok"))

unfoldable pub sheet_with : ℕ → ℕ → Contents → List ℕ
unfolding behind_len
sheet_with cat len r = key_line (text "cat") (decimal cat) ++ (key_line (text "len") (decimal len) ++ behind_len cat r)

-- the line of the first octet in which two texts differ, one of them being at its end or not; 0 if they are the same. k is the number of the line that stands here
unfoldable pub first_wrong : ℕ → List ℕ → List ℕ → ℕ
first_wrong k [] [] = 0
first_wrong k [] (y ∷ t) = k
first_wrong k (x ∷ s) [] = k
first_wrong k (x ∷ s) (y ∷ t) = pick (eqb x y) (first_wrong (pick (eqb x 10) (suc k) k) s t) k

-- ---- the answer: 18 at line 0 beyond 32,768 octets; 18 at the first wrong line; 18 at line 2 if only the length is wrong; 11; the category and the octets

unfoldable pub given_of : ℕ → ℕ → ℕ → List ℕ → ℕ → Outcome (ℕ × List ℕ)
given_of wrong cat len b room =
    pick (eqb wrong 0) (pick (eqb len (length b)) (pick (leb (length b) room) (accepted (cat, b)) (refused 11 0)) (refused 18 2)) (refused 18 wrong)

unfoldable pub rebuild_of : List ℕ → ℕ → Outcome (ℕ × List ℕ)
unfolding given_of
rebuild_of t room =
    pick (ltb 32_768 (length t)) (refused 18 0)
    (given_of (first_wrong 1 (sheet_with (category_in t) (length_in t) (guess_of t)) t) (category_in t) (length_in t) (write_frame (body (paper_of (category_in t))) (guess_of t)) room)
