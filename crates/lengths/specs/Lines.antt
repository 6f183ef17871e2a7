-- The papers as the constant tables have them: the items that some paper has, each once, and their chain parts and subfields line by line.
use Rattle.std.specs.Prelude.{Bool, true, ◌&&◌, List, [], ◌∷◌, ◌++◌, map, ℕ, zero, suc, ◌+◌, ◌*◌, ◌/◌, ◌%◌, leb, eqb, pos, negsuc, length, get_or, take}
use Rattle.std.specs.Int.Signed.{le_z}
use Rattle.codec.specs.Pick.{pick}
use Rattle.codec.specs.Line.{Kind, plain, signed, limited, Piece, spare, num, Line, count}
use Rattle.codec.specs.Item.{Item, lines_of}
use Rattle.codec.specs.Printed.{Structure, Entry, compound, fixed}
use Rattle.codec.specs.Mask.{spares_of, spare_mask}
use Rattle.lengths.specs.declared.Length.{Length}
use Rattle.lengths.specs.declared.Pieces.{Pieces}
use Rattle.lengths.specs.declared.Format.{Format}
use Rattle.papers.specs.Cat048.{printed048, cat048}
use Rattle.papers.specs.Cat021.{printed021, cat021}
use Rattle.papers.specs.Cat007.{printed007, cat007}

-- ---- the items: 007's after its first are 048's (Laws.Papers, `items_shared`)

unfoldable pub items : List Item
unfolding cat048 cat021 cat007
items = cat048 ++ (cat021 ++ take 1 cat007)

abbrev pub no_line : Line
no_line = record { fx = 0; flag = 0; octets = 0; pieces = [] }

-- ---- their lines, each with its first slot in the item

unfoldable pub placed_from : ℕ → List Line → List (Line × ℕ)
placed_from slot [] = []
placed_from slot (l ∷ ls) = (l, slot) ∷ placed_from (slot + count l.pieces) ls

unfoldable pub placed_in : List Item → List (Line × ℕ)
unfolding placed_from
placed_in [] = []
placed_in (it ∷ its) = placed_from 0 (lines_of it) ++ placed_in its

unfoldable pub placed : List (Line × ℕ)
unfolding placed_in items
placed = placed_in items

unfoldable pub placed_at : ℕ → Line × ℕ
unfolding placed
placed_at b = get_or placed b (no_line, 0)

abbrev pub line_at : ℕ → Line
line_at b = (placed_at b).0

abbrev pub first_at : ℕ → ℕ
first_at b = (placed_at b).1

abbrev pub count_at : ℕ → ℕ
count_at b = count (line_at b).pieces

-- ---- a line as a row of numbers

-- the kind of a number: 1 plain, 2 signed, 3 a latitude's and 4 an altitude's limits. A piece is an octet, kind × 32 + bits, kind 0 for a spare;
-- the first piece is the lowest octet
unfoldable pub kind_code : Kind → ℕ
kind_code plain = 1
kind_code signed = 2
kind_code (limited lo hi) = pick (le_z (negsuc 39) lo) 4 3

unfoldable pub code_of : List Piece → ℕ
unfolding kind_code
code_of [] = 0
code_of (spare w ∷ ps) = w + 256 * code_of ps
code_of (num k w ∷ ps) = kind_code k * 32 + w + 256 * code_of ps

unfoldable pub kind_of : ℕ → Kind
kind_of zero = plain
kind_of (suc zero) = plain
kind_of (suc (suc zero)) = signed
kind_of (suc (suc (suc zero))) = limited (negsuc 4_194_303) (pos 4_194_304)
kind_of (suc (suc (suc (suc k)))) = limited (negsuc 39) (pos 8_191)

unfoldable pub piece_of : ℕ → Piece
piece_of o = pick (eqb (o / 32) 0) (spare (o % 32)) (num (kind_of (o / 32)) (o % 32))

unfoldable pub pieces_from : ℕ → ℕ → List Piece
pieces_from zero code = []
pieces_from (suc n) code = piece_of (code % 256) ∷ pieces_from n (code / 256)

-- no number is wider than 24 bits
unfoldable pub narrow : List Piece → Bool
narrow [] = true
narrow (spare w ∷ ps) = narrow ps
narrow (num k w ∷ ps) = leb w 24 && narrow ps

-- ---- the table of lengths, as the papers print it: of each chain part and subfield its octets and the bits that it calls spare, an item's chain parts first

unfoldable pub structures_in : List Entry → List Structure
structures_in [] = []
structures_in (compound name p qs ss ∷ es) = p ∷ (qs ++ (ss ++ structures_in es))
structures_in (fixed s ∷ es) = s ∷ structures_in es

unfoldable pub structures : List Structure
unfolding structures_in
structures = structures_in (printed048 ++ (printed021 ++ take 1 printed007))

abbrev pub printed_length : Structure → Length
printed_length s = (s.octets, spares_of s.runs)

unfoldable pub lengths : List Length
unfolding structures
lengths = map printed_length structures

-- ---- both tables line by line: the octets and spare bits of a line (Laws.Lines, `lengths_at`), and its pieces

abbrev pub length_of : Line × ℕ → Length
length_of p = (p.0.octets, spare_mask p.0)

abbrev pub taken_of : Line × ℕ → Pieces
taken_of p = (code_of p.0.pieces, length p.0.pieces, p.0.fx, p.1, p.0.flag)

unfoldable pub pieces : List Pieces
unfolding placed code_of
pieces = map taken_of placed

-- both by their names
abbrev pub named : Length → Pieces → Format
named l p = record { octets = l.0; spare = l.1; pieces = p.0; runs = p.1; below = p.2; first = p.3; flag = p.4 }

abbrev pub format_of : Line × ℕ → Format
format_of p = named (length_of p) (taken_of p)
