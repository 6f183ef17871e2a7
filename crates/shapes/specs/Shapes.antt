-- The items that some paper has, each by its number: its chain and its subfields as runs of lines.
use Rattle.std.specs.Prelude.{Bool, true, ◌&&◌, List, [], ◌∷◌, ℕ, zero, suc, ◌+◌, ltb, eqb, length, get_or}
use Rattle.codec.specs.Line.{Line}
use Rattle.codec.specs.Item.{Item, chained, single, lines_of}
use Rattle.lengths.specs.Lines.{items, no_line, line_at, first_at, count_at}
use Rattle.shapes.specs.declared.Shape.{Shape}

unfoldable pub item_at : ℕ → Item
unfolding items
item_at k = get_or items k (single no_line)

-- a line that no paper has, behind every line that a later edition may add
abbrev pub NO_LINE : ℕ
NO_LINE = 255

-- n lines from line b on
unfoldable pub lines_from : ℕ → ℕ → List Line
lines_from b zero = []
lines_from b (suc n) = line_at b ∷ lines_from (b + 1) n

-- line b and the left ones behind it are parts, and the slots of each begin where those of the one before end
unfoldable pub parts_ok : ℕ → ℕ → Bool
parts_ok b zero = eqb (line_at b).fx 1
parts_ok b (suc left) = eqb (line_at b).fx 1 && (eqb (first_at (b + 1)) (first_at b + count_at b) && parts_ok (b + 1) left)

-- every flag is among the first k numbers
unfoldable pub flags_under : ℕ → List Line → Bool
flags_under k [] = true
flags_under k (l ∷ ls) = ltb l.flag k && flags_under k ls

-- the chain that begins at line b, with left further parts, and the n subfields behind it
unfoldable pub item_of : ℕ → ℕ → ℕ → Item
unfolding lines_from
item_of b left n = chained (line_at b) (lines_from (b + 1) left) (lines_from (b + 1 + left) n)

-- the shape of an item whose first line is b: that line, the parts of its chain, 0 for one subfield without a chain, and its subfields
unfoldable pub shape_of : ℕ → Item → Shape
shape_of b (chained p qs ss) = (b, suc (length qs), length ss)
shape_of b (single l) = (b, 0, 0)

unfoldable pub shapes_from : ℕ → List Item → List Shape
unfolding shape_of
shapes_from b [] = []
shapes_from b (it ∷ its) = shape_of b it ∷ shapes_from (b + length (lines_of it)) its

unfoldable pub shapes : List Shape
unfolding shapes_from
shapes = shapes_from 0 items

unfoldable pub shape_at : ℕ → Shape
unfolding shapes
shape_at k = get_or shapes k (NO_LINE, 0, 0)

-- of n lines from line b on, the slots of each begin where those of the one before end
unfoldable pub in_turn : ℕ → ℕ → Bool
in_turn b zero = true
in_turn b (suc zero) = true
in_turn b (suc (suc n)) = eqb (first_at (b + 1)) (first_at b + count_at b) && in_turn (b + 1) (suc n)
