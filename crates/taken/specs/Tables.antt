-- What the code has to know of the names: of each line of the table of lengths how many lines of a text a number of it takes, and how a text begins that has it.
use Rattle.std.specs.Prelude.{List, [], ◌∷◌, ◌++◌, map, ℕ, length, get_or, drop, replicate}
use Rattle.codec.specs.Item.{Item, chained, single}
use Rattle.papers.specs.Names.{Key, hidden, shown, angle, pressure, Named}
use Rattle.lengths.specs.Lines.{items}
use Rattle.sheet.specs.Items.{named}
use Rattle.guess.specs.Guess.{lines_for, head_of}

-- ---- the groups of keys, one for each chain part and subfield

unfoldable pub groups_in : List Named → List (List Key)
groups_in [] = []
groups_in (nm ∷ nms) = nm.keys ++ groups_in nms

unfoldable pub groups : List (List Key)
unfolding groups_in named
groups = groups_in named

-- the numbers of a group have as many lines each as the first; a flag that is not listed is never taken from a text
unfoldable pub step_of : List Key → ℕ
unfolding lines_for
step_of [] = 1
step_of (hidden ∷ ks) = 1
step_of (shown k ∷ ks) = lines_for (shown k)
step_of (angle k ∷ ks) = lines_for (angle k)
step_of (pressure k ∷ ks) = lines_for (pressure k)

unfoldable pub step_at : ℕ → ℕ
unfolding groups step_of
step_at b = step_of (get_or groups b [])

-- ---- a subfield is there if the text begins with its first key; what is no subfield has none to begin with

unfoldable pub line_heads : Item → Named → List (List ℕ)
line_heads (chained p qs ss) nm = replicate (length (p ∷ qs)) [] ++ map head_of (drop (length (p ∷ qs)) nm.keys)
line_heads (single l) nm = [] ∷ []

unfoldable pub heads_in : List Item → List Named → List (List ℕ)
unfolding line_heads
heads_in [] nms = []
heads_in (it ∷ its) [] = []
heads_in (it ∷ its) (nm ∷ nms) = line_heads it nm ++ heads_in its nms

unfoldable pub heads : List (List ℕ)
unfolding heads_in items named
heads = heads_in items named

unfoldable pub head_at : ℕ → List ℕ
unfolding heads
head_at b = get_or heads b []
