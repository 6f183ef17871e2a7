-- Which categories there are, and the paper of each (01, 'Papers that decide' and 'The field').
use Rattle.std.specs.Prelude.{Bool, true, ◌&&◌, List, [], ◌∷◌, ℕ, ◌+◌, leb, eqb, length}
use Rattle.codec.specs.Pick.{pick}
use Rattle.codec.specs.Item.{Item, slots}
use Rattle.codec.specs.Field.{longest}
use Rattle.codec.specs.Printed.{spares, Structure, Entry}
use Rattle.codec.specs.Mask.{spares_of}
use Rattle.papers.specs.Notation.{sub}
use Rattle.papers.specs.Cat048.{indicator048, printed048, cat048}
use Rattle.papers.specs.Cat021.{indicator021, printed021, cat021}
use Rattle.papers.specs.Cat007.{indicator007, printed007, cat007}

-- 1 is given "when category is not 7, 21 or 48"
unfoldable pub known : ℕ → Bool
known cat = pick (eqb cat 48) true (pick (eqb cat 21) true (eqb cat 7))

unfoldable pub paper_of : ℕ → List Item
paper_of cat = pick (eqb cat 48) cat048 (pick (eqb cat 21) cat021 (pick (eqb cat 7) cat007 []))

-- the same as it is printed
unfoldable pub printed_of : ℕ → List Entry
printed_of cat = pick (eqb cat 48) printed048 (pick (eqb cat 21) printed021 (pick (eqb cat 7) printed007 []))

-- its section 2.2; without a paper every place is spare
abbrev pub no_indicator : Structure
no_indicator = sub "" 1 (spares 8 1 ∷ [])

unfoldable pub indicator_of : ℕ → Structure
indicator_of cat = pick (eqb cat 48) indicator048 (pick (eqb cat 21) indicator021 (pick (eqb cat 7) indicator007 no_indicator))

-- the places of the indicator that are spare, as one number
abbrev pub spare_of : ℕ → ℕ
spare_of cat = spares_of (indicator_of cat).runs

-- "Each category carries three numbers of its own: its category number, its count of items and its longest field"
abbrev pub items_of : ℕ → ℕ
items_of cat = length (paper_of cat)

abbrev pub longest_of : ℕ → ℕ
longest_of cat = longest (paper_of cat)

-- "The item number is 1 for bit 8 up to 8 for bit 1": there is such an item
abbrev pub numbered : ℕ → ℕ → Bool
numbered cat item = leb 1 item && leb item (items_of cat)

-- no field of any category is longer (Laws.Papers, `few_octets`)
abbrev pub LONGEST : ℕ
LONGEST = 52

-- the numbers of all items, and that no paper has more (Laws.Papers, `few_slots`): the slots of a record
unfoldable pub all_slots : List Item → ℕ
all_slots [] = 0
all_slots (it ∷ its) = slots it + all_slots its

abbrev pub SLOTS : ℕ
SLOTS = 77
