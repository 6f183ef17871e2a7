-- The row of items, and the line of their names.
use Rattle.std.specs.Prelude.{Bool, true, false, List, [], ◌∷◌, ℕ, zero, suc, ◌+◌, ℤ}
use Rattle.codec.specs.Pick.{pick}
use Rattle.papers.specs.Names.{text, Named}
use Rattle.scope.specs.Sheet.{item_text}
use Rattle.spots.specs.Spots.{spot_at, item_on, numbers_on}
use Rattle.sheet.specs.Items.{named_at}

-- the names of the item at a spot, and of so many from a spot on
abbrev pub named_on : ℕ → Named
named_on k = named_at (spot_at k).0

unfoldable pub names_from : ℕ → ℕ → List Named
names_from k zero = []
names_from k (suc n) = named_on k ∷ names_from (k + 1) n

-- ---- the ways out of `place`

abbrev pub place_text : ℕ → Bool → ℕ → List ℤ → List ℕ
place_text k there n ns = pick there (item_text (item_on k) (named_on k) (n, numbers_on k ns)) []

-- ---- the line of names: a comma before each but the first

unfoldable pub comma_of : Bool → List ℕ
comma_of true = []
comma_of false = text ","
