-- Where each category keeps its items: which item stands at a spot and at which slot its numbers begin, and a category's items as a row of spots.
use Rattle.std.specs.Prelude.{Bool, true, ◌&&◌, List, [], ◌∷◌, ◌++◌, ℕ, zero, suc, ◌+◌, leb, eqb, ℤ, get_or, take, drop}
use Rattle.codec.specs.Pick.{pick}
use Rattle.codec.specs.Line.{Held}
use Rattle.codec.specs.Item.{Item, slots}
use Rattle.papers.specs.Papers.{SLOTS}
use Rattle.layout.specs.Record.{regroup}
use Rattle.spots.specs.declared.Spot.{Spot}
use Rattle.shapes.specs.Shapes.{item_at}

unfoldable pub spots_from : ℕ → List ℕ → List Spot
spots_from slot [] = []
spots_from slot (k ∷ ks) = (k, slot) ∷ spots_from (slot + slots (item_at k)) ks

unfoldable pub spots : List Spot
unfolding spots_from
spots =
    spots_from 0 (0 ∷ 1 ∷ 2 ∷ 3 ∷ 4 ∷ [])
    ++ (spots_from 0 (5 ∷ 6 ∷ 7 ∷ 8 ∷ 9 ∷ 10 ∷ 11 ∷ 12 ∷ []) ++ spots_from 0 (13 ∷ 1 ∷ 2 ∷ 3 ∷ 4 ∷ []))

unfoldable pub spot_at : ℕ → Spot
unfolding spots
spot_at k = get_or spots k (0, 0)

-- a category's first spot
unfoldable pub spot_of : ℕ → ℕ
spot_of cat = pick (eqb cat 48) 0 (pick (eqb cat 21) 5 13)

-- ---- rows

-- the item at a spot of the table
abbrev pub item_on : ℕ → Item
item_on k = item_at (spot_at k).0

-- its slots are slots of the record
unfoldable pub spot_ok : ℕ → Bool
spot_ok k = leb ((spot_at k).1 + slots (item_on k)) SLOTS

-- and so for n spots, the slots of each beginning where those of the one before end
unfoldable pub row_ok : ℕ → ℕ → Bool
row_ok k zero = true
row_ok k (suc zero) = spot_ok k
row_ok k (suc (suc n)) = spot_ok k && (eqb (spot_at (k + 1)).1 ((spot_at k).1 + slots (item_on k)) && row_ok (k + 1) (suc n))

-- n items from spot k on
unfoldable pub items_from : ℕ → ℕ → List Item
items_from k zero = []
items_from k (suc n) = item_on k ∷ items_from (k + 1) n

-- the numbers of the item at a spot, among the slots of a record
unfoldable pub numbers_on : ℕ → List ℤ → List ℤ
numbers_on k ns = take (slots (item_on k)) (drop (spot_at k).1 ns)

-- what left items from spot k on hold, the first of them having index i
unfoldable pub held_from : ℕ → ℕ → ℕ → List ℕ → List ℤ → List Held
unfolding items_from regroup
held_from k left i ps ns = regroup (items_from k left) (drop i ps) (drop (spot_at k).1 ns)
