-- Where an item stands, as the code finds it: by the indicator and by where each item begins.
use Rattle.std.specs.Prelude.{List, ℕ, suc, ◌-◌, ◌≤◌, ◌<◌, eqb, get_or}
use Rattle.codec.specs.Pick.{pick}
use Rattle.codec.specs.Field.{flags}
use Rattle.papers.specs.Papers.{paper_of, items_of}
use Rattle.layout.specs.Answer.{View, Shown, Hidden}
use Rattle.scope.specs.Views.{is_item}

-- the items of a category begin one after the other
unfoldable pub Rising : ℕ → List ℕ → Type 0
Rising cat starts = (i : ℕ) → i < items_of cat → get_or starts i 0 ≤ get_or starts (suc i) 0

unfoldable pub stands_at : ℕ → ℕ → List ℕ → ℕ → View
stands_at cat ind starts item =
    pick (is_item (paper_of cat) item)
    (pick (eqb (get_or (flags ind) (item - 1) 0) 1) (Shown (get_or starts (item - 1) 0) (get_or starts item 0 - get_or starts (item - 1) 0)) (Hidden 15 0))
    (Hidden 12 0)
