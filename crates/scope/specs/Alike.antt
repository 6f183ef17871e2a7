-- Two fields of one category "whose items off the list are alike, in presence and octets" (02, Ask 5).
use Rattle.std.specs.Prelude.{◌≡◌, false, List, ℕ, T}
use Rattle.papers.specs.Papers.{paper_of}
use Rattle.layout.specs.Answer.{view_number}
use Rattle.scope.specs.Views.{is_item, view_of, part_of}
use Rattle.scope.specs.Desk.{listed}

-- in an item: of an accepted field the view's number is 0 for an item that is there and 15 for an absent one
abbrev pub AlikeIn : ℕ → List ℕ → List ℕ → ℕ → Type 0
AlikeIn cat s t item = (view_number (view_of cat s item) ≡ view_number (view_of cat t item)) × (part_of s (view_of cat s item) ≡ part_of t (view_of cat t item))

-- in every item off the list
abbrev pub Alike : ℕ → ℕ → List ℕ → List ℕ → Type 0
Alike cat list s t = (item : ℕ) → T (is_item (paper_of cat) item) → listed list item ≡ false → AlikeIn cat s t item
