-- The text of an item: what the code types by its groups of keys is what the sheet has.
use Rattle.std.specs.Prelude.{◌≡◌, List, [], ◌∷◌, ◌++◌, ℕ, ◌≤◌, ℤ, length, get_or, take}
use Rattle.codec.specs.Item.{slots, lines_of}
use Rattle.papers.specs.Names.{Named, names048, names021, names007}
use Rattle.layout.specs.Laws.Slots.{Holds}
use Rattle.scope.specs.Sheet.{item_text}
use Rattle.shapes.specs.Shapes.{item_at}
use Rattle.text.specs.Typing.{Types}
use Rattle.sheet.specs.Laws.Keys.{groups}

-- ---- the names of the items that some paper has, in the order of the table of shapes

abbrev pub nobody : Named
nobody = record { name = []; keys = [] ∷ [] }

unfoldable pub named : List Named
named = names048 ++ (names021 ++ take 1 names007)

unfoldable pub named_at : ℕ → Named
unfolding named
named_at k = get_or named k nobody

-- the keys of an item as the code keeps them, a group for each of its lines: they are its names
pub record KeysOf (k : ℕ) (t : List ℕ) : Type 0 where
  pub grouped : groups (length (lines_of (item_at k))) t ≡ (named_at k).keys
  pub few : length t ≤ 1_000

-- ---- what the code of an item promises, and its arms: an item with a line for its chain, and one without

abbrev pub ItemTyped : ℕ → ℕ → List ℤ → ℕ → List ℕ → ℕ → List ℕ → ℕ → Type 0
ItemTyped k n ns base l at m next = (zs : List ℤ) → Holds ns base zs → length zs ≡ slots (item_at k) → Types (item_text (item_at k) (named_at k) (n, zs)) l at m next
