-- The row of items, laid one behind the other.
use Rattle.std.specs.Prelude.{Bool, ℕ}
use Rattle.codec.specs.Codec.{Codec, opt}
use Rattle.codec.specs.Line.{Held}
use Rattle.codec.specs.Item.{slots, nothing, item}
use Rattle.spots.specs.Spots.{item_on}

-- ---- the item at a spot

unfoldable pub place_on : ℕ → Bool → Codec Held
place_on k there = opt (nothing (slots (item_on k))) there (item (item_on k))
