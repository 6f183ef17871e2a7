-- Where a returned part stands in memory, a block and an offset in it: in the lent field itself, from the item's first offset on ("The view of an item is that part of the lent field",
-- "the correction's own part .. the base's own part"). The empty part, where nothing is shown, stands at the first octet.
use Rattle.std.specs.Prelude.{ℕ, ◌+◌}
use Rattle.layout.specs.Answer.{View, Shown, Hidden, Choice}
use Rattle.layout.specs.declared.Which.{Which}
use Rattle.layout.specs.declared.Which.TheVariants.{Neither, Base, Correction}

unfoldable pub part_at : ℕ × ℕ → View → ℕ × ℕ
part_at p (Shown a m) = (p.0, a + p.1)
part_at p (Hidden e q) = p

-- in the field that a choice names; for neither, at the base
unfoldable pub side_at : ℕ × ℕ → ℕ × ℕ → Which → View → ℕ × ℕ
unfolding part_at
side_at b c Neither v = b
side_at b c Base v = part_at b v
side_at b c Correction v = part_at c v

unfoldable pub chosen_at : ℕ × ℕ → ℕ × ℕ → Choice → ℕ × ℕ
unfolding side_at
chosen_at b c x = side_at b c x.which x.view
