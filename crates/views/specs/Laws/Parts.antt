-- Where a returned part stands in memory, a block and an offset in it: in the lent field itself, from the item's first offset on ("The view of an item is that part of the lent field",
-- "the correction's own part .. the base's own part"). The empty part, where nothing is shown, stands at the first octet.
use Rattle.std.specs.Prelude.{◌≡◌, ℕ}
use Rattle.std.proofs.Math.Path.{sym, ap}
use Rattle.std.proofs.Common.{◌∙◌}
use Rattle.layout.specs.declared.Which.{Which}
use Rattle.layout.specs.declared.Which.TheVariants.{Neither, Base, Correction}
use Rattle.layout.specs.Answer.{Choice}
use Rattle.views.specs.Parts.{part_at, side_at, chosen_at}

-- ---- the ways out of `choose`

module _ (b c : ℕ × ℕ) {x y : Choice} (e : x ≡ y) where
  at_side : {w : Which} → x.which ≡ w → side_at b c w x.view ≡ chosen_at b c y
  unfolding chosen_at
  at_side h = sym (ap (λ w. side_at b c w x.view) h) ∙ ap (chosen_at b c) e

  pub at_neither : x.which ≡ Neither → b ≡ chosen_at b c y
  unfolding side_at
  at_neither h = at_side h

  pub at_base : x.which ≡ Base → part_at b x.view ≡ chosen_at b c y
  unfolding side_at
  at_base h = at_side h

  pub at_correction : x.which ≡ Correction → part_at c x.view ≡ chosen_at b c y
  unfolding side_at
  at_correction h = at_side h
