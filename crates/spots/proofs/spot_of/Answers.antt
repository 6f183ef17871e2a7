-- `spots::spot_of` meets its contract, by the category. Assumes nothing.
use mathlib.Core.Path.{refl}
use borrow.Author.Tests.{ne_eqb}
use Rattle.spots.specs.Spots.{spot_of}
use Rattle.spots.proofs.spot_of.Goals as goal

pub returns-in-48 : goal.returns-in-48
unfolding spot_of
returns-in-48 c = rw c.in-48.is refl

pub returns-in-21 : goal.returns-in-21
unfolding spot_of
returns-in-21 c = rw c.in-21.is refl

pub returns-in_default : goal.returns-in_default
unfolding spot_of
returns-in_default c = rw (ne_eqb _ _ c.in_default.in_default-own.rest.0.1, ne_eqb _ _ c.in_default.in_default-own.rest.1) refl
