-- As many octets as an input is told to have lie in an array of so many.
use Rattle.std.specs.Prelude.{◌≡◌, ℕ, ◌≤◌, Result, Ok, Err}
use Rattle.std.proofs.Common.{subst}

abbrev pub Within : {E : Type 0} → Result ℕ E → ℕ → Type 0
Within (Ok n) room = n ≤ room
Within (Err e) room = Unit {0}

pub octets_within : {E : Type 0} {r : Result ℕ E} {n room : ℕ} → r ≡ Ok n → Within r room → n ≤ room
octets_within {room = room} e h = subst (λ x. Within x room) e h
