-- What `join` does to the octets that are held and to their array.
use Rattle.std.specs.Prelude.{◌≡◌, Bool, true, false, Option, None, Some, List, [], ◌∷◌, ℕ, ◌+◌, ltb, eqb, length, drop, set}
use Rattle.codec.specs.Pick.{pick}

-- an octet behind n others in an array of so much room: how many there are then, and the array
unfoldable pub more : ℕ → ℕ → ℕ
more room n = pick (ltb n room) (n + 1) n

unfoldable pub put_in : ℕ → List ℕ → ℕ → ℕ → List ℕ
put_in room line n o = pick (ltb n room) (set line n o) line

abbrev pub Keeps : List ℕ → ℕ → ℕ → ℕ → List ℕ → Type 0
Keeps line n o r line' = (r ≡ more (length line) n) × (line' ≡ put_in (length line) line n o)

-- the place behind the octets that were taken, how many octets are held of the line, and whether its line feed was met
pub record Joined : Type 0 where
  pub at : ℕ
  pub held : ℕ
  pub ended : Bool

-- the octets s from place at on, n octets being held
unfoldable pub join_of : ℕ → List ℕ → ℕ → ℕ → Joined
unfolding more
join_of room [] n at = record { at = at; held = n; ended = false }
join_of room (o ∷ s) n at = pick (eqb o 10) (record { at = at + 1; held = n; ended = true }) (join_of room s (more room n) (at + 1))

unfoldable pub line_after : ℕ → List ℕ → ℕ → List ℕ → List ℕ
unfolding more put_in
line_after room [] n line = line
line_after room (o ∷ s) n line = pick (eqb o 10) line (line_after room s (more room n) (put_in room line n o))

abbrev pub Joins : List ℕ → ℕ → ℕ → List ℕ → Joined → List ℕ → Type 0
Joins octets from n line r line' = (r ≡ join_of (length line) (drop from octets) n from) × (line' ≡ line_after (length line) (drop from octets) n line)

-- what `join` says where `all` is the place behind all octets, so many being held then: where the line ended, or that all are taken
abbrev pub joined : ℕ → ℕ → Option ℕ → Joined
joined all held None = record { at = all; held = held; ended = false }
joined all held (Some at) = record { at = at; held = held; ended = true }
