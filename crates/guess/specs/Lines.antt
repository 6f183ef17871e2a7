-- The lines of a text.
use Rattle.std.specs.Prelude.{List, [], ◌∷◌, ℕ, zero, suc, eqb}
use Rattle.codec.specs.Pick.{pick}

-- ---- what stands before the first octet x, and behind it

unfoldable pub before_octet : ℕ → List ℕ → List ℕ
before_octet x [] = []
before_octet x (o ∷ t) = pick (eqb o x) [] (o ∷ before_octet x t)

unfoldable pub behind_octet : ℕ → List ℕ → List ℕ
behind_octet x [] = []
behind_octet x (o ∷ t) = pick (eqb o x) t (behind_octet x t)

-- ---- the first line of a text, without its line feed, and what follows it

abbrev pub until_feed : List ℕ → List ℕ
until_feed t = before_octet 10 t

abbrev pub behind_feed : List ℕ → List ℕ
behind_feed t = behind_octet 10 t

-- what follows so many lines
unfoldable pub behind_feeds : ℕ → List ℕ → List ℕ
behind_feeds zero t = t
behind_feeds (suc n) t = behind_feeds n (behind_feed t)
