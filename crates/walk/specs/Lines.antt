-- What the walk looks for in a text: a place, and words.
use Rattle.std.specs.Prelude.{List, [], ◌∷◌, ℕ, suc, eqb}
use Rattle.codec.specs.Pick.{pick}

-- the place of the first octet x, or the length
unfoldable pub place_in : ℕ → List ℕ → ℕ
place_in x [] = 0
place_in x (o ∷ s) = pick (eqb o x) 0 (suc (place_in x s))

-- the words of a text, one space between two
unfoldable pub first_longer : ℕ → List (List ℕ) → List (List ℕ)
first_longer o [] = []
first_longer o (w ∷ ws) = (o ∷ w) ∷ ws

unfoldable pub words_in : List ℕ → List (List ℕ)
unfolding first_longer
words_in [] = [] ∷ []
words_in (o ∷ t) = pick (eqb o 32) ([] ∷ words_in t) (first_longer o (words_in t))
