-- The lines of an input: each ends at its line feed, which is not part of it. A last line without one is a line if it has an octet.
use Rattle.std.specs.Prelude.{List, [], ◌∷◌, ◌++◌, ℕ, eqb, length, take}
use Rattle.codec.specs.Pick.{pick}

-- the lines that end in s, and what is left behind the last of them, h standing before s; 10 is the line feed
unfoldable pub ended : List ℕ → List ℕ → List (List ℕ)
ended h [] = []
ended h (o ∷ s) = pick (eqb o 10) (h ∷ ended [] s) (ended (h ++ (o ∷ [])) s)

unfoldable pub left : List ℕ → List ℕ → List ℕ
left h [] = h
left h (o ∷ s) = pick (eqb o 10) (left [] s) (left (h ++ (o ∷ [])) s)

unfoldable pub last : List ℕ → List (List ℕ)
last h = pick (eqb (length h) 0) [] (h ∷ [])

unfoldable pub lines_of : List ℕ → List (List ℕ)
unfolding ended left last
lines_of s = ended [] s ++ last (left [] s)

-- what is held of a line: no more than shows that it is too long
abbrev pub held : List ℕ → List ℕ
held h = take 16_385 h
