-- The words of a line: what stands between its spaces. A line without a space, also an empty one, is one word; an empty word, as between two spaces, is a word.
use Rattle.std.specs.Prelude.{Bool, true, false, ◌&&◌, List, [], ◌∷◌, ℕ, zero, suc, ◌+◌, leb, eqb, length, get_or, drop}
use Rattle.codec.specs.Pick.{pick}
use Rattle.words.specs.Lines.{word_length}

-- an octet in front of the first word
unfoldable pub glued : ℕ → List (List ℕ) → List (List ℕ)
glued o [] = (o ∷ []) ∷ []
glued o (w ∷ ws) = (o ∷ w) ∷ ws

-- 32 is the space
unfoldable pub words_of : List ℕ → List (List ℕ)
unfolding glued
words_of [] = [] ∷ []
words_of (o ∷ s) = pick (eqb o 32) ([] ∷ words_of s) (glued o (words_of s))

-- a word by its number, from 0; an empty one behind the last
abbrev pub nth : List (List ℕ) → ℕ → List ℕ
nth ws k = get_or ws k []

-- two words are the same
unfoldable pub same : List ℕ → List ℕ → Bool
same [] [] = true
same [] (y ∷ ys) = false
same (x ∷ xs) [] = false
same (x ∷ xs) (y ∷ ys) = eqb x y && same xs ys

-- ---- words by place

-- the words of a line from a place on
unfoldable pub words_at : List ℕ → ℕ → List (List ℕ)
unfolding words_of
words_at s at = pick (leb at (length s)) (words_of (drop at s)) []

-- where the next word starts; past the end of the line where there is none
unfoldable pub next_place : List ℕ → ℕ → ℕ
next_place line at = pick (leb at (length line)) (at + word_length (drop at line) + 1) at

-- where the first n words start, from a place on
unfoldable pub places_from : List ℕ → ℕ → ℕ → List ℕ
unfolding next_place
places_from line at zero = []
places_from line at (suc n) = at ∷ places_from line (next_place line at) n
