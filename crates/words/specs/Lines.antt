-- The first word of a line: one space stands between two words. A space in front has an empty word before it, which is no number, no octets and no name.
use Rattle.std.specs.Prelude.{List, [], ◌∷◌, ℕ, suc, eqb, take}
use Rattle.codec.specs.Pick.{pick}

-- the octets before the first space; 32 is the space
unfoldable pub word_length : List ℕ → ℕ
word_length [] = 0
word_length (o ∷ os) = pick (eqb o 32) 0 (suc (word_length os))

-- the word in front
unfoldable pub word_of : List ℕ → List ℕ
unfolding word_length
word_of s = take (word_length s) s
