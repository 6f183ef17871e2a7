-- Octets as pairs of hex digits in capitals, as 01 prints them, with nothing between; `-` for none.
use Rattle.std.specs.Prelude.{List, [], ◌∷◌, ◌++◌, ℕ, ◌+◌, ◌/◌, ◌%◌, ltb}
use Rattle.codec.specs.Pick.{pick}

-- `0` to `9`, then `A` to `F`; 48 is the 0 and 65 the A
unfoldable pub capital : ℕ → ℕ
capital d = pick (ltb d 10) (48 + d) (55 + d)

unfoldable pub pair_text : ℕ → List ℕ
unfolding capital
pair_text o = capital (o / 16) ∷ capital (o % 16) ∷ []

unfoldable pub pairs_text : List ℕ → List ℕ
unfolding pair_text
pairs_text [] = []
pairs_text (o ∷ os) = pair_text o ++ pairs_text os

unfoldable pub hex_text : List ℕ → List ℕ
unfolding pairs_text
hex_text [] = 45 ∷ []
hex_text (o ∷ os) = pairs_text (o ∷ os)
