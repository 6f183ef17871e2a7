-- How the code keeps the keys of an item's numbers: for each chain part and subfield a group, ended by a space; in it, in the order of the numbers, a word and behind it a mark,
-- which says how the word's numbers stand on the sheet.
use Rattle.std.specs.Prelude.{Bool, ◌&&◌, List, [], ◌∷◌, ◌++◌, ℕ, suc, ◌+◌, ltb, eqb, ℤ}
use Rattle.codec.specs.Pick.{pick}
use Rattle.papers.specs.Names.{text, Key, hidden, shown, angle, pressure}
use Rattle.layout.specs.Record.{number_at}
use Rattle.scope.specs.Sheet.{number_text}

-- `:` to `@` are marks; letters, figures, `.` and `#` are not
unfoldable pub mark_is : ℕ → Bool
mark_is m = ltb 57 m && ltb m 65

-- `@` a position, `>` an altitude, `?` a pressure, `:` a flag that is not listed; any other mark one number
unfoldable pub meant : ℕ → List ℕ → List Key
meant m w =
    pick (eqb m 64) (angle (w ++ text ".LAT") ∷ angle (w ++ text ".LON") ∷ [])
    (pick (eqb m 62) (shown (w ++ text ".RES") ∷ shown (w ++ text ".GA") ∷ [])
    (pick (eqb m 63) (pressure w ∷ []) (pick (eqb m 58) (hidden ∷ []) (shown w ∷ []))))

-- how many numbers they are
unfoldable pub slots_in : ℕ → ℕ
slots_in m = pick (eqb m 64) 2 (pick (eqb m 62) 2 1)

-- the keys of a group, w being the word so far
unfoldable pub keys_from : List ℕ → List ℕ → List Key
unfolding mark_is meant
keys_from w [] = []
keys_from w (x ∷ xs) = pick (mark_is x) (meant x w ++ keys_from [] xs) (keys_from (w ++ (x ∷ [])) xs)

-- the octets of the first group, with its space
unfoldable pub span : List ℕ → ℕ
span [] = 0
span (x ∷ xs) = suc (pick (eqb x 32) 0 (span xs))

-- the text of the numbers from a slot on, one for each key
unfoldable pub keyed : List Key → List ℤ → ℕ → List ℕ
unfolding number_text number_at
keyed [] ns slot = []
keyed (k ∷ ks) ns slot = number_text k (number_at ns slot) ++ keyed ks ns (slot + 1)
