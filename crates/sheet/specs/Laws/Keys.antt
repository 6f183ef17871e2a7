-- How the code keeps the keys of an item's numbers: for each chain part and subfield a group, ended by a space; in it, in the order of the numbers, a word and behind it a mark,
-- which says how the word's numbers stand on the sheet.
use Rattle.std.specs.Prelude.{List, [], ◌∷◌, ℕ, zero, suc, take, drop}
use Rattle.papers.specs.Names.{Key}
use Rattle.sheet.specs.Keys.{keys_from, span}

-- the keys of so many groups
unfoldable pub groups : ℕ → List ℕ → List (List Key)
unfolding keys_from span
groups zero t = []
groups (suc n) t = keys_from [] (take (span t) t) ∷ groups n (drop (span t) t)
