-- The lines of an item, by the keys that the code keeps: what it types of them.
use Rattle.std.specs.Prelude.{Bool, List, [], ◌++◌, ℕ, zero, suc, ◌+◌, ◌-◌, ltb, eqb, ℤ, take, drop}
use Rattle.codec.specs.Pick.{pick}
use Rattle.codec.specs.Item.{is_one}
use Rattle.layout.specs.Record.{number_at}
use Rattle.lengths.specs.Lines.{line_at, first_at}
use Rattle.shapes.specs.Shapes.{shape_at}
use Rattle.sheet.specs.Keys.{span, keys_from, keyed}

-- line b is there: of the chain parts the first n, of the subfields those whose flag is 1
unfoldable pub is_there : List ℤ → ℕ → ℕ → ℕ → ℕ → Bool
is_there ns n b parts base = pick (eqb parts 0) (is_one (number_at ns (base + (line_at b).flag))) (ltb 0 n)

-- t is its group of keys
unfoldable pub line_keyed : List ℕ → List ℤ → ℕ → ℕ → ℕ → ℕ → List ℕ
unfolding is_there
line_keyed t ns n b parts base = pick (is_there ns n b parts base) (keyed (keys_from [] t) ns (base + first_at b)) []

-- t has a group for each line
unfoldable pub lines_keyed : List ℕ → List ℤ → ℕ → ℕ → ℕ → ℕ → ℕ → List ℕ
unfolding line_keyed
lines_keyed t ns n b parts zero base = []
lines_keyed t ns n b parts (suc left) base = line_keyed (take (span t) t) ns n b parts base ++ lines_keyed (drop (span t) t) ns (n - 1) (b + 1) (parts - 1) left base

-- an item without a chain is one line that is there
unfoldable pub item_keyed : List ℕ → List ℤ → ℕ → ℕ → ℕ → List ℕ
unfolding lines_keyed
item_keyed t ns n k base =
    pick (eqb (shape_at k).1 0) (lines_keyed t ns 1 (shape_at k).0 1 1 base) (lines_keyed t ns n (shape_at k).0 (shape_at k).1 ((shape_at k).1 + (shape_at k).2) base)
