-- Subfields and items: each subfield is read behind what was read before it.
use Rattle.std.specs.Prelude.{List, ◌++◌, ℕ}
use Rattle.codec.specs.Codec.{Res, got, bad, map_res, opt}
use Rattle.codec.specs.Line.{Line, Held, count, line}
use Rattle.codec.specs.Item.{nothing, flagged, item}
use Rattle.shapes.specs.Shapes.{item_at}
use Rattle.reader.specs.Steps.{run}

-- what was read before, with the numbers of what is read behind it
abbrev pub extend : Held → Res Held → Res Held
extend v y = map_res (λ (w : Held). (v.0, v.1 ++ w.1)) y

-- the subfield l, there if its flag among the numbers read so far is 1
unfoldable pub more : Line → List ℕ → Res Held → Res Held
more l xs (got v n) = extend v (run (opt (nothing (count l.pieces)) (flagged v.1 l) (line l)).read xs n)
more l xs (bad e p) = bad e p

-- ---- the items of the papers

unfoldable pub item_run : ℕ → List ℕ → ℕ → Res Held
item_run k xs at = run (item (item_at k)).read xs at
