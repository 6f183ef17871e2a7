-- A chain from a place on.
use Rattle.std.specs.Prelude.{List, ℕ, ◌+◌}
use Rattle.codec.specs.Codec.{Res}
use Rattle.codec.specs.Line.{Held}
use Rattle.codec.specs.Item.{chain}
use Rattle.lengths.specs.Lines.{line_at}
use Rattle.shapes.specs.Shapes.{lines_from}
use Rattle.reader.specs.Steps.{run}

-- the chain whose first part is line b, with left further parts
abbrev pub chain_at : ℕ → List ℕ → ℕ → ℕ → Res Held
chain_at b xs at left = run (chain (line_at b) (lines_from (b + 1) left)).read xs at
