-- The line in which two texts differ first, as code gives it.
use Rattle.std.specs.Prelude.{Option, ℕ, ltb}
use Rattle.std.specs.Bool.{then_some}

-- None is line 0, which no text has
abbrev pub line_of : ℕ → Option ℕ
line_of n = then_some (ltb 0 n) n
