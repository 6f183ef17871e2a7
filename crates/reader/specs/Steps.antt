-- Readings by place.
use Rattle.std.specs.Prelude.{List, ℕ, drop}
use Rattle.codec.specs.Codec.{Res, shift}
use Rattle.codec.specs.Line.{Held, line}
use Rattle.lengths.specs.Lines.{line_at}

-- a reading that begins at a place of the field
abbrev pub run : {A : Type 0} → (List ℕ → Res A) → List ℕ → ℕ → Res A
run rd xs at = shift at (rd (drop at xs))

unfoldable pub line_run : ℕ → List ℕ → ℕ → Res Held
line_run b xs at = run (line (line_at b)).read xs at
