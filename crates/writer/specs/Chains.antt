-- Chains, subfields and items: each line is laid behind the one before it.
use Rattle.std.specs.Prelude.{Bool, false, ℕ, ltb, eqb}
use Rattle.codec.specs.Pick.{pick}
use Rattle.codec.specs.Line.{count}

-- ---- the ways out of `chain`

-- a further part follows: some are left, and the count says so
unfoldable pub goes_on : ℕ → ℕ → Bool
goes_on count left = pick (eqb left 0) false (ltb 1 count)
