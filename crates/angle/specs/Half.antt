-- Half of the divisor, on a product's own side of zero.
use Rattle.std.specs.Prelude.{cond, ℤ, pos, negsuc}
use Rattle.std.specs.Int.Signed.{lt_z}

unfoldable pub half_of : ℤ → ℤ
half_of y = cond (lt_z y (pos 0)) (negsuc 16_383) (pos 16_384)
