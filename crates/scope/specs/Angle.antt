-- The angle of a latitude or longitude (01, 'The sheet'): "in millionths of a degree, nearest, halves away from zero. The exact angle is the number times
-- 703,125 over 32,768".
use Rattle.std.specs.Prelude.{ℕ, suc, ◌+◌, ◌*◌, ◌/◌, ℤ, pos, negsuc, neg_ℤ, ◌-ℤ◌, ◌*ℤ◌}

-- of a magnitude: half of the divisor is added, and what is left over is dropped
unfoldable pub rounded : ℕ → ℕ
rounded n = (n * 703_125 + 16_384) / 32_768

unfoldable pub udeg_of : ℤ → ℤ
unfolding rounded
udeg_of (pos n) = pos (rounded n)
udeg_of (negsuc n) = neg_ℤ (pos (rounded (suc n)))

-- what the millionths leave over, in parts of 32,768 (02, Ask 7): "the number times 703,125 equals the millionths times 32,768 plus the leftover"
unfoldable pub left_of : ℤ → ℤ
unfolding udeg_of
left_of n = n *ℤ pos 703_125 -ℤ udeg_of n *ℤ pos 32_768
