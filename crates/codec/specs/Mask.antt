-- The mask of a structure: its spare bits as one number, 1 where a bit is spare. That its octets have 0 there is one
-- comparison (Laws.Mask).
use Rattle.std.specs.Prelude.{List, [], ◌∷◌, ℕ, ◌+◌, ◌-◌, ◌*◌, ◌^◌}
use Rattle.codec.specs.Radix.{total}
use Rattle.codec.specs.Line.{Piece, spare, num, Line, widths}
use Rattle.codec.specs.Printed.{Run, spares, number}

-- by the numbers that the paper prints: bits hi/lo are those below 2 ^ hi and not below 2 ^ (lo - 1)
unfoldable pub spares_of : List Run → ℕ
spares_of [] = 0
spares_of (spares hi lo ∷ rs) = (2 ^ hi - 2 ^ (lo - 1)) + spares_of rs
spares_of (number k hi lo q ∷ rs) = spares_of rs

-- by the widths of the pieces that are made of it; those of a chain part stand above its FX
unfoldable pub mask_of : List Piece → ℕ
mask_of [] = 0
mask_of (spare w ∷ ps) = (2 ^ w - 1) * 2 ^ total (widths ps) + mask_of ps
mask_of (num k w ∷ ps) = mask_of ps

unfoldable pub spare_mask : Line → ℕ
unfolding mask_of
spare_mask l = mask_of l.pieces * 2 ^ l.fx
