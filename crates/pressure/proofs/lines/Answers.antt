-- `pressure::lines` meets its contract: the sum of 8,000 and an i32 is far from the ends of 64 bits. Assumes nothing.
use mathlib.Core.Path.{◌∙◌}
use mathlib.Core.Bool.{Bool, true, false, cond}
use Prim.Native.Nat.{suc, ◌+◌, ◌-◌, ◌≤◌, ◌<◌}
use native.Mathlib.Omega.{arith}
use lib.Dec.{ltb}
use lib.IntN.{ℤ, pos, negsuc}
use lib.Signed.{mag}
use mir.Syntax.{w32, w64}
use mir.Val.{SFits}
use mir.Facts.{to_z-of_z, sfits_widen}
use Rattle.papers.specs.Names.{text}
use Rattle.scope.specs.Pressure.{tenths_of, sense_of}
use Rattle.scope.specs.Sheet.{signed_decimal}
use Rattle.text.specs.Laws.Typing.{types_behind, types_key}
use Rattle.pressure.proofs.lines.Goals as goal

tenths_size : (z : ℤ) → mag (tenths_of z) ≤ 8_000 + mag z
tenths_size (pos n) = omega arith
tenths_size (negsuc n) = go (ltb 8_000 (suc n))
  where
    go : (t : Bool) → mag (cond t (negsuc (suc n - suc 8_000)) (pos (8_000 - suc n))) ≤ 8_000 + n
    go true = omega arith
    go false = omega arith

tenths_fit : (z : ℤ) → SFits w32 z → SFits w64 (tenths_of z)
tenths_fit z f = let g : mag z < 2_147_483_648 = f.sfits in record { sfits = omega (arith, tenths_size z) }

pub returns : goal.returns
returns c =
    let f = c.ranges.n in
    let name = c.args.name.now in
    let z = c.args.n in
    let number = c.from-number.ensures ∙ to_z-of_z f in
    let wide = to_z-of_z {w = w64} {z = z} (sfits_widen tt f) in
    types_behind (types_key name (text ".tenths") (signed_decimal (tenths_of z)) c.word.ensures
    (rw (number, wide, to_z-of_z {w = w64} {z = tenths_of z} (tenths_fit z f)) at c.pair.ensures))
    (types_key name (text ".sense") (sense_of z) c.word-2.ensures (rw (c.sense.ensures, number, wide) at c.pair-2.ensures))
