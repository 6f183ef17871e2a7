-- `reader::lines::number` meets its contract, by the kind. Assumes nothing.
use mathlib.Core.Path.{◌≡◌, sym, ap, ◌∙◌, subst}
use Prim.Native.Nat.{ℕ, ◌^◌, ◌≤◌, ◌<◌}
use native.Mathlib.Nat.{lt_of_lt_of_le}
use native.Mathlib.Omega.{arith}
use borrow.Author.Rules.{rules, sfits_of}
use lib.Pow.{pow_mono}
use mir.Syntax.{w32}
use mir.Facts.{to_z-of_z, to_z_pos}
use Rattle.codec.specs.Signed.{to_signed}
use Rattle.reader.specs.Laws.Numbers.{plain_is, signed_is}
use Rattle.reader.proofs.lines.number.Goals as goal

-- at most 24 bits
full_le : (w : ℕ) → w ≤ 24 → 2 ^ w ≤ 2 ^ 24
full_le w h = pow_mono {i = w} {j = 24} h

small : (d w : ℕ) → d < 2 ^ w → w ≤ 24 → d < 2 ^ 24
small d w h k = lt_of_lt_of_le h (full_le w k)

pub overflow_cast-result : goal.overflow_cast-result
overflow_cast-result c = record { sfits = omega (arith, small c.args.d c.args.w c.requires.0 c.requires.1) }

pub returns-then-kind-lt2 : goal.returns-then-kind-lt2
returns-then-kind-lt2 c =
    to_z_pos w32 (omega (arith, small c.args.d c.args.w c.requires.0 c.requires.1)) ∙ plain_is c.args.kind c.args.w c.args.d c.if-kind-lt2.true

pub power-requires : goal.power-requires
power-requires c = search rules

pub signed-requires : goal.signed-requires
signed-requires c =
    let e : c.power.result ≡ 2 ^ c.args.w = c.power.ensures in
    (subst (c.args.d <◌) (sym e) c.requires.0, subst (◌≤ 2 ^ 24) (sym e) (full_le c.args.w c.requires.1))

pub returns : goal.returns
returns c =
    to_z-of_z {w = w32} (sfits_of c.signed.type_inv) ∙ c.signed.ensures ∙ ap (λ x. to_signed x c.args.d) c.power.ensures
    ∙ signed_is c.args.kind c.args.w c.args.d c.if-kind-lt2.false
