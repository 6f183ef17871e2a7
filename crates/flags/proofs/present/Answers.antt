-- `flags::present` meets its contract: the bit is the flag, and past the eight there is none. Assumes nothing.
use mathlib.Core.Path.{sym, ap, subst}
use Prim.Native.Nat.{ℕ, ◌≤◌, ◌<◌}
use mir.Syntax.{w8}
use mir.Val.{Fits}
use lib.Dec.{eqb}
use lib.ListN.{get_or-eq_default}
use Rattle.codec.specs.Field.{flags}
use Rattle.codec.proofs.Laws.Field.{length-flags}
use Rattle.codec.proofs.Laws.Flags.{flag_bit}
use Rattle.flags.proofs.present.Goals as goal

octet_lt : {x : ℕ} → Fits w8 x → x < 256
octet_lt f = f.fits

pub returns-then-i-lt8 : goal.returns-then-i-lt8
returns-then-i-lt8 c =
    let a = c.args in
    ap (λ x. eqb x 1) (sym (flag_bit a.items a.i (octet_lt c.ranges.items) c.if-i-lt8.true))

pub returns : goal.returns
returns c =
    let a = c.args in
    ap (λ x. eqb x 1) (sym (get_or-eq_default (flags a.items) 0 (subst (◌≤ a.i) (sym (length-flags a.items)) c.if-i-lt8.false)))
