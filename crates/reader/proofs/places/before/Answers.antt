-- `reader::places::before` meets its contract: the last flag of an octet is its lowest bit. Assumes nothing.
use mathlib.Core.Path.{◌≡◌, ap, ◌∙◌}
use Prim.Native.Nat.{ℕ, ◌-◌, ◌^◌, ◌/◌, ◌%◌}
use native.Mathlib.Omega.{arith}
use lib.Dec.{eqb}
use lib.ListN.{get_or}
use Rattle.codec.proofs.Laws.Flags.{flag_bit}
use Rattle.reader.proofs.places.before.Goals as goal

unit : (n : ℕ) → n / 2 ^ 0 % 2 ≡ n % 2
unit n = omega arith

pub returns : goal.returns
returns c =
    let xs = c.args.s.now in
    let e = c.octet_at.ensures ∙ ap (λ i. get_or xs i 0) (c.less.ensures ∙ ap (◌- 1) c.from.ensures) in
    ap (λ x. eqb x 1) (flag_bit c.octet_at.result 7 c.octet_at.type_inv (omega arith) ∙ unit c.octet_at.result ∙ ap (◌% 2) e)
