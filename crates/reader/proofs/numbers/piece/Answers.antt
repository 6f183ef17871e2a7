-- `reader::numbers::piece` meets its contract: bits that hold no number put nothing, others one. Assumes nothing.
use mathlib.Core.Path.{◌≡◌, sym, ap, ◌∙◌, subst}
use Prim.Native.Nat.{◌^◌, ◌/◌, ◌%◌, ◌<◌}
use native.Mathlib.Nat.{mod-lt}
use native.Mathlib.Omega.{arith}
use borrow.Author.Rules.{sfits_of}
use lib.ListN.{length, set}
use lib.Seq.{sets}
use lib.Pow.{pow_pos}
use mir.Syntax.{w32}
use mir.Facts.{to_z-of_z, Fits-of_lt}
use Rattle.codec.specs.Line.{to_num}
use Rattle.lengths.specs.Lines.{kind_of}
use Rattle.reader.specs.Laws.Taking.{num_none, num_some}
use Rattle.reader.proofs.numbers.piece.Goals as goal

pub returns-then-kind-eq0 : goal.returns-then-kind-eq0
returns-then-kind-eq0 c =
    let a = c.args in let e = num_none a.kind a.w a.n a.next c.if-kind-eq0.true in
    (ap length (sym e), ap (sets a.numbers.now a.slot) (sym e))

pub number-requires : goal.number-requires
number-requires c =
    let a = c.args in
    (subst (◌< 2 ^ a.w) (sym c.low.ensures) (mod-lt (a.n / 2 ^ a.next) (pow_pos a.w)), (c.requires.2 c.if-kind-eq0.false).0)

pub offset_bounds-numbers-slot : goal.offset_bounds-numbers-slot
offset_bounds-numbers-slot c = Fits-of_lt (omega (arith, c.requires.2 c.if-kind-eq0.false))

pub bounds-numbers-slot : goal.bounds-numbers-slot
bounds-numbers-slot c = omega (arith, c.requires.2 c.if-kind-eq0.false)

pub returns : goal.returns
returns c =
    let a = c.args in let z = to_z-of_z {w = w32} {z = c.number.result} (sfits_of c.number.type_inv) in
    let ez : c.number.result ≡ to_num (kind_of a.kind) a.w (a.n / 2 ^ a.next % 2 ^ a.w) = c.number.ensures ∙ ap (to_num (kind_of a.kind) a.w) c.low.ensures in
    let e = num_some a.kind a.w a.n a.next c.if-kind-eq0.false in
    (ap length (sym e), ap (set a.numbers.now a.slot) (z ∙ ez) ∙ ap (sets a.numbers.now a.slot) (sym e))
