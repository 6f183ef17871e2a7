-- `reader::lines::within` meets its contract: one law at each way out. Assumes nothing.
use mathlib.Core.Path.{sym, ap, ◌∙◌}
use mathlib.Core.Bool.{◌&&◌}
use Prim.Native.Nat.{◌-◌, ◌/◌}
use native.Mathlib.Omega.{arith}
use Rattle.codec.specs.Line.{in_limits}
use Rattle.lengths.specs.Lines.{pieces_from}
use Rattle.reader.specs.Numbers.{nums_at}
use Rattle.reader.specs.Laws.Limits.{limits_none, first_narrow, rest_narrow, limits_on}
use Rattle.reader.proofs.lines.+within.Goals as goal

pub returns-then-left-eq0 : goal.returns-then-left-eq0
returns-then-left-eq0 t c = let a = c.args in limits_none a.code a.left a.n a.shift c.if-left-eq0.true

pub piece_fits-requires : goal.piece_fits-requires
piece_fits-requires t c =
    (omega arith, omega (arith, c.requires, c.less64-next.ensures), first_narrow c.args.code c.args.left c.if-left-eq0.false c.requires.1)

pub within-requires : goal.within-requires
within-requires t c =
    (omega (arith, c.decreases, c.if-left-eq0.false), (omega (arith, c.requires, c.less64-next.ensures), rest_narrow c.args.code c.args.left c.if-left-eq0.false c.requires.1))

pub returns-then-piece_fits : goal.returns-then-piece_fits
returns-then-piece_fits t c =
    let a = c.args in
    c.within.ensures ∙ sym (limits_on a.code a.left c.if-left-eq0.false a.n a.shift c.less64-next.ensures c.piece_fits.ensures ∙ ap (◌&& in_limits (pieces_from (a.left - 1) (a.code / 256)) (nums_at (pieces_from (a.left - 1) (a.code / 256)) a.n c.less64-next.result)) c.if-piece_fits.true)

pub returns : goal.returns
returns t c =
    let a = c.args in
    sym (limits_on a.code a.left c.if-left-eq0.false a.n a.shift c.less64-next.ensures c.piece_fits.ensures ∙ ap (◌&& in_limits (pieces_from (a.left - 1) (a.code / 256)) (nums_at (pieces_from (a.left - 1) (a.code / 256)) a.n c.less64-next.result)) c.if-piece_fits.false)
