-- `sheet::items::Held::lines` meets its contract: each line has the keys up to the next space. Assumes nothing.
use Prim.Native.Nat.{◌+◌, ◌-◌}
use native.Mathlib.Omega.{arith}
use Rattle.sheet.specs.Laws.Lines.{lines_end, lines_on}
use Rattle.sheet.proofs.items.Held.lines.Goals as goal

pub loop-i-preserved : goal.loop-i-preserved
loop-i-preserved c =
    let a = c.args in
    let h = a.self.now in
    let l = c.loop-i in
    let s = c.split_at.ensures in (
      omega (arith, s.back_len, l.invariant.0),
      λ v r.
          l.invariant.1 v (lines_on l.rest.now h.numbers.now (h.count - l.i) (a.b + l.i) (a.parts - l.i) (a.all - l.i) h.base (λ e. omega (arith, e, c.loop-i-test.true))
          c.span.ensures.0 s.front s.back c.line.ensures (omega arith) (omega arith) (omega arith) (omega arith) r),
    )

pub returns : goal.returns
returns c =
    let a = c.args in
    let h = a.self.now in
    let l = c.loop-i in
    l.invariant.1 l.sheet (lines_end l.rest.now h.numbers.now (h.count - l.i) (a.b + l.i) (a.parts - l.i) (a.all - l.i) h.base (omega (arith, c.loop-i-test.false)) _ _)
