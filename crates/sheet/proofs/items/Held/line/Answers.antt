-- `sheet::items::Held::line` meets its contract. Assumes nothing.
use mathlib.Core.Path.{ap}
use Prim.Native.Nat.{◌+◌, ◌-◌}
use native.Mathlib.Omega.{arith}
use mir.Facts.{Fits-of_lt}
use Rattle.lengths.specs.Laws.Lines.{few_line_slots}
use Rattle.lengths.specs.Laws.Formats.{format_first}
use Rattle.sheet.specs.Laws.Lines.{line_there, line_absent}
use Rattle.sheet.proofs.items.Held.line.Goals as goal

pub overflow_add-self : goal.overflow_add-self
overflow_add-self c =
    Fits-of_lt (omega (arith, c.requires.0, format_first c.args.b c.format_of-format.ensures, few_line_slots c.args.b))

pub group-requires : goal.group-requires
group-requires c =
    (c.requires.1, omega (arith, c.requires.0, format_first c.args.b c.format_of-format.ensures, few_line_slots c.args.b))

pub returns-then-has : goal.returns-then-has
returns-then-has c =
    let a = c.args in
    let h = a.self.now in
    line_there h.numbers.now (h.count - a.i) a.b (a.parts - a.i) h.base a.keys.now c.has.ensures c.if-has.true (ap (h.base +◌) (format_first a.b c.format_of-format.ensures)) c.group.ensures

pub returns-else-has : goal.returns-else-has
returns-else-has c =
    let a = c.args in
    let h = a.self.now in
    line_absent h.numbers.now (h.count - a.i) a.b (a.parts - a.i) h.base a.keys.now c.has.ensures c.if-has.false _ _
