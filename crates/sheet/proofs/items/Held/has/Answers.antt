-- `sheet::items::Held::has` meets its contract. Assumes nothing.
use mathlib.Core.Path.{ap, refl, ◌∙◌}
use Prim.Native.Nat.{◌-◌}
use native.Mathlib.Omega.{arith}
use borrow.Author.Rules.{sfits_of}
use mir.Syntax.{w32}
use mir.Facts.{to_z-of_z, Fits-of_lt}
use Rattle.codec.specs.Item.{is_one}
use Rattle.lengths.specs.Laws.Lines.{few_flags}
use Rattle.lengths.specs.Laws.Formats.{format_flag}
use Rattle.sheet.specs.Laws.Lines.{there_sub, there_reached}
use Rattle.sheet.proofs.items.Held.has.Goals as goal

pub returns-then-i-parts : goal.returns-then-i-parts
returns-then-i-parts c =
    let a = c.args in
    there_reached a.self.now.numbers.now (a.self.now.count - a.i) a.b (a.parts - a.i) a.self.now.base a.i a.self.now.count refl (λ e. omega (arith, e, c.if-i-parts.true))

pub overflow_add-self : goal.overflow_add-self
overflow_add-self c =
    Fits-of_lt (omega (arith, c.requires, format_flag c.args.b c.format_of-format.ensures, few_flags c.args.b))

pub returns : goal.returns
returns c =
    let a = c.args in
    there_sub a.self.now.numbers.now (a.self.now.count - a.i) a.b (a.parts - a.i) a.self.now.base (omega (arith, c.if-i-parts.false)) (format_flag a.b c.format_of-format.ensures)
    (c.is_one.ensures ∙ ap is_one (to_z-of_z {w = w32} {z = c.number_at.result} (sfits_of c.number_at.type_inv) ∙ c.number_at.ensures))
