-- `writer::lines::Laying::subfield` meets its contract. Assumes nothing.
use mathlib.Core.Path.{◌≡◌, ap, ◌∙◌}
use Prim.Native.Nat.{◌+◌}
use native.Mathlib.Omega.{arith}
use borrow.Author.Rules.{sfits_of}
use mir.Syntax.{w32}
use mir.Facts.{to_z-of_z}
use Rattle.codec.specs.Item.{is_one}
use Rattle.lengths.specs.Laws.Lines.{few_flags}
use Rattle.lengths.specs.Laws.Formats.{format_flag}
use Rattle.layout.specs.Record.{number_at}
use Rattle.writer.specs.Laws.Chains.{sub_there, sub_absent}
use Rattle.writer.proofs.lines.Laying.subfield.Goals as goal

pub number-requires : goal.number-requires
number-requires c = omega (arith, format_flag c.args.b c.format_of-format.ensures, few_flags c.args.b)

pub returns-then-is_one : goal.returns-then-is_one
returns-then-is_one c =
    let told : (let a = c.args in c.is_one.result ≡ is_one (number_at a.slots.numbers.now (a.slots.base + c.format_of-format.result.flag))) =
    c.is_one.ensures ∙ ap is_one (to_z-of_z {w = w32} {z = c.number.result} (sfits_of c.number.type_inv) ∙ c.number.ensures) in
    let a = c.args in
    λ zs us hz u hu. sub_there a.slots.numbers.now a.b a.slots.base zs hz u (format_flag a.b c.format_of-format.ensures) told us c.if-is_one.true (c.line.ensures us hu)

pub returns-else-is_one : goal.returns-else-is_one
returns-else-is_one c =
    let told : (let a = c.args in c.is_one.result ≡ is_one (number_at a.slots.numbers.now (a.slots.base + c.format_of-format.result.flag))) =
    c.is_one.ensures ∙ ap is_one (to_z-of_z {w = w32} {z = c.number.result} (sfits_of c.number.type_inv) ∙ c.number.ensures) in
    let a = c.args in
    λ zs us hz u hu. sub_absent a.slots.numbers.now a.b a.slots.base zs hz u (format_flag a.b c.format_of-format.ensures) told us c.if-is_one.false a.self.now.octets a.self.now.at
