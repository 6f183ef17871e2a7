-- `layout::number_at` meets its contract. Assumes nothing.
use mathlib.Core.Path.{◌∙◌}
use native.Mathlib.Omega.{arith}
use borrow.Author.Rules.{rules, sfits_of}
use Rattle.std.proofs.Common.{◌≡◌, pos, get_or}
use Rattle.std.proofs.lemmas.Option.{unwrap_or-slice_get}
use mir.Syntax.{w32}
use mir.Facts.{to_z-of_z}
use Rattle.layout.specs.Laws.Slots.{number_read}
use Rattle.layout.proofs.number_at.Goals as goal

pub returns : goal.returns
returns c =
    let a = c.args in
    let found : c.unwrap_or.result ≡ get_or a.numbers.now a.slot (pos 0) = search (rules, unwrap_or-slice_get) in
    to_z-of_z {w = w32} (sfits_of c.unwrap_or.type_inv) ∙ found ∙ number_read a.numbers.now a.slot c.told-numbers
