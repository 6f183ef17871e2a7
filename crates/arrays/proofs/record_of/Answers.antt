-- `arrays::record_of` meets its contract. Assumes nothing.
use mir.Syntax.{w32}
use mathlib.Core.Path.{ap, ◌∙◌}
use borrow.Author.Rules.{sfits_of}
use mir.Facts.{to_z-of_z}
use Rattle.interface.specs.Arrays.{octet_of}
use Rattle.interface.proofs.Laws.Arrays.{record_made}
use Rattle.arrays.proofs.record_of.Goals as goal

pub returns : goal.returns
returns c =
    record_made c.args.a.now (c.octet.ensures ∙ ap octet_of (to_z-of_z {w = w32} (sfits_of c.octet-arg-1.given))) (c.octet-2.ensures ∙ ap octet_of (to_z-of_z {w = w32} (sfits_of c.octet-arg-2-1.given))) c.narrow.ensures c.copy_from_slice.ensures.after
