-- `arrays::octet` meets its contract. Assumes nothing.
use Rattle.std.proofs.Common.{◌∙◌}
use mir.Facts.{to_z-of_z}
use Rattle.arrays.proofs.Tried.{octet_tried}
use Rattle.arrays.proofs.octet.Goals as goal

pub returns : goal.returns
returns c = c.unwrap_or.ensures ∙ octet_tried c.args.z c.try_from.result (rw (to_z-of_z c.ranges.z) at c.try_from.ensures)
