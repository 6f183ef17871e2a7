-- `reader::places::octet_at` meets its contract: past the end stands the default. Assumes nothing.
use mathlib.Core.Path.{sym}
use lib.ListN.{get_or-eq_default}
use Rattle.reader.proofs.places.octet_at.Goals as goal

pub returns : goal.returns
returns c = let a = c.args in sym (get_or-eq_default a.s.now 0 c.if-at-s.false)
