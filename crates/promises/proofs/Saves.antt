-- 02, Ask 8, of runs of `desk::remove` and `desk::replace`, from their contracts alone.
use Rattle.demands.specs.Members.{Members}
use Rattle.demands.proofs.Kept.Members.{Keeps, promised}
use Rattle.promises.specs.Saves.{Ran}
use Rattle.promises.specs.Saves.Ran.{removed, replaced}

keeps : Keeps Ran
keeps cat s list item ch out a left (removed l x b e p) = p
keeps cat s list item ch out a left (replaced l x b e p) = p

pub members : Members Ran
members = promised Ran keeps
