-- `flags::with_item` meets its contract. Assumes nothing.
use Rattle.flags.proofs.Bits.{bit_set}
use Rattle.flags.proofs.with_item.Goals as goal

pub returns : goal.returns
returns c = rw c.bit.ensures (bit_set c.args.items c.args.i c.ranges.items.fits)
