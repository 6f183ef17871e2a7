-- `flags::without_item` meets its contract. Assumes nothing.
use Rattle.flags.proofs.Bits.{bit_cleared}
use Rattle.flags.proofs.without_item.Goals as goal

pub returns : goal.returns
returns c = rw c.bit.ensures (bit_cleared c.args.items c.args.i c.ranges.items.fits)
