-- `flags::bit` meets its contract. Assumes nothing.
use Rattle.std.proofs.Common.{sym}
use Rattle.flags.proofs.Bits.{none_past}
use Rattle.flags.proofs.bit.Goals as goal

pub returns : goal.returns
returns c = sym (none_past c.args.i c.if-i-lt8.false)
