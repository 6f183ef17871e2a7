-- `text::Text::octets` meets its contract. The loop has typed the pairs of the octets passed. Assumes nothing.
use Rattle.std.proofs.Common.{rules}
use Rattle.text.specs.Laws.Hex.{no_pairs, pairs_more, hex_none, hex_whole}
use Rattle.text.proofs.Text.octets.Goals as goal

pub returns-then-is_empty : goal.returns-then-is_empty
returns-then-is_empty c = hex_none c.args.s.now (search rules) c.octet.ensures

pub loop-o-init : goal.loop-o-init
loop-o-init c = no_pairs c.args.s.now _ _

pub loop-o-preserved : goal.loop-o-preserved
loop-o-preserved c =
    pairs_more c.args.s.now c.loop-o.o-index c.loop-o-test.true c.loop-o.invariant c.hex_pair.ensures

pub returns : goal.returns
returns c = hex_whole c.args.s.now (search rules) c.loop-o.o-index c.loop-o-test.false c.loop-o.invariant
