use Rattle.writer.proofs.lines.Laying.+chain.Given as goal

abbrev pub decreases-chain : goal.decreases-chain
decreases-chain l = l.left
