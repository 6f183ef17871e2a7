use Rattle.writer.proofs.lines.+gather.Given as goal

abbrev pub decreases-gather : goal.decreases-gather
decreases-gather l = l.left
