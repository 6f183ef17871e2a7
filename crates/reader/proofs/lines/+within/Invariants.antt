use Rattle.reader.proofs.lines.+within.Given as goal

abbrev pub decreases-within : goal.decreases-within
decreases-within l = l.left
