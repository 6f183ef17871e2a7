use Rattle.writer.proofs.lines.Laying.+spill.Given as goal

abbrev pub decreases-spill : goal.decreases-spill
decreases-spill l = l.k
