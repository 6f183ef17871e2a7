-- `writer::checked` meets its contract: what was laid is read back. Assumes nothing.
use Rattle.writer.proofs.checked.Goals as goal

pub returns : goal.returns
returns c = c.reads_back.ensures.checked c.lay.ensures
