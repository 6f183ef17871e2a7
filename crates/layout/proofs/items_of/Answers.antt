-- `layout::items_of` meets its contract, by the law of each category. Assumes nothing.
use mathlib.Core.Path.{sym, ap, ◌∙◌}
use borrow.Author.Rules.{rules}
use lib.ListN.{length}
use Rattle.papers.proofs.Laws.Papers.{paper_048, paper_021, paper_007, paper_none, numbers_048, numbers_021, numbers_007, numbers_none}
use Rattle.layout.proofs.items_of.Goals as goal

pub returns-in-48 : goal.returns-in-48
returns-in-48 c = sym (ap length (paper_048 c.args.cat c.in-48.is).0 ∙ numbers_048.0)

pub returns-in-21 : goal.returns-in-21
returns-in-21 c = sym (ap length (paper_021 c.args.cat c.in-21.is).0 ∙ numbers_021.0)

pub returns-in-7 : goal.returns-in-7
returns-in-7 c = sym (ap length (paper_007 c.args.cat c.in-7.is).0 ∙ numbers_007.0)

pub returns-in_default : goal.returns-in_default
returns-in_default c = sym (ap length (paper_none c.args.cat (search rules) (search rules) (search rules)).0 ∙ numbers_none.0)
