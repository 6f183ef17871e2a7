-- `layout::is_known` meets its contract, by the law of each category. Assumes nothing.
use mathlib.Core.Path.{sym}
use mathlib.Core.Logic.{⊎_elim}
use borrow.Author.Rules.{rules}
use Rattle.papers.proofs.Laws.Papers.{paper_048, paper_021, paper_007, paper_none}
use Rattle.layout.proofs.is_known.Goals as goal

pub returns-in-48 : goal.returns-in-48
returns-in-48 c =
    ⊎_elim (λ e. sym (paper_007 c.args.cat e).1)
    (⊎_elim (λ e. sym (paper_021 c.args.cat e).1) (λ e. sym (paper_048 c.args.cat e).1))
    c.in-48.is

pub returns-in_default : goal.returns-in_default
returns-in_default c = sym (paper_none c.args.cat (search rules) (search rules) (search rules)).1
