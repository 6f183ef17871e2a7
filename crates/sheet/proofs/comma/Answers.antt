-- `sheet::comma` meets its contract. Assumes nothing.
use borrow.Author.Rules.{rules}
use Rattle.sheet.specs.Laws.Rows.{comma_none, comma_there}
use Rattle.sheet.proofs.comma.Goals as goal

pub returns-then-not-first : goal.returns-then-not-first
returns-then-not-first c = comma_there (search rules) c.octet.ensures

pub returns-else-not-first : goal.returns-else-not-first
returns-else-not-first c = comma_none (search rules) _ _
