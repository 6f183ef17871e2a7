-- `taken::line` meets its contract: a line's format tells its pieces and its slots. Assumes nothing.
use Rattle.taken.specs.Laws.Numbers.{line_asks, line_gives}
use Rattle.taken.proofs.line.Goals as goal

pub numbers-requires : goal.numbers-requires
numbers-requires c =
    line_asks c.args.b c.format_of-format.ensures c.args.base c.requires

pub returns : goal.returns
returns c =
    let a = c.args in
    let all = line_gives a.b c.format_of-format.ensures a.base c.step_of.ensures a.t.now a.out.now (c.numbers.ensures.behind, c.numbers.ensures.kept) in
    record { behind = all.0; kept = all.1 }
