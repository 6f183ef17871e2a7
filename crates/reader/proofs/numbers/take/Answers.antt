-- `reader::numbers::take` meets its contract: the pieces of the line's format are those of the line. Assumes nothing.
use native.Mathlib.Omega.{arith}
use mir.Facts.{Fits-of_lt}
use Rattle.lengths.specs.Laws.Formats.{format_octets, format_few, format_runs, format_narrow, format_first}
use Rattle.reader.specs.Laws.Lines.{row_room}
use Rattle.reader.specs.Laws.Taking.{line_taken}
use Rattle.reader.proofs.numbers.take.Goals as goal

pub octets-n-requires : goal.octets-n-requires
octets-n-requires c =
    (omega (arith, c.requires.0, format_octets c.args.b c.format_of-format.ensures), format_few c.args.b c.format_of-format.ensures)

pub overflow_mul-k : goal.overflow_mul-k
overflow_mul-k c = Fits-of_lt (omega (arith, format_few c.args.b c.format_of-format.ensures))

pub overflow_add-base : goal.overflow_add-base
overflow_add-base c =
    Fits-of_lt (omega (arith, c.requires.1, format_first c.args.b c.format_of-format.ensures))

pub store-requires : goal.store-requires
store-requires c =
    let b = c.args.b in let e = c.format_of-format.ensures in
    (omega (arith, format_few b e), format_runs b e, format_narrow b e, omega (arith, row_room b e c.octets-n.result c.args.base c.requires.1))

pub overflow_add-result : goal.overflow_add-result
overflow_add-result c =
    omega (arith, c.requires.0, format_octets c.args.b c.format_of-format.ensures)

pub returns : goal.returns
returns c =
    let a = c.args in
    line_taken a.s.now a.at a.b a.base a.numbers.now c.format_of-format.ensures c.requires.0 c.octets-n.ensures c.store.ensures
