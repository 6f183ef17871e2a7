-- `lengths::format_of` meets its contract: both tables are computed from the papers, a test each. Assumes nothing.
use Rattle.std.proofs.Common.{◌≡◌, refl, sym, ap, ◌∙◌, get_or, arith, rules}
use mathlib.Core.Path.{ap₂}
use Rattle.codec.specs.Line.{count}
use Rattle.codec.specs.Item.{lines_of}
use Rattle.codec.specs.Mask.{spares_of, mask_of, spare_mask}
use Rattle.papers.specs.Cat048.{printed048, cat048}
use Rattle.papers.specs.Cat021.{printed021, cat021}
use Rattle.papers.specs.Cat007.{printed007, cat007}
use Rattle.lengths.specs.Lines.{items, no_line, placed_from, placed_in, placed, kind_code, code_of, structures_in, structures, lengths, pieces, named, format_of}
use Rattle.lengths.specs.Laws.Lines.{lengths_at, pieces_at, past_lines}
use Rattle.lengths.specs.declared.TheConstants.{LENGTHS, PIECES}
use Rattle.lengths.proofs.format_of.Goals as goal

lengths_printed : LENGTHS ≡ lengths
unfolding lengths structures structures_in printed048 printed021 printed007 spares_of
lengths_printed = refl

pieces_printed : PIECES ≡ pieces
unfolding pieces placed placed_in placed_from lines_of items cat048 cat021 cat007 code_of kind_code count
pieces_printed = refl

pub returns-then-line-lt46 : goal.returns-then-line-lt46
returns-then-line-lt46 c =
    let b = c.args.line in
    ap₂ named (ap (λ t. get_or t b (0, 0)) lengths_printed ∙ lengths_at b) (ap (λ t. get_or t b (0, 0, 0, 0, 0)) pieces_printed ∙ pieces_at b)

pub returns : goal.returns
unfolding spare_mask mask_of code_of
returns c =
    let none : c.default.result ≡ format_of (no_line, 0) = search rules in
    none ∙ ap format_of (sym (past_lines c.args.line (omega arith)))
