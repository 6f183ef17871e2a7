-- `shapes::shape_at` meets its contract: the whole table is computed from the papers, one test. Assumes nothing.
use Rattle.std.proofs.Common.{◌≡◌, refl, ap, ◌∙◌, get_or, rules}
use Rattle.std.proofs.lemmas.Option.{unwrap_or-slice_get}
use Rattle.codec.specs.Item.{lines_of}
use Rattle.papers.specs.Cat048.{cat048}
use Rattle.papers.specs.Cat021.{cat021}
use Rattle.papers.specs.Cat007.{cat007}
use Rattle.lengths.specs.Lines.{items}
use Rattle.shapes.specs.Shapes.{NO_LINE, shape_of, shapes_from, shapes, shape_at}
use Rattle.shapes.specs.declared.TheConstants.{SHAPES}
use Rattle.shapes.proofs.shape_at.Goals as goal

shapes_printed : SHAPES ≡ shapes
unfolding shapes shapes_from shape_of lines_of items cat048 cat021 cat007
shapes_printed = refl

pub returns : goal.returns
unfolding shape_at
returns c =
    let k = c.args.k in
    let found : c.unwrap_or.result ≡ get_or SHAPES k (NO_LINE, 0, 0) = search (rules, unwrap_or-slice_get) in
    found ∙ ap (λ t. get_or t k (NO_LINE, 0, 0)) shapes_printed
