-- `spots::spot_at` meets its contract: the whole table is computed from the papers, one test. Assumes nothing.
use Rattle.std.proofs.Common.{◌≡◌, refl, ap, ◌∙◌, get_or, rules}
use Rattle.std.proofs.lemmas.Option.{unwrap_or-slice_get}
use Rattle.codec.specs.Line.{count}
use Rattle.codec.specs.Item.{slots_of, slots}
use Rattle.papers.specs.Cat048.{cat048}
use Rattle.papers.specs.Cat021.{cat021}
use Rattle.papers.specs.Cat007.{cat007}
use Rattle.lengths.specs.Lines.{items}
use Rattle.shapes.specs.Shapes.{item_at}
use Rattle.spots.specs.Spots.{spots_from, spots, spot_at}
use Rattle.spots.specs.declared.TheConstants.{SPOTS}
use Rattle.spots.proofs.spot_at.Goals as goal

spots_printed : SPOTS ≡ spots
unfolding spots spots_from item_at items slots slots_of count cat048 cat021 cat007
spots_printed = refl

pub returns : goal.returns
unfolding spot_at
returns c =
    let k = c.args.k in
    let found : c.unwrap_or.result ≡ get_or SPOTS k (0, 0) = search (rules, unwrap_or-slice_get) in
    found ∙ ap (λ t. get_or t k (0, 0)) spots_printed
