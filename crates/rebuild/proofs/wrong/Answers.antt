-- `rebuild::wrong` meets its contract: what is compared is the sheet with its second line exchanged. Assumes nothing.
use mathlib.Core.Path.{ap, ◌∙◌}
use mathlib.Core.List.{◌∷◌}
use native.Mathlib.Omega.{arith}
use Rattle.codec.specs.Codec.{Octets}
use Rattle.codec.proofs.Laws.Codec.{octets_cons, octets_all}
use Rattle.sheet.specs.Laws.Whole.{sheet_held}
use Rattle.guess.specs.Lines.{behind_feeds}
use Rattle.compare.specs.Lines.{line_of}
use Rattle.rebuild.specs.Laws.Rebuilds.{wrong_typed}
use Rattle.rebuild.proofs.wrong.Goals as goal

pub returns : goal.returns
returns c =
    let a = c.args in
    let f = a.field.now in
    let o : Octets (a.cat ∷ f) = octets_cons a.cat f (omega (arith, c.ranges.cat)) (octets_all f (λ i. omega (arith, c.type_inv.field i))) in
    λ n r e.
    c.first_wrong.ensures
    ∙ ap line_of (wrong_typed a.cat a.len f a.text.now o c.new-exchanged.ensures c.pair.ensures c.pair-2.ensures
    (c.skip.ensures ∙ ap (behind_feeds 2) (sheet_held _ o c.new-own.ensures c.listed.ensures c.as_slice.ensures)) c.word.ensures c.as_slice-2.ensures n r e)
