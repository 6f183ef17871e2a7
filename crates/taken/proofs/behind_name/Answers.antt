-- The word of the item's spot behind the comma.
use Rattle.std.proofs.Common.{◌≡◌, ◌++◌, refl, sym, map, ap, ap₂, ◌∙◌, subst}
use Rattle.papers.specs.Names.{text, names048, names021, names007}
use Rattle.spots.specs.declared.Spot.{Spot}
use Rattle.sheet.specs.Items.{named, named_at}
use Rattle.sheet.specs.Rows.{named_on}
use Rattle.guess.specs.Guess.{begins}
use Rattle.walk.specs.Lines.{words_in}
use Rattle.taken.specs.Laws.Tables.{name_of, name_word}
use Rattle.taken.specs.Items.{Behind}
use Rattle.taken.specs.Laws.Names.{comma_other, name_behind}
use Rattle.taken.proofs.behind_name.Goals as goal

names_are : words_in (text "MD5 M5N M4E RPC ERR BPS SelH NAV GAO SGV STA TNH MES TA") ≡ map name_of named
unfolding words_in named names048 names021 names007
names_are = refl

pub returns-in_err-strip_prefix : goal.returns-in_err-strip_prefix
returns-in_err-strip_prefix c =
    let name = (named_on c.args.k).name in
    rw c.from_residual.ensures
    (ap (λ v. begins (v ++ name) c.args.t.now) (sym c.front.ensures) ∙ comma_other c.front.result.now name c.args.t.now c.in_err-strip_prefix.ensures.cases)

pub returns : goal.returns
returns c =
    let named = name_word _ names_are c.wide.result c.word.ensures ∙ ap (λ k. (named_at k).name) (c.wide.ensures.0 ∙ ap (λ (z : Spot). z.0) c.spot_at-spot.ensures) in
    let there = c.in_ok-strip_prefix.ensures.cases in
    subst (λ w. Behind w c.args.t.now c.strip_prefix-2.result) (ap₂ ◌++◌ c.front.ensures named) (name_behind c.front.result.now c.word.result.now c.args.t.now there.0 there.1 c.strip_prefix-2.result c.strip_prefix-2.ensures.cases)
