-- What follows the `-` is the magnitude.
use Rattle.std.proofs.Common.{◌≡◌, ◌∷◌, ◌∙◌, []}
use Rattle.std.proofs.lemmas.Bool.Decides.{Decides-eqb}
use Rattle.std.proofs.lemmas.Slice.Eq.{strip_prefix_is}
use Rattle.words.specs.Laws.Numbers.{minus_none, minus_some, plain_none, plain_some}
use Rattle.words.proofs.signed.Goals.{In-Some, In-None}
use Rattle.words.proofs.signed.Goals as goal

minus : (c : In-Some) → c.args.word.now ≡ 45 ∷ c.in-Some.digits.now
minus c = rw c.in-Some.is at (strip_prefix_is Decides-eqb c.args.word.now (45 ∷ []) c.strip_prefix.result c.strip_prefix.ensures.cases)

plain : (c : In-None) (digits : _) → c.args.word.now ≡ 45 ∷ digits → ⊥
plain c = rw c.in-None.is at (strip_prefix_is Decides-eqb c.args.word.now (45 ∷ []) c.strip_prefix.result c.strip_prefix.ensures.cases)

pub returns-in_err-number-in-Some : goal.returns-in_err-number-in-Some
returns-in_err-number-in-Some c = c.from_residual.ensures ∙ minus_none _ _ (minus (goal.at.returns-in_err-number-in-Some c).In-Some) c.in_err-number-in-Some.ensures

pub returns-in_err-number-in-None : goal.returns-in_err-number-in-None
returns-in_err-number-in-None c =
    c.from_residual-in_err-number-in-None.ensures ∙ plain_none _ (plain (goal.at.returns-in_err-number-in-None c).In-None) c.in_err-number-in-None.ensures

pub returns-in_ok-number-in-Some : goal.returns-in_ok-number-in-Some
returns-in_ok-number-in-Some c = c.below.ensures ∙ minus_some _ _ (minus (goal.at.returns-in_ok-number-in-Some c).In-Some) c.in_ok-number-in-Some.ensures

pub returns-in_ok-number-in-None : goal.returns-in_ok-number-in-None
returns-in_ok-number-in-None c = plain_some _ (plain (goal.at.returns-in_ok-number-in-None c).In-None) c.in_ok-number-in-None.ensures
