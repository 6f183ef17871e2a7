-- `views::choose_answer` meets its contract: one law at each way out. Assumes nothing.
use mathlib.Core.Path.{◌≡◌, refl, sym, ap, ap₂, ◌∙◌}
use Prim.Native.Nat.{ℕ}
use Rattle.std.specs.Prelude.{List, Result}
use Rattle.layout.specs.declared.Refusal.{Refusal}
use Rattle.layout.specs.declared.Survey.{Survey}
use Rattle.layout.specs.Answer.{survey_by_number}
use Rattle.scope.specs.Survey.{survey_of}
use Rattle.views.specs.Laws.Surveyed.{view_rising, view_stands}
use Rattle.views.specs.Choosing.{chosen_view}
use Rattle.views.specs.Laws.Choosing.{choose_unknown, choose_base, choose_correction, choose_both}
use Rattle.views.proofs.choose_answer.Goals as goal

-- what a survey says in the case that it is
in_case : (cat : ℕ) (s : List ℕ) {x y : Result Survey Refusal} → x ≡ y → survey_by_number x ≡ survey_of cat s → survey_by_number y ≡ survey_of cat s
in_case cat s e h = ap survey_by_number (sym e) ∙ h

pub returns-in-Err : goal.returns-in-Err
returns-in-Err c =
    let a = c.args in
    choose_base a.cat a.base.now a.correction.now a.item (sym c.is_known.ensures ∙ c.if-is_known.true) (in_case a.cat a.base.now c.in-Err.is c.survey.ensures) refl

pub returns-in-Err-survey : goal.returns-in-Err-survey
returns-in-Err-survey c =
    let a = c.args in
    choose_correction a.cat a.base.now a.correction.now a.item (sym c.is_known.ensures ∙ c.if-is_known.true)
    (in_case a.cat a.base.now c.in-Ok.is c.survey.ensures) refl (in_case a.cat a.correction.now c.in-Err-survey.is c.survey-then-is_known.ensures) refl

pub standing-x-requires : goal.standing-x-requires
standing-x-requires c = let a = c.args in view_rising a.cat a.base.now (in_case a.cat a.base.now c.in-Ok.is c.survey.ensures) refl

pub standing-y-requires : goal.standing-y-requires
standing-y-requires c = let a = c.args in view_rising a.cat a.correction.now (in_case a.cat a.correction.now c.in-Ok-survey.is c.survey-then-is_known.ensures) refl

pub returns-then-is_known : goal.returns-then-is_known
returns-then-is_known c =
    let a = c.args in
    let b = in_case a.cat a.base.now c.in-Ok.is c.survey.ensures in
    let d = in_case a.cat a.correction.now c.in-Ok-survey.is c.survey-then-is_known.ensures in
    c.chosen.ensures
    ∙ ap₂ chosen_view (c.standing-x.ensures ∙ view_stands a.cat a.base.now b a.item refl) (c.standing-y.ensures ∙ view_stands a.cat a.correction.now d a.item refl)
    ∙ choose_both a.cat a.base.now a.correction.now a.item (sym c.is_known.ensures ∙ c.if-is_known.true) b refl d refl

pub returns : goal.returns
returns c = let a = c.args in rw c.at.ensures (choose_unknown a.cat a.base.now a.correction.now a.item (sym c.is_known.ensures ∙ c.if-is_known.false))
