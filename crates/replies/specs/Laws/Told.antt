-- A result of the operations is the same answer by its refusal as told and by its reason's number, so where the one is typed the other is.
use Rattle.std.specs.Prelude.{◌≡◌, refl, List, ℕ, Result, Ok, Err}
use Rattle.std.proofs.Common.{subst, ◌∙◌}
use Rattle.std.proofs.Math.Path.{ap}
use Rattle.layout.specs.Answer.{Answer, View, Rebuilding, by_number, view_by_number, choice_by_number, reading_by_number, rebuilt_by_number}
use Rattle.layout.specs.declared.Refusal.{Refusal}
use Rattle.layout.specs.declared.Part.{Part}
use Rattle.layout.specs.declared.Rebuilt.{Rebuilt}
use Rattle.layout.specs.declared.Reading.{Reading as Given}
use Rattle.layout.specs.declared.Choice.{Choice as Chosen}
use Rattle.text.specs.Typing.{Types}
use Rattle.replies.specs.Texts.{left_text, rebuilt_text, view_text, choice_text, reading_text}
use Rattle.replies.specs.Told.{with_told, told_answer, told_reading, told_view, told_choice, told_rebuilt}
use Rattle.replies.specs.declared.Told.{Told}

same_answer : (a : Result ℕ Refusal) → told_answer (with_told a) ≡ by_number a
same_answer (Ok n) = refl
same_answer (Err r) = refl

same_view : (v : Result Part Refusal) → told_view (with_told v) ≡ view_by_number v
same_view (Ok p) = refl
same_view (Err r) = refl

same_rebuilt : (b : Result Rebuilt Refusal) → told_rebuilt (with_told b) ≡ rebuilt_by_number b
same_rebuilt (Ok r) = refl
same_rebuilt (Err r) = refl

module _ {l m : List ℕ} {at last : ℕ} where
  pub left_told : (a : Result ℕ Refusal) (out : List ℕ) {b : Result ℕ Told} → b ≡ with_told a → Types (left_text (told_answer b) out) l at m last → Types (left_text (by_number a) out) l at m last
  left_told a out e = subst (λ (x : Answer). Types (left_text x out) l at m last) (ap told_answer e ∙ same_answer a)

  pub rebuilt_told : (a : Result Rebuilt Refusal) (out : List ℕ) {b : Result Rebuilt Told} → b ≡ with_told a
      → Types (rebuilt_text (told_rebuilt b).cat (told_rebuilt b).answer out) l at m last → Types (rebuilt_text (rebuilt_by_number a).cat (rebuilt_by_number a).answer out) l at m last
  rebuilt_told a out e = subst (λ (x : Rebuilding). Types (rebuilt_text x.cat x.answer out) l at m last) (ap told_rebuilt e ∙ same_rebuilt a)

  pub view_told : (v : Result Part Refusal) (s : List ℕ) {b : Result Part Told} → b ≡ with_told v → Types (view_text (told_view b) s) l at m last → Types (view_text (view_by_number v) s) l at m last
  view_told v s e = subst (λ (x : View). Types (view_text x s) l at m last) (ap told_view e ∙ same_view v)

  pub choice_told : (c : Chosen) (s : List ℕ) {b : Result Part Told} → b ≡ with_told c.view → Types (choice_text (told_choice c.which b) s) l at m last → Types (choice_text (choice_by_number c) s) l at m last
  choice_told c s e = subst (λ (x : View). Types (choice_text (record { which = c.which; view = x }) s) l at m last) (ap told_view e ∙ same_view c.view)

  pub reading_told : (r : Given) {b : Result ℕ Told} → b ≡ with_told r.answer → Types (reading_text (told_reading b r.kept)) l at m last → Types (reading_text (reading_by_number r)) l at m last
  reading_told r e = subst (λ (x : Answer). Types (reading_text (record { answer = x; kept = r.kept })) l at m last) (ap told_answer e ∙ same_answer r.answer)
