-- 12 and 13: what the desk asks of an edit beside the field.
use Rattle.std.specs.Prelude.{ℕ, Result, Ok, Err}
use Rattle.codec.specs.Pick.{pick}
use Rattle.papers.specs.Papers.{paper_of}
use Rattle.layout.specs.declared.Refusal.{Refusal}
use Rattle.layout.specs.Answer.{reason_number}
use Rattle.scope.specs.Views.{is_item}
use Rattle.scope.specs.Desk.{listed}

-- ---- the item and the list: the refusal's number, 0 for none

unfoldable pub asked_of : ℕ → ℕ → ℕ → ℕ
asked_of cat list item = pick (is_item (paper_of cat) item) (pick (listed list item) 0 13) 12

-- a refusal's number and its place, 0 and 0 for none
abbrev pub refusal_number : {A : Type 0} → Result A Refusal → ℕ × ℕ
refusal_number (Ok x) = (0, 0)
refusal_number (Err r) = (reason_number r.reason, r.place)
