-- A refusal as an answer tells it, and which of the answers with numbers each result with such a refusal is.
use Rattle.std.specs.Prelude.{ℕ, Result, Ok, Err}
use Rattle.layout.specs.Answer.{Answer, Accepted, Refused, Reading, View, Shown, Hidden, Choice, Rebuilding, reason_number}
use Rattle.layout.specs.declared.Refusal.{Refusal}
use Rattle.layout.specs.declared.Record.{Record}
use Rattle.layout.specs.declared.Part.{Part}
use Rattle.layout.specs.declared.Which.{Which}
use Rattle.layout.specs.declared.Rebuilt.{Rebuilt}
use Rattle.replies.specs.declared.Told.{Told}

-- a refusal of the operations: the number of its reason, and its place
abbrev pub as_told : Refusal → Told
as_told r = record { number = reason_number r.reason; place = r.place }

-- a result of theirs, its refusal told
abbrev pub with_told : {T : Type 0} → Result T Refusal → Result T Told
with_told (Ok x) = Ok x
with_told (Err r) = Err (as_told r)

abbrev pub told_answer : Result ℕ Told → Answer
told_answer (Ok n) = Accepted n
told_answer (Err t) = Refused t.number t.place

abbrev pub told_reading : Result ℕ Told → Record → Reading
told_reading a f = record { answer = told_answer a; kept = f }

abbrev pub told_view : Result Part Told → View
told_view (Ok v) = Shown v.start v.length
told_view (Err t) = Hidden t.number t.place

abbrev pub told_choice : Which → Result Part Told → Choice
told_choice which v = record { which = which; view = told_view v }

abbrev pub told_rebuilt : Result Rebuilt Told → Rebuilding
told_rebuilt (Ok r) = record { cat = r.cat; answer = Accepted r.len }
told_rebuilt (Err t) = record { cat = 0; answer = Refused t.number t.place }
