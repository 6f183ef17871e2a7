-- The requests as code has them: the form of the number 0 is `Read`, and so on.
use Rattle.std.specs.Prelude.{List, [], ◌∷◌, ℕ, Option, Some, None, Result, Ok, Err, get_or, drop}
use Rattle.codec.specs.Pick.{pick}
use Rattle.protocol.specs.Line.{nth, same}
use Rattle.protocol.specs.Forms.{first_wrong, wrong_word, Judged, Asks, Wrong, Parse}
use Rattle.protocol.specs.declared.Request.{Request}
use Rattle.protocol.specs.declared.Request.TheVariants.{Read, Write, Sheet, View, Choose, Remove, Replace, Copy, Rebuild}
use Rattle.protocol.specs.declared.Parsed.{Parsed}
use Rattle.protocol.specs.declared.Row.{Row}

abbrev pub number_of : Request → ℕ
number_of Read = 0
number_of Write = 1
number_of Sheet = 2
number_of View = 3
number_of Choose = 4
number_of Remove = 5
number_of Replace = 6
number_of Copy = 7
number_of Rebuild = 8

-- in the order of the forms
abbrev pub requests : List Request
requests = Read ∷ Write ∷ Sheet ∷ View ∷ Choose ∷ Remove ∷ Replace ∷ Copy ∷ Rebuild ∷ []

abbrev pub request_of : ℕ → Request
request_of q = get_or requests q Rebuild

abbrev pub judgement : Judged → Result Request ℕ
judgement (Asks q) = Ok (request_of q)
judgement (Wrong n) = Err n

abbrev pub parsed : Parse → Parsed
parsed p = record { judged = judgement p.judged; starts = p.starts }

-- a request, unless a word is wrong
abbrev pub asked_or : Request → Option ℕ → Result Request ℕ
asked_or r None = Ok r
asked_or r (Some n) = Err n

-- the words of a line by the rows of a table
unfoldable pub judged_in : List Row → List (List ℕ) → Result Request ℕ
judged_in [] ws = Err 1
judged_in (f ∷ fs) ws = pick (same (nth ws 0) f.name.now) (asked_or f.request (wrong_word (first_wrong f.kinds.now (drop 1 ws) 2))) (judged_in fs ws)
