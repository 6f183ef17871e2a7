-- A row of items by their places alone, and the survey of a field by it.
use Rattle.std.specs.Prelude.{◌≡◌, Bool, List, [], ◌∷◌, ◌++◌, ℕ, zero, suc, ◌+◌, ◌-◌, eqb, replicate, Result, Ok, Err}
use Rattle.codec.specs.Pick.{pick}
use Rattle.codec.specs.Codec.{Res, got, bad}
use Rattle.codec.specs.Line.{Held}
use Rattle.codec.specs.Field.{first_flag, next_flags}
use Rattle.codec.specs.Frame.{Outcome, accepted, refused}
use Rattle.layout.specs.Answer.{Accepted, Refused, Surveyed}
use Rattle.reader.specs.declared.lines.Stop.{Stop}
use Rattle.reader.specs.declared.places.Places.{Places}
use Rattle.reader.specs.Rows.{place_run, Found}
use Rattle.reader.specs.Seen.{Ends, step_number}

-- the places behind some items, and then behind one more, if it is there
abbrev pub behind_all : List ℕ → Res Held → Res (List ℕ)
behind_all ps (got v m) = got (ps ++ (m ∷ [])) m
behind_all ps (bad e p) = bad e p

abbrev pub add_place : ℕ → Bool → List ℕ → Res (List ℕ) → Res (List ℕ)
add_place k t xs (got ps at) = behind_all ps (place_run k t xs at)
add_place k t xs (bad e p) = bad e p

-- n items from spot k on, the first of them behind LEN and the indicator
unfoldable pub places_on : ℕ → ℕ → List ℕ → List ℕ → Res (List ℕ) → Res (List ℕ)
unfolding first_flag next_flags
places_on k zero ds xs x = x
places_on k (suc n) ds xs x = places_on (k + 1) n (next_flags ds) xs (add_place k (eqb (first_flag ds) 1) xs x)

unfoldable pub places_from : ℕ → ℕ → List ℕ → List ℕ → Res (List ℕ)
unfolding places_on
places_from k n ds xs = places_on k n ds xs (got (2 ∷ []) 2)

-- what the code of a row of n items gives: its step, and where it ends the places, zeros behind them
abbrev pub end_of : Result Places Stop → Result ℕ Stop
end_of (Ok p) = Ok p.0
end_of (Err e) = Err e

pub record RowSeen (x : Res (List ℕ)) (n : ℕ) (r : Result Places Stop) : Type 0 where
  pub step : Ends x (step_number (end_of r))
  pub places : (p : Places) → r ≡ Ok p → (ps : List ℕ) (m : ℕ) → x ≡ got ps m → p.1 ≡ ps ++ replicate (8 - n) 0

-- the survey of a field of n items and len octets
abbrev pub unplaced_of : ℕ → ℕ → Surveyed
unplaced_of e p = record { answer = Refused e p; items = 0; starts = replicate 9 0 }

abbrev pub surveyed_by : ℕ → ℕ → ℕ → Outcome Found → Surveyed
surveyed_by n len ind (accepted f) = record { answer = Accepted len; items = ind; starts = (2 ∷ f.1) ++ replicate (8 - n) 0 }
surveyed_by n len ind (refused e p) = unplaced_of e p

-- and the survey by the row
unfoldable pub closed_of : Places → ℕ → ℕ → Surveyed
closed_of r ind len = pick (eqb r.0 len) (record { answer = Accepted r.0; items = ind; starts = r.1 }) (unplaced_of 9 r.0)
