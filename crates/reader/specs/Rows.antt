-- The row of items, read from the left, with the place behind each.
use Rattle.std.specs.Prelude.{Bool, List, [], ◌∷◌, ℕ, zero, suc, ◌+◌, eqb}
use Rattle.codec.specs.Codec.{Res, got, bad, opt}
use Rattle.codec.specs.Line.{Held}
use Rattle.codec.specs.Item.{slots, nothing, item}
use Rattle.codec.specs.Field.{first_flag, next_flags}
use Rattle.spots.specs.Spots.{item_on}
use Rattle.reader.specs.Steps.{run}

unfoldable pub place_run : ℕ → Bool → List ℕ → ℕ → Res Held
place_run k there xs at = run (opt (nothing (slots (item_on k))) there (item (item_on k))).read xs at

-- what each item holds, and the place behind it
abbrev pub Found : Type 0
Found = List Held × List ℕ

abbrev pub found : Held → ℕ → Res Found → Res Found
found v m (got f e) = got (v ∷ f.0, m ∷ f.1) e
found v m (bad e p) = bad e p

abbrev pub go_on : Res Held → (ℕ → Res Found) → Res Found
go_on (got v m) rest = found v m (rest m)
go_on (bad e p) rest = bad e p

-- n items from spot k on, by their flags
unfoldable pub row_from : ℕ → ℕ → List ℕ → List ℕ → ℕ → Res Found
unfolding first_flag next_flags
row_from k zero ds xs at = got ([], []) at
row_from k (suc n) ds xs at = go_on (place_run k (eqb (first_flag ds) 1) xs at) (λ m. row_from (k + 1) n (next_flags ds) xs m)
