-- The whole field, check by check in 01's order, with the place behind each item.
use Rattle.std.specs.Prelude.{List, [], ◌∷◌, ℕ, suc, ltb, eqb, length, get_or, take, drop}
use Rattle.codec.specs.Pick.{pick}
use Rattle.codec.specs.Codec.{Res, got, bad}
use Rattle.codec.specs.Field.{flags, all_zero}
use Rattle.codec.specs.Frame.{Outcome, accepted, refused}
use Rattle.papers.specs.Papers.{known, items_of}
use Rattle.spots.specs.Spots.{spot_of}
use Rattle.reader.specs.Rows.{Found, row_from}

-- ---- the items of a field whose octets are xs, all up to LEN

unfoldable pub ends : ℕ → Res Found → Outcome Found
ends len (got f e) = pick (eqb e len) (accepted f) (refused 9 e)
ends len (bad e p) = refused e p

unfoldable pub items_in : ℕ → ℕ → List ℕ → Outcome Found
unfolding ends
items_in cat ind xs = pick (all_zero (drop (items_of cat) (flags ind))) (ends (length xs) (row_from (spot_of cat) (items_of cat) (flags ind) xs 2)) (refused 4 1)

-- every check of the reader
unfoldable pub walk_of : ℕ → List ℕ → Outcome Found
unfolding items_in
walk_of cat [] = pick (known cat) (refused 2 0) (refused 1 0)
walk_of cat (len ∷ t) =
    pick (known cat)
    (pick (ltb len 2) (refused 3 0) (pick (ltb (suc (length t)) len) (refused 2 0) (items_in cat (get_or (len ∷ t) 1 0) (take len (len ∷ t)))))
    (refused 1 0)
