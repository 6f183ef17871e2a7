-- The items of a row: how many numbers each has, and what one more adds.
use Rattle.std.specs.Prelude.{◌≡◌, refl, Bool, List, [], ◌∷◌, ◌++◌, ℕ, drop}
use Rattle.std.proofs.Common.{sym, ap, ◌∙◌, append_assoc, append-nil}
use Rattle.codec.specs.Codec.{opt}
use Rattle.codec.specs.Line.{Held}
use Rattle.codec.specs.Item.{slots, nothing, item}
use Rattle.codec.proofs.Laws.Long.{LongBy, many, long_shift, long_opt, long_item}
use Rattle.layout.specs.Record.{all_parts, all_numbers}
use Rattle.spots.specs.Spots.{item_on}
use Rattle.reader.specs.Rows.{place_run}

pub place_many : (k : ℕ) (t : Bool) (xs : List ℕ) (at : ℕ) → LongBy many (slots (item_on k)) (place_run k t xs at)
unfolding place_run
place_many k t xs at =
    long_shift many (slots (item_on k)) at ((opt (nothing (slots (item_on k))) t (item (item_on k))).read (drop at xs))
    ((long_opt (slots (item_on k)) t (item (item_on k)) (long_item (item_on k))).long (drop at xs))

-- what one item more adds

pub all_numbers_one : (vs : List Held) (v : Held) → all_numbers (vs ++ (v ∷ [])) ≡ all_numbers vs ++ v.1
unfolding all_numbers
all_numbers_one [] v = append-nil v.1
all_numbers_one (w ∷ vs) v = ap (w.1 ++◌) (all_numbers_one vs v) ∙ sym (append_assoc w.1 (all_numbers vs) v.1)

pub all_parts_one : (vs : List Held) (v : Held) → all_parts (vs ++ (v ∷ [])) ≡ all_parts vs ++ (v.0 ∷ [])
unfolding all_parts
all_parts_one [] v = refl
all_parts_one (w ∷ vs) v = ap (w.0 ∷◌) (all_parts_one vs v)
