-- The whole record: category, names and row together are the guess's.
use Rattle.std.specs.Prelude.{◌≡◌, List, [], ◌++◌, ℕ, ◌-◌, T, ℤ, pos}
use Rattle.std.proofs.Common.{sym, ◌∙◌, subst}
use Rattle.std.proofs.Math.Path.{ap, ap₂}
use Rattle.std.proofs.Math.ListN.{length, replicate}
use Rattle.std.proofs.Math.Seq.{sets}
use Rattle.codec.specs.Radix.{total, cut, join, ones}
use Rattle.codec.specs.Field.{flags, row, Contents}
use Rattle.codec.proofs.Laws.Tests.{holds}
use Rattle.codec.proofs.Laws.Sets.{set_front}
use Rattle.codec.proofs.Laws.Field.{row_okay}
use Rattle.papers.specs.Names.{names_of}
use Rattle.papers.specs.Papers.{known, paper_of, items_of, all_slots, SLOTS}
use Rattle.papers.proofs.Laws.Papers.{few_items, few_slots}
use Rattle.layout.specs.declared.Record.{Record}
use Rattle.layout.specs.Record.{all_parts, all_numbers, flatten}
use Rattle.layout.specs.Laws.Record.{length_parts, length_numbers}
use Rattle.spots.specs.Spots.{spot_of}
use Rattle.spots.specs.Laws.Spots.{Spots, spots_right}
use Rattle.sheet.specs.Laws.Whole.{names_right}
use Rattle.guess.specs.Lines.{behind_feed, behind_feeds}
use Rattle.guess.specs.Guess.{value_in, row_in, names_in, indicator_of, indicator_in, category_in, contents_in, guess_of}
use Rattle.guess.proofs.Laws.Row.{names_length}
use Rattle.guess.proofs.Laws.Papers.{as_many}
use Rattle.guess.proofs.Laws.Whole.{category_in_lem, contents-made}
use Rattle.taken.specs.Items.{record_in}
use Rattle.taken.specs.Laws.Rows.{RowTaken, Row}
use Rattle.taken.specs.Laws.Names as taken

-- the names that stand in a value, as an indicator
names_told : (cat : ℕ) → T (known cat) → (w : List ℕ) → taken.Named 0 0 0 (spot_of cat) (items_of cat) w ≡ indicator_of (names_of cat) w
unfolding indicator_of cut total
names_told cat k w =
    ap (λ nms. join ones (sets (flags 0) 0 (names_in [] nms w))) (names_right cat (holds (known cat) k))
    ∙ ap (join ones) (set_front 0 8 (names_in [] (names_of cat) w) (length (names_of cat)) (names_length [] (names_of cat) w) (as_many cat k).1)

module _ (cat : ℕ) (k : T (known cat)) (t : List ℕ) where
  abbrev told : Contents
  told = contents_in cat t

  spots_are : Spots cat
  spots_are = spots_right cat (holds (known cat) k)

  -- the row of the code is the row of the guess
  row_told : (w : List ℕ) → w ≡ behind_feed t → (items : ℕ) → items ≡ told.0 → Row (flags items) (spot_of cat) 0 (items_of cat) w ≡ told.1
  unfolding contents_in
  row_told w ew items ei =
      ap₂ (λ its nms. row_in (flags items) its nms w) (spots_are).items_are (names_right cat (holds (known cat) k))
      ∙ ap₂ (λ j u. row_in (flags j) (paper_of cat) (names_of cat) u) ei ew

  row_fits : T ((row (flags told.0) (paper_of cat)).okay told.1)
  row_fits = row_okay (paper_of cat) (contents_in cat t) (contents-made cat k t)

  record_told : {items : ℕ} {ps : List ℕ} {m : List ℤ} → items ≡ told.0 → {w : List ℕ} → w ≡ behind_feed t → RowTaken (flags items) (spot_of cat) 0 (items_of cat) w (replicate 8 0) (replicate SLOTS (pos 0)) ps m
      → ◌≡◌ {A = Record} (record { cat = cat; items = items; parts = ps; numbers = m }) (flatten cat (paper_of cat) told)
  unfolding flatten
  record_told {items} {ps} {m} ei {w} ew g =
      let er : Row (flags items) (spot_of cat) 0 (items_of cat) w ≡ told.1 = row_told w ew items ei in
      let ep : ps ≡ all_parts told.1 ++ replicate (8 - length (paper_of cat)) 0
      = g.0 ∙ ap (λ r. sets (replicate 8 0) 0 (all_parts r)) er ∙ set_front 0 8 (all_parts told.1) (length (paper_of cat)) (length_parts (flags told.0) (paper_of cat) told.1 row_fits) (few_items cat) in
      let en : m ≡ all_numbers told.1 ++ replicate (SLOTS - all_slots (paper_of cat)) (pos 0)
      = g.1 ∙ ap₂ (λ j r. sets (replicate SLOTS (pos 0)) j (all_numbers r)) (spots_are).begins er
      ∙ set_front (pos 0) SLOTS (all_numbers told.1) (all_slots (paper_of cat)) (length_numbers (flags told.0) (paper_of cat) told.1 row_fits) (few_slots cat) in
      λ i. record { cat = cat; items = ei i; parts = ep i; numbers = en i }

pub record_is : (t : List ℕ) {cat first n items : ℕ} {u v w ps : List ℕ} {m : List ℤ} → cat ≡ category_in t → first ≡ spot_of cat → n ≡ items_of cat → u ≡ behind_feeds 2 t → v ≡ value_in u
    → items ≡ taken.Named 0 0 0 first n v → w ≡ behind_feed u → RowTaken (flags items) first 0 n w (replicate 8 0) (replicate SLOTS (pos 0)) ps m
    → ◌≡◌ {A = Record} (record { cat = cat; items = items; parts = ps; numbers = m }) (record_in t)
unfolding record_in guess_of contents_in indicator_in
record_is t {cat} {first} {n} {items} {u} {v} {w} {ps} {m} ec ef en eu ev ei ew g =
    let k : T (known cat) = subst (λ c. T (known c)) (sym ec) (category_in_lem t) in
    let ej : items ≡ indicator_in (names_of cat) (behind_feeds 2 t)
    = ei ∙ ap₂ (λ a b. taken.Named 0 0 0 a b v) ef en ∙ names_told cat k v ∙ ap (indicator_of (names_of cat)) (ev ∙ ap value_in eu) in
    record_told cat k (behind_feeds 2 t) ej (ew ∙ ap behind_feed eu) (subst (λ a. RowTaken (flags items) a 0 (items_of cat) w (replicate 8 0) (replicate SLOTS (pos 0)) ps m) ef (subst (λ b. RowTaken (flags items) first 0 b w (replicate 8 0) (replicate SLOTS (pos 0)) ps m) en g))
    ∙ ap (λ c. flatten c (paper_of c) (contents_in c (behind_feeds 2 t))) ec
