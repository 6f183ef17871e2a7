-- A field that was accepted: its row, how many numbers and places each item of it has, and what it holds.
use Rattle.std.specs.Prelude.{◌≡◌, refl, Bool, true, false, List, [], ◌∷◌, ℕ, zero, suc, ◌+◌, ◌≤◌, ◌<◌, ltb, eqb, pos, length, get_or, take, drop, replicate}
use Rattle.std.proofs.Common.{sym, ap, ap₂, ◌∙◌, subst, not-suc-le-zero, le_of_suc-le-suc, arith, ltb-false, eqb-true, length-append}
use Rattle.std.proofs.lemmas.List.{length-replicate}
use Rattle.codec.specs.Pick.{pick}
use Rattle.codec.specs.Codec.{Res, got, bad}
use Rattle.codec.specs.Line.{Held}
use Rattle.codec.specs.Item.{slots}
use Rattle.codec.specs.Field.{first_flag, next_flags, flags, all_zero}
use Rattle.codec.specs.Frame.{accepted, refused}
use Rattle.codec.specs.Meaning.{len_of}
use Rattle.codec.proofs.Laws.Long.{LongBy, many}
use Rattle.codec.proofs.Laws.Frame.{map_outcome}
use Rattle.papers.specs.Papers.{known, items_of, SLOTS, all_slots}
use Rattle.layout.specs.Record.{all_numbers}
use Rattle.scope.specs.Reading.{field_of}
use Rattle.spots.specs.Spots.{spot_of, item_on, items_from}
use Rattle.spots.specs.Laws.Rows.{first_drop}
use Rattle.reader.specs.Slots.{Ready}
use Rattle.reader.specs.Rows.{place_run, Found, found, go_on, row_from}
use Rattle.reader.specs.Laws.Rows.{place_many}
use Rattle.reader.specs.Fields.{ends, items_in, walk_of}
use Rattle.reader.specs.Laws.Fields.{field_walk}

-- ---- arrays of zeros

pub ready_zeros : Ready (replicate SLOTS (pos 0)) 0
ready_zeros = record { len = length-replicate SLOTS (pos 0); zeros = λ j h. zero_at SLOTS j }
  where
    zero_at : (n j : ℕ) → get_or (replicate n (pos 0)) j (pos 0) ≡ pos 0
    zero_at zero j = refl
    zero_at (suc n) zero = refl
    zero_at (suc n) (suc j) = zero_at n j

-- ---- a row that was found: how many it has, and each item by its index

pub record Sized (k n : ℕ) (ds xs : List ℕ) (at : ℕ) (f : Found) : Type 0 where
  pub all : length f.0 ≡ n
  pub places : length f.1 ≡ n
  pub numbers : length (all_numbers f.0) ≡ all_slots (items_from k n)
  pub each : (i : ℕ) → i < n → place_run (k + i) (eqb (get_or ds i 0) 1) xs (get_or (at ∷ f.1) i 0) ≡ got (get_or f.0 i (0, [])) (get_or f.1 i 0)

abbrev pub RowSized : ℕ → ℕ → List ℕ → List ℕ → ℕ → Res Found → Type 0
RowSized k n ds xs at (got f e) = Sized k n ds xs at f
RowSized k n ds xs at (bad e p) = Unit {0}

next_flag : (ds : List ℕ) (i : ℕ) → get_or ds (suc i) 0 ≡ get_or (next_flags ds) i 0
unfolding next_flags
next_flag [] i = refl
next_flag (d ∷ ds) i = refl

pub row_sized : (k n : ℕ) (ds xs : List ℕ) (at : ℕ) → RowSized k n ds xs at (row_from k n ds xs at)
unfolding row_from items_from all_slots all_numbers
row_sized k zero ds xs at = record { all = refl; places = refl; numbers = refl; each = λ i h. absurd (not-suc-le-zero h) }
row_sized k (suc n) ds xs at = by (λ m. row_sized (k + 1) n (next_flags ds) xs m) (place_run k (eqb (first_flag ds) 1) xs at) refl
  where
    next : (v : Held) (m : ℕ) → place_run k (eqb (first_flag ds) 1) xs at ≡ got v m → (x : Res Found) → RowSized (k + 1) n (next_flags ds) xs m x → RowSized k (suc n) ds xs at (found v m x)
    next v m ev (bad e p) s = tt
    next v m ev (got f e) s = record {
      all = ap suc s.all;
      places = ap suc s.places;
      numbers = length-append v.1 (all_numbers f.0) ∙ ap₂ ◌+◌ (subst (LongBy many (slots (item_on k))) ev (place_many k (eqb (first_flag ds) 1) xs at)) s.numbers;
      each = at_index;
    }
      where
        at_index : (i : ℕ) → i < suc n → place_run (k + i) (eqb (get_or ds i 0) 1) xs (get_or (at ∷ m ∷ f.1) i 0) ≡ got (get_or (v ∷ f.0) i (0, [])) (get_or (m ∷ f.1) i 0)
        at_index zero h = ap₂ (λ j d. place_run j (eqb d 1) xs at) (omega arith) (sym (first_drop 0 ds)) ∙ ev
        at_index (suc i) h = ap₂ (λ j d. place_run j (eqb d 1) xs (get_or (m ∷ f.1) i 0)) (omega arith) (next_flag ds i) ∙ s.each i (le_of_suc-le-suc h)

    by : ((m : ℕ) → RowSized (k + 1) n (next_flags ds) xs m (row_from (k + 1) n (next_flags ds) xs m)) → (y : Res Held) → place_run k (eqb (first_flag ds) 1) xs at ≡ y → RowSized k (suc n) ds xs at (go_on y (λ m. row_from (k + 1) n (next_flags ds) xs m))
    by ih (bad e p) ey = tt
    by ih (got v m) ey = next v m ey (row_from (k + 1) n (next_flags ds) xs m) (ih m)

-- ---- a field that is accepted

pub record Walked (cat : ℕ) (s : List ℕ) (f : Found) : Type 0 where
  pub known_is : known cat ≡ true
  pub two : 2 ≤ length s
  pub whole : len_of s ≤ length s
  pub row_is : row_from (spot_of cat) (items_of cat) (flags (get_or s 1 0)) (take (len_of s) s) 2 ≡ got f (length (take (len_of s) s))

in_row : (cat ind : ℕ) (xs : List ℕ) (f : Found) → items_in cat ind xs ≡ accepted f → row_from (spot_of cat) (items_of cat) (flags ind) xs 2 ≡ got f (length xs)
unfolding items_in ends
in_row cat ind xs f e = go (all_zero (drop (items_of cat) (flags ind))) (row_from (spot_of cat) (items_of cat) (flags ind) xs 2) refl e
  where
    last : (g : Found) (j : ℕ) (b : Bool) → eqb j (length xs) ≡ b → pick b (accepted g) (refused 9 j) ≡ accepted f → ◌≡◌ {A = Res Found} (got g j) (got f (length xs))
    last g j true eb h = let a : g ≡ f = cc in ap₂ got a (eqb-true j (length xs) eb)
    last g j false eb h = let z : ◌≡◌ {A = ℕ} 0 1 = cc in absurd (omega arith)

    go : (t : Bool) (x : Res Found) → row_from (spot_of cat) (items_of cat) (flags ind) xs 2 ≡ x → pick t (ends (length xs) x) (refused 4 1) ≡ accepted f → row_from (spot_of cat) (items_of cat) (flags ind) xs 2 ≡ got f (length xs)
    go false x ex h = let z : ◌≡◌ {A = ℕ} 0 1 = cc in absurd (omega arith)
    go true (bad q p) ex h = let z : ◌≡◌ {A = ℕ} 0 1 = cc in absurd (omega arith)
    go true (got g j) ex h = ex ∙ last g j (eqb j (length xs)) refl h

pub walked : (cat : ℕ) (s : List ℕ) (f : Found) → walk_of cat s ≡ accepted f → Walked cat s f
unfolding walk_of len_of
walked cat [] f h = absurd (none (known cat) h)
  where
    none : (b : Bool) → pick b (refused 2 0) (refused 1 0) ≡ accepted f → ⊥
    none true h = let z : ◌≡◌ {A = ℕ} 0 1 = cc in absurd (omega arith)
    none false h = let z : ◌≡◌ {A = ℕ} 0 1 = cc in absurd (omega arith)
walked cat (len ∷ t) f h = go (known cat) refl (ltb len 2) refl (ltb (suc (length t)) len) refl h
  where
    go : (b : Bool) → known cat ≡ b → (x : Bool) → ltb len 2 ≡ x → (y : Bool) → ltb (suc (length t)) len ≡ y
        → pick b (pick x (refused 3 0) (pick y (refused 2 0) (items_in cat (get_or (len ∷ t) 1 0) (take len (len ∷ t))))) (refused 1 0) ≡ accepted f → Walked cat (len ∷ t) f
    go false eb x ex y ey h = let z : ◌≡◌ {A = ℕ} 0 1 = cc in absurd (omega arith)
    go true eb true ex y ey h = let z : ◌≡◌ {A = ℕ} 0 1 = cc in absurd (omega arith)
    go true eb false ex true ey h = let z : ◌≡◌ {A = ℕ} 0 1 = cc in absurd (omega arith)
    go true eb false ex false ey h =
        let a : 2 ≤ len = ltb-false len 2 ex in
        let b : len ≤ suc (length t) = ltb-false (suc (length t)) len ey in
        record { known_is = eb; two = omega arith; whole = b; row_is = in_row cat (get_or (len ∷ t) 1 0) (take len (len ∷ t)) f h }

pub found_sized : (cat : ℕ) (s : List ℕ) (f : Found) → Walked cat s f → Sized (spot_of cat) (items_of cat) (flags (get_or s 1 0)) (take (len_of s) s) 2 f
found_sized cat s f k = subst (RowSized (spot_of cat) (items_of cat) (flags (get_or s 1 0)) (take (len_of s) s) 2) k.row_is (row_sized (spot_of cat) (items_of cat) (flags (get_or s 1 0)) (take (len_of s) s) 2)

-- ---- what the field holds

pub field_found : (cat : ℕ) (s : List ℕ) (f : Found) → walk_of cat s ≡ accepted f → field_of cat s ≡ accepted (get_or s 1 0, f.0)
field_found cat s f e = field_walk cat s ∙ ap (map_outcome (λ (f : Found). (get_or s 1 0, f.0))) e

pub field_fell : (cat : ℕ) (s : List ℕ) {q r : ℕ} → walk_of cat s ≡ refused q r → field_of cat s ≡ refused q r
field_fell cat s e = field_walk cat s ∙ ap (map_outcome (λ (f : Found). (get_or s 1 0, f.0))) e
