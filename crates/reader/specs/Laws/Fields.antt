-- The whole field: what is found check by check is what 01 defines.
use Rattle.std.specs.Prelude.{◌≡◌, Bool, true, false, ℕ, zero, suc, ◌+◌, ◌-◌, ◌≤◌, ◌<◌, ltb, eqb, length, get_or, take, drop}
use Rattle.std.proofs.Math.Path.{refl, ap}
use Rattle.std.proofs.Common.{sym, ap₂, ◌∙◌, arith, length-take-le}
use mathlib.Core.List.{List, [], ◌∷◌}
use borrow.Author.Tests.{ltb-true, ltb-false, lt-ltb, le-ltb, eq-eqb, ne_eqb, eqb-true, eqb-false}
use Rattle.std.specs.Int.Bits.{bit_and}
use Rattle.codec.specs.Pick.{pick}
use Rattle.codec.specs.Codec.{Res, got, bad, map_res, shift, and_then, pair_up}
use Rattle.codec.specs.Line.{Held}
use Rattle.codec.specs.Field.{first_flag, next_flags, place, row, flags, all_zero, indicator, Contents, body}
use Rattle.codec.specs.Frame.{Outcome, accepted, refused, settle, read_frame}
use Rattle.codec.specs.Meaning.{len_of}
use Rattle.codec.proofs.Laws.Codec.{number_one}
use Rattle.codec.proofs.Laws.Frame.{map_outcome, frame_empty, frame_small, frame_short, frame_whole}
use Rattle.papers.specs.Papers.{known, paper_of, items_of, spare_of}
use Rattle.papers.proofs.Laws.Papers.{spare_places}
use Rattle.spots.specs.Spots.{spot_of, item_on, items_from}
use Rattle.spots.specs.Laws.Spots.{spots_right}
use Rattle.reader.specs.Steps.{run}
use Rattle.scope.specs.Reading.{field_of}
use Rattle.reader.specs.Laws.Steps.{run-map, run-then, then_at}
use Rattle.reader.specs.Rows.{place_run, Found, found, go_on, row_from}
use Rattle.reader.specs.Fields.{ends, items_in, walk_of}

-- ---- the row of spots is the row of the codec

held : Res Found → Res (List Held)
held x = map_res (λ (f : Found). f.0) x

held_goes : (y : Res Held) (g : ℕ → Res Found) → held (go_on y g) ≡ map_res (λ (p : Held × List Held). p.0 ∷ p.1) (then_at y (λ v m. map_res (pair_up v) (held (g m))))
unfolding held
held_goes (bad e p) g = refl
held_goes (got v m) g = by (g m)
  where
    by : (x : Res Found) → held (found v m x) ≡ map_res (λ (p : Held × List Held). p.0 ∷ p.1) (map_res (pair_up v) (held x))
    by (got f e) = refl
    by (bad e p) = refl

then_same : {B : Type 0} (y : Res Held) (f g : Held → ℕ → Res B) → ((v : Held) (m : ℕ) → f v m ≡ g v m) → then_at y f ≡ then_at y g
then_same (got v m) f g h = h v m
then_same (bad e p) f g h = refl

row_held : (k n : ℕ) (ds xs : List ℕ) (at : ℕ) → held (row_from k n ds xs at) ≡ run (row ds (items_from k n)).read xs at
unfolding row_from row items_from held place_run
row_held k zero ds xs at = let z : at ≡ at + 0 = omega arith in ap (got []) z
row_held k (suc n) ds xs at =
    held_goes (place_run k (eqb (first_flag ds) 1) xs at) (λ m. row_from (k + 1) n (next_flags ds) xs m)
    ∙ ap (map_res (λ (p : Held × List Held). p.0 ∷ p.1))
    (then_same (place_run k (eqb (first_flag ds) 1) xs at) (λ v m. map_res (pair_up v) (held (row_from (k + 1) n (next_flags ds) xs m))) (λ v m. map_res (pair_up v) (run (row (next_flags ds) (items_from (k + 1) n)).read xs m))
    (λ v m. ap (map_res (pair_up v)) (row_held (k + 1) n (next_flags ds) xs m)))
    ∙ sym (run-map (λ (p : Held × List Held). p.0 ∷ p.1) (λ ys. and_then ys ((place (first_flag ds) (item_on k)).read ys) (λ a r. map_res (pair_up a) ((row (next_flags ds) (items_from (k + 1) n)).read r))) xs at
    ∙ ap (map_res (λ (p : Held × List Held). p.0 ∷ p.1)) (run-then (place (first_flag ds) (item_on k)).read (λ a. (row (next_flags ds) (items_from (k + 1) n)).read) xs at))

-- ---- is 01's

abbrev filled : ℕ → Outcome Found → Outcome Contents
filled ind o = map_outcome (λ (f : Found). (ind, f.0)) o

settled : (ind m len : ℕ) (y : Res (List Held)) (x : Res Found) → suc (suc m) ≡ len → held x ≡ shift 2 y
    → settle (suc m) (shift 1 (map_res (pair_up ind) y)) ≡ filled ind (ends len x)
unfolding settle ends held
settled ind m len (got vs j) (bad e p) el h = let z : ◌≡◌ {A = ℕ} 0 1 = cc in absurd (omega arith)
settled ind m len (bad q r) (got f e) el h = let z : ◌≡◌ {A = ℕ} 0 1 = cc in absurd (omega arith)
settled ind m len (bad q r) (bad e p) el h =
    let a : e ≡ q = cc in
    let b : p ≡ 2 + r = cc in
    let c : suc (1 + r) ≡ p = omega arith in
    ap₂ refused (sym a) c
settled ind m len (got vs j) (got f e) el h =
    let a : f.0 ≡ vs = cc in
    let b : e ≡ 2 + j = cc in
    by (eqb (1 + j) (suc m)) refl a b
  where
    by : (t : Bool) → eqb (1 + j) (suc m) ≡ t → f.0 ≡ vs → e ≡ 2 + j → pick (eqb (1 + j) (suc m)) (accepted (ind, vs)) (refused 9 (suc (1 + j))) ≡ filled ind (pick (eqb e len) (accepted f) (refused 9 e))
    by true et a b =
        let w : 1 + j ≡ suc m = eqb-true (1 + j) (suc m) et in
        let v : e ≡ len = omega arith in
        rw (et, eq-eqb e len v) (ap (λ x. accepted (ind, x)) (sym a))
    by false et a b =
        let w : 1 + j ≡ suc m → ⊥ = eqb-false (1 + j) (suc m) et in
        let v : e ≡ len → ⊥ = λ z. w (omega arith) in
        let c : suc (1 + j) ≡ e = omega arith in
        rw (et, ne_eqb e len v) (ap (refused 9) c)

module _ (cat : ℕ) (h : known cat ≡ true) (ind m : ℕ) (r : List ℕ) (n : length r ≡ m) where
  after-ind : settle (suc m) ((body (paper_of cat)).read (ind ∷ r)) ≡ filled ind (items_in cat ind (suc (suc m) ∷ ind ∷ r))
  unfolding body indicator items_in settle
  after-ind = go (all_zero (drop (items_of cat) (flags ind))) refl
    where
      same_row : held (row_from (spot_of cat) (items_of cat) (flags ind) (suc (suc m) ∷ ind ∷ r) 2) ≡ shift 2 ((row (flags ind) (paper_of cat)).read r)
      same_row =
          row_held (spot_of cat) (items_of cat) (flags ind) (suc (suc m) ∷ ind ∷ r) 2
          ∙ ap (λ its. run (row (flags ind) its).read (suc (suc m) ∷ ind ∷ r) 2) (spots_right cat h).items_are

      go : (t : Bool) → all_zero (drop (items_of cat) (flags ind)) ≡ t → settle (suc m) ((body (paper_of cat)).read (ind ∷ r)) ≡ filled ind (items_in cat ind (suc (suc m) ∷ ind ∷ r))
      go true e = rw (number_one ind r, e) (settled ind m (length (suc (suc m) ∷ ind ∷ r)) ((row (flags ind) (paper_of cat)).read r) (row_from (spot_of cat) (items_of cat) (flags ind) (suc (suc m) ∷ ind ∷ r) 2) (ap (λ j. suc (suc j)) (sym n)) same_row)
      go false e = rw (number_one ind r, e) refl

pick_map : {A B : Type 0} (f : A → B) (b : Bool) (x y : Outcome A) → map_outcome f (pick b x y) ≡ pick b (map_outcome f x) (map_outcome f y)
pick_map f true x y = refl
pick_map f false x y = refl

-- the field behind LEN, where there are octets enough
whole : (cat : ℕ) → known cat ≡ true → (len : ℕ) (t : List ℕ) → 2 ≤ len → len ≤ suc (length t)
    → read_frame (body (paper_of cat)) (len ∷ t) ≡ filled (get_or (len ∷ t) 1 0) (items_in cat (get_or (len ∷ t) 1 0) (take len (len ∷ t)))
whole cat k zero t h g = absurd (omega arith)
whole cat k (suc zero) t h g = absurd (omega arith)
whole cat k (suc (suc m)) [] h g = absurd (omega arith)
whole cat k (suc (suc m)) (ind ∷ t) h g =
    let e : suc (suc m) - 1 ≡ suc m = omega arith in
    frame_whole (body (paper_of cat)) (suc (suc m)) (ind ∷ t) h g
    ∙ ap (λ j. settle j ((body (paper_of cat)).read (take j (ind ∷ t)))) e
    ∙ after-ind cat k ind m (take m t) (length-take-le m t (omega arith))

pub field_walk : (cat : ℕ) (s : List ℕ) → field_of cat s ≡ filled (get_or s 1 0) (walk_of cat s)
unfolding field_of walk_of
field_walk cat [] = ap (λ x. pick (known cat) x (refused 1 0)) (frame_empty (body (paper_of cat))) ∙ sym (pick_map (λ (f : Found). (0, f.0)) (known cat) (refused 2 0) (refused 1 0))
field_walk cat (len ∷ t) = go (known cat) refl
  where
    ind : ℕ
    ind = get_or (len ∷ t) 1 0

    inner : known cat ≡ true → read_frame (body (paper_of cat)) (len ∷ t)
        ≡ filled (get_or (len ∷ t) 1 0) (pick (ltb len 2) (refused 3 0) (pick (ltb (suc (length t)) len) (refused 2 0) (items_in cat (get_or (len ∷ t) 1 0) (take len (len ∷ t)))))
    inner k = small (ltb len 2) refl
      where
        short : (b : Bool) → 2 ≤ len → ltb (suc (length t)) len ≡ b → read_frame (body (paper_of cat)) (len ∷ t) ≡ filled (get_or (len ∷ t) 1 0) (pick b (refused 2 0) (items_in cat (get_or (len ∷ t) 1 0) (take len (len ∷ t))))
        short true h e = frame_short (body (paper_of cat)) len t h (ltb-true (suc (length t)) len e)
        short false h e = whole cat k len t h (ltb-false (suc (length t)) len e)

        small : (b : Bool) → ltb len 2 ≡ b → read_frame (body (paper_of cat)) (len ∷ t) ≡ filled (get_or (len ∷ t) 1 0) (pick b (refused 3 0) (pick (ltb (suc (length t)) len) (refused 2 0) (items_in cat (get_or (len ∷ t) 1 0) (take len (len ∷ t)))))
        small true e = frame_small (body (paper_of cat)) len t (ltb-true len 2 e)
        small false e = short (ltb (suc (length t)) len) (ltb-false len 2 e) refl

    go : (b : Bool) → known cat ≡ b → pick b (read_frame (body (paper_of cat)) (len ∷ t)) (refused 1 0)
        ≡ filled (get_or (len ∷ t) 1 0) (pick b (pick (ltb len 2) (refused 3 0) (pick (ltb (suc (length t)) len) (refused 2 0) (items_in cat (get_or (len ∷ t) 1 0) (take len (len ∷ t))))) (refused 1 0))
    go true e = inner e
    go false e = refl

-- what the mask says of the places behind the last item
module _ (cat ind : ℕ) (lt : ind < 256) {m : ℕ} (em : m ≡ spare_of cat) where
  spare_said : {t : Bool} → eqb (bit_and ind m) 0 ≡ t → all_zero (drop (items_of cat) (flags ind)) ≡ t
  spare_said e = sym (spare_places cat ind lt) ∙ ap (λ x. eqb (bit_and ind x) 0) (sym em) ∙ e

  pub spare_clear : bit_and ind m ≡ 0 → all_zero (drop (items_of cat) (flags ind)) ≡ true
  spare_clear z = spare_said (eq-eqb (bit_and ind m) 0 z)

  pub spare_set : (bit_and ind m ≡ 0 → ⊥) → all_zero (drop (items_of cat) (flags ind)) ≡ false
  spare_set z = spare_said (ne_eqb (bit_and ind m) 0 z)

pub items_in_lem : (cat ind : ℕ) (xs : List ℕ) {t : Bool} → all_zero (drop (items_of cat) (flags ind)) ≡ t → items_in cat ind xs ≡ pick t (ends (length xs) (row_from (spot_of cat) (items_of cat) (flags ind) xs 2)) (refused 4 1)
unfolding items_in
items_in_lem cat ind xs e = rw e refl

-- ---- LEN, by the tests that the code makes

pub other_is : (cat : ℕ) (s : List ℕ) → known cat ≡ false → walk_of cat s ≡ refused 1 0
unfolding walk_of
other_is cat [] h = rw h refl
other_is cat (len ∷ t) h = rw h refl

pub len_is : (s : List ℕ) → len_of s ≡ get_or s 0 0
unfolding len_of
len_is [] = refl
len_is (x ∷ t) = refl

module _ (cat : ℕ) (h : known cat ≡ true) where
  pub empty_is : (s : List ℕ) → length s ≡ 0 → walk_of cat s ≡ refused 2 0
  unfolding walk_of
  empty_is [] e = rw h refl
  empty_is (len ∷ t) e = absurd (omega arith)

  pub small_is : (s : List ℕ) → (length s ≡ 0 → ⊥) → get_or s 0 0 < 2 → walk_of cat s ≡ refused 3 0
  unfolding walk_of
  small_is [] z k = absurd (z refl)
  small_is (len ∷ t) z k = rw (h, lt-ltb len 2 k) refl

  pub short_is : (s : List ℕ) → (length s ≡ 0 → ⊥) → 2 ≤ get_or s 0 0 → length s < get_or s 0 0 → walk_of cat s ≡ refused 2 0
  unfolding walk_of
  short_is [] z k g = absurd (z refl)
  short_is (len ∷ t) z k g = rw (h, le-ltb len 2 k, lt-ltb (suc (length t)) len g) refl

  pub long_is : (s : List ℕ) → (length s ≡ 0 → ⊥) → 2 ≤ get_or s 0 0 → get_or s 0 0 ≤ length s → walk_of cat s ≡ items_in cat (get_or s 1 0) (take (get_or s 0 0) s)
  unfolding walk_of
  long_is [] z k g = absurd (z refl)
  long_is (len ∷ t) z k g = rw (h, le-ltb len 2 k, le-ltb (suc (length t)) len g) refl
