-- One item alone in a field: the field is accepted exactly if the item takes all of its octets.
use Rattle.std.specs.Prelude.{◌≡◌, Bool, ◌&&◌, List, ◌∷◌, ℕ, zero, suc, ◌+◌, ◌-◌, ◌≤◌, ◌<◌, leb, pos, get_or, drop, set, replicate}
use Rattle.std.proofs.Math.Path.{refl, sym, ap}
use Rattle.std.proofs.Common.{ap₂, ◌∙◌, not-suc-le-zero, le_of_suc-le-suc, arith, take_all}
use Rattle.std.proofs.Math.Bool.{true, false}
use borrow.Author.Tests.{lt-ltb, le-ltb, le-leb, lt-leb, eq-eqb, ne_eqb, eqb-true, eqb-false}
use Rattle.std.proofs.Math.Dec.{ltb, eqb}
use Rattle.std.proofs.Math.ListN.{length}
use Rattle.codec.specs.Pick.{pick}
use Rattle.codec.specs.Radix.{total, cut}
use Rattle.codec.specs.Codec.{Res, got, bad, shift}
use Rattle.codec.specs.Line.{Held}
use Rattle.codec.specs.Item.{slots, item}
use Rattle.codec.specs.Field.{first_flag, next_flags, flags, all_zero}
use Rattle.codec.specs.Frame.{Outcome, accepted, refused}
use Rattle.codec.specs.Change.{set_flag, alone}
use Rattle.codec.proofs.Laws.Change.{flags-set}
use Rattle.codec.proofs.Laws.Frame.{map_outcome}
use Rattle.scope.specs.Reading.{field_of}
use Rattle.scope.specs.Desk.{is_accepted, right_of, item_is}
use Rattle.papers.specs.Papers.{known, items_of}
use Rattle.papers.proofs.Laws.Papers.{few_items}
use Rattle.spots.specs.Spots.{spot_at, spot_of, item_on}
use Rattle.reader.specs.Rows.{place_run, Found, found, go_on, row_from}
use Rattle.reader.specs.Items.{item_run}
use Rattle.reader.specs.Fields.{ends, items_in, walk_of}
use Rattle.reader.specs.Seen.{Ends}
use Rattle.reader.specs.Laws.Seen.{ended}
use Rattle.reader.specs.Laws.Fields.{field_walk}

-- a reading that ends where its octets do
abbrev pub takes_all : {A : Type 0} → ℕ → Res A → Bool
takes_all len (got a n) = eqb n len
takes_all len (bad e p) = false

-- as code tests it
pub ends_all : {A : Type 0} {x : Res A} {r : ℕ} (len : ℕ) → len < 65_536 → Ends x r → eqb r len ≡ takes_all len x
ends_all len h s = ended s (λ a ex _. sym (ap (takes_all len) ex)) (λ e p ex er f. ne_eqb _ len (λ z. omega (arith, z, er, h, f.0)) ∙ sym (ap (takes_all len) ex))

-- ---- a row of which one item is there

absent : (k : ℕ) (xs : List ℕ) (at : ℕ) → place_run k false xs at ≡ got (0, replicate (slots (item_on k)) (pos 0)) at
unfolding place_run
absent k xs at = let z : at + 0 ≡ at = omega arith in ap (got (0, replicate (slots (item_on k)) (pos 0))) z

found_all : (len : ℕ) (v : Held) (m : ℕ) (x : Res Found) → takes_all len (found v m x) ≡ takes_all len x
found_all len v m (got f e) = refl
found_all len v m (bad e p) = refl

zeros_first : (m : ℕ) → (first_flag (replicate m 0) ≡ 0) × (next_flags (replicate m 0) ≡ replicate (m - 1) 0)
unfolding first_flag next_flags
zeros_first zero = (refl, refl)
zeros_first (suc m) = let e : m ≡ suc m - 1 = omega arith in (refl, ap (λ j. replicate j 0) e)

none_there : (k n m : ℕ) (xs : List ℕ) (at len : ℕ) → takes_all len (row_from k n (replicate m 0) xs at) ≡ eqb at len
unfolding row_from
none_there k zero m xs at len = refl
none_there k (suc n) m xs at len =
    let z = zeros_first m in
    ap₂ (λ d ds. takes_all len (go_on (place_run k (eqb d 1) xs at) (λ j. row_from (k + 1) n ds xs j))) z.0 z.1
    ∙ ap (λ y. takes_all len (go_on y (λ j. row_from (k + 1) n (replicate (m - 1) 0) xs j))) (absent k xs at)
    ∙ found_all len (0, replicate (slots (item_on k)) (pos 0)) at (row_from (k + 1) n (replicate (m - 1) 0) xs at)
    ∙ none_there (k + 1) n (m - 1) xs at len

one_there : (k n m i : ℕ) (xs : List ℕ) (at len : ℕ) → i < n → i < m → takes_all len (row_from k n (set (replicate m 0) i 1) xs at) ≡ takes_all len (item_run (spot_at (k + i)).0 xs at)
unfolding row_from place_run item_run first_flag next_flags
one_there k zero m i xs at len h g = absurd (not-suc-le-zero h)
one_there k (suc n) zero i xs at len h g = absurd (not-suc-le-zero g)
one_there k (suc n) (suc m) zero xs at len h g = here (item_run (spot_at k).0 xs at) refl
  where
    here : (y : Res Held) → item_run (spot_at k).0 xs at ≡ y → takes_all len (go_on (place_run k true xs at) (λ j. row_from (k + 1) n (replicate m 0) xs j)) ≡ takes_all len (item_run (spot_at (k + 0)).0 xs at)
    here (got v j) e =
        let z : k + 0 ≡ k = omega arith in
        ap (λ y. takes_all len (go_on y (λ i. row_from (k + 1) n (replicate m 0) xs i))) e ∙ found_all len v j (row_from (k + 1) n (replicate m 0) xs j) ∙ none_there (k + 1) n m xs j len
        ∙ sym (ap (λ i. takes_all len (item_run (spot_at i).0 xs at)) z ∙ ap (takes_all len) e)
    here (bad q p) e =
        let z : k + 0 ≡ k = omega arith in
        ap (λ y. takes_all len (go_on y (λ i. row_from (k + 1) n (replicate m 0) xs i))) e ∙ sym (ap (λ i. takes_all len (item_run (spot_at i).0 xs at)) z ∙ ap (takes_all len) e)
one_there k (suc n) (suc m) (suc i) xs at len h g =
    let z : k + 1 + i ≡ k + suc i = omega arith in
    ap (λ y. takes_all len (go_on y (λ j. row_from (k + 1) n (set (replicate m 0) i 1) xs j))) (absent k xs at)
    ∙ found_all len (0, replicate (slots (item_on k)) (pos 0)) at (row_from (k + 1) n (set (replicate m 0) i 1) xs at)
    ∙ one_there (k + 1) n m i xs at len (le_of_suc-le-suc h) (le_of_suc-le-suc g)
    ∙ ap (λ j. takes_all len (item_run (spot_at j).0 xs at)) z

no_more : (n m i : ℕ) → i < n → all_zero (drop n (set (replicate m 0) i 1)) ≡ true
unfolding all_zero
no_more zero m i h = absurd (not-suc-le-zero h)
no_more (suc n) zero i h = refl
no_more (suc n) (suc m) zero h = zeros n m
  where
    zeros : (n m : ℕ) → all_zero (drop n (replicate m 0)) ≡ true
    zeros zero zero = refl
    zeros zero (suc m) = zeros zero m
    zeros (suc n) zero = refl
    zeros (suc n) (suc m) = zeros n m
no_more (suc n) (suc m) (suc i) h = no_more n m i (le_of_suc-le-suc h)

-- ---- the field of one item

module _ (cat i : ℕ) (t : List ℕ) (h : known cat ≡ true) (hi : i < items_of cat) where
  ind-flags : flags (set_flag 0 i 1) ≡ set (replicate 8 0) i 1
  unfolding cut total
  ind-flags = let few : items_of cat ≤ 8 = few_items cat in flags-set 0 i 1 (omega arith) (omega arith) (omega arith)

  last_all : (x : Res Found) → is_accepted (ends (length (alone i t)) x) ≡ takes_all (length (alone i t)) x
  unfolding ends
  last_all (got f e) = by (eqb e (length (alone i t)))
    where
      by : (b : Bool) → is_accepted (pick b (accepted f) (refused 9 e)) ≡ b
      by true = refl
      by false = refl
  last_all (bad e p) = refl

  behind_two : (y : Res Held) → takes_all (length (alone i t)) (shift 2 y) ≡ takes_all (length t) (shift 0 y)
  unfolding alone
  behind_two (got v n) = by (eqb (0 + n) (length t)) refl
    where
      by : (b : Bool) → eqb (0 + n) (length t) ≡ b → eqb (2 + n) (suc (suc (length t))) ≡ eqb (0 + n) (length t)
      by true e = let z : 0 + n ≡ length t = eqb-true (0 + n) (length t) e in eq-eqb (2 + n) (suc (suc (length t))) (omega (arith, z)) ∙ sym e
      by false e = let z : 0 + n ≡ length t → ⊥ = eqb-false (0 + n) (length t) e in ne_eqb (2 + n) (suc (suc (length t))) (λ q. z (omega (arith, q))) ∙ sym e
  behind_two (bad e p) = refl

  alone_items : walk_of cat (alone i t) ≡ items_in cat (set_flag 0 i 1) (alone i t)
  unfolding walk_of alone
  alone_items =
      let a : ltb (suc (suc (length t))) 2 ≡ false = le-ltb (suc (suc (length t))) 2 (omega arith) in
      let b : ltb (suc (suc (length t))) (suc (suc (length t))) ≡ false = le-ltb (suc (suc (length t))) (suc (suc (length t))) (omega arith) in
      rw (h, a, b) (ap (items_in cat (set_flag 0 i 1)) (take_all (suc (suc (length t))) (suc (suc (length t)) ∷ set_flag 0 i 1 ∷ t) (omega arith)))

  behind : drop 2 (alone i t) ≡ t
  unfolding alone
  behind = refl

  alone_good : is_accepted (walk_of cat (alone i t)) ≡ takes_all (length t) (item_run (spot_at (spot_of cat + i)).0 t 0)
  unfolding items_in item_run
  alone_good =
      let few : items_of cat ≤ 8 = few_items cat in
      let z : all_zero (drop (items_of cat) (flags (set_flag 0 i 1))) ≡ true = ap (λ ds. all_zero (drop (items_of cat) ds)) ind-flags ∙ no_more (items_of cat) 8 i hi in
      let e : items_in cat (set_flag 0 i 1) (alone i t) ≡ ends (length (alone i t)) (row_from (spot_of cat) (items_of cat) (flags (set_flag 0 i 1)) (alone i t) 2) = rw z refl in
      ap is_accepted (alone_items ∙ e)
      ∙ last_all (row_from (spot_of cat) (items_of cat) (flags (set_flag 0 i 1)) (alone i t) 2)
      ∙ ap (λ ds. takes_all (length (alone i t)) (row_from (spot_of cat) (items_of cat) ds (alone i t) 2)) ind-flags
      ∙ one_there (spot_of cat) (items_of cat) 8 i (alone i t) 2 (length (alone i t)) hi (omega arith)
      ∙ ap (λ ys. takes_all (length (alone i t)) (shift 2 ((item (item_on (spot_of cat + i))).read ys))) behind
      ∙ behind_two ((item (item_on (spot_of cat + i))).read t)

  good_same : {A B : Type 0} (f : A → B) (o : Outcome A) → is_accepted (map_outcome f o) ≡ is_accepted o
  good_same f (accepted a) = refl
  good_same f (refused e p) = refl

  pub alone_right : takes_all (length t) (item_run (spot_at (spot_of cat + i)).0 t 0) ≡ is_accepted (field_of cat (alone i t))
  alone_right = sym (ap is_accepted (field_walk cat (alone i t)) ∙ good_same (λ (f : Found). (get_or (alone i t) 1 0, f.0)) (walk_of cat (alone i t)) ∙ alone_good)

-- ---- the ways out of `is_item`

none_right : (cat i : ℕ) (t : List ℕ) → (leb 1 (length t) && leb (length t) 253) ≡ false → false ≡ item_is cat i t
unfolding item_is right_of
none_right cat i t e = go (known cat && ltb i (items_of cat))
  where
    go : (b : Bool) → false ≡ b && ((leb 1 (length t) && leb (length t) 253) && is_accepted (field_of cat (alone i t)))
    go true = rw e refl
    go false = refl

module _ (cat i : ℕ) (t : List ℕ) where
  pub is_none : length t ≡ 0 → false ≡ item_is cat i t
  is_none e = none_right cat i t (rw e refl)

  pub is_long : 253 < length t → false ≡ item_is cat i t
  is_long h = none_right cat i t (rw (le-leb 1 (length t) (omega arith), lt-leb (length t) 253 h) refl)

  pub is_other : known cat ≡ false → false ≡ item_is cat i t
  unfolding item_is
  is_other h = rw h refl

  pub is_behind : known cat ≡ true → items_of cat ≤ i → false ≡ item_is cat i t
  unfolding item_is
  is_behind h g = rw (h, le-ltb i (items_of cat) g) refl

  pub is_right : (length t ≡ 0 → ⊥) → length t ≤ 253 → known cat ≡ true → i < items_of cat → {r : ℕ} → Ends (item_run (spot_at (spot_of cat + i)).0 t 0) r → eqb r (length t) ≡ item_is cat i t
  unfolding item_is right_of
  is_right lo hi h g s =
      ends_all (length t) (omega (arith, hi)) s ∙ alone_right cat i t h g
      ∙ rw (h, lt-ltb i (items_of cat) g, le-leb 1 (length t) (omega (arith, lo)), le-leb (length t) 253 hi) refl
