-- The row of items: the guess's, item by item.
use Rattle.std.specs.Prelude.{◌≡◌, refl, Bool, true, false, T, ℤ, pos, get_or, drop, set}
use Rattle.std.proofs.Math.Path.{sym, ap, ap₂}
use Rattle.std.proofs.Common.{◌∙◌, add-one, eqb-true, leb→le}
use mathlib.Core.List.{List, [], ◌∷◌, ◌++◌}
use Prim.Native.Nat.{ℕ, suc, ◌+◌, ◌-◌, ◌≤◌, ◌<◌}
use native.Mathlib.Omega.{arith}
use Rattle.std.proofs.lemmas.Bool.{eqb-false}
use Rattle.std.proofs.Math.Dec.{eqb}
use Rattle.std.proofs.Math.ListN.{length, replicate}
use Rattle.std.proofs.lemmas.List.{length-replicate}
use Rattle.std.proofs.Math.Seq.{sets}
use Rattle.codec.specs.Pick.{pick}
use Rattle.codec.specs.Line.{Held}
use Rattle.codec.specs.Item.{slots}
use Rattle.codec.proofs.Laws.Sets.{sets_append}
use Rattle.papers.specs.Papers.{SLOTS}
use Rattle.layout.specs.Record.{all_parts, all_numbers}
use Rattle.shapes.specs.Shapes.{item_at}
use Rattle.spots.specs.Spots.{spot_at, item_on, spot_ok, row_ok, items_from}
use Rattle.spots.specs.Laws.Rows.{first_drop, next_drop, items_on, row_first, row_next}
use Rattle.sheet.specs.Items.{named_at}
use Rattle.sheet.specs.Rows.{named_on, names_from}
use Rattle.sheet.specs.Laws.Rows.{names_on}
use Rattle.guess.specs.Guess.{item_in, item_left, row_in}
use Rattle.taken.specs.Laws.Items.{ItemTaken, item_slots, item_blank}

abbrev pub Row : List ℕ → ℕ → ℕ → ℕ → List ℕ → List Held
Row ds k i left t = row_in (drop i ds) (items_from k left) (names_from k left) t

-- what `row` leaves: the parts of its items, and their numbers
abbrev pub RowTaken : List ℕ → ℕ → ℕ → ℕ → List ℕ → List ℕ → List ℤ → List ℕ → List ℤ → Type 0
RowTaken ds k i left t ps l qs m = (qs ≡ sets ps i (all_parts (Row ds k i left t))) × (m ≡ sets l (spot_at k).1 (all_numbers (Row ds k i left t)))

pub row_none : (ds : List ℕ) (k i left : ℕ) (t ps : List ℕ) (l : List ℤ) → left ≡ 0 → RowTaken ds k i left t ps l ps l
unfolding row_in items_from names_from all_parts all_numbers
row_none ds k i left t ps l e = (rw e refl, rw e refl)

pub item_room : (k : ℕ) → T (spot_ok k) → {j base : ℕ} → j ≡ (spot_at k).0 → base ≡ (spot_at k).1 → base + slots (item_at j) ≤ SLOTS
unfolding spot_ok
item_room k ok ej eb = rw (ej, eb) (leb→le ((spot_at k).1 + slots (item_on k)) SLOTS ok)

module _ (ds : List ℕ) (k i left : ℕ) (some : left ≡ 0 → ⊥) (ok : T (row_ok k left)) (t ps : List ℕ) (l : List ℤ) {x : Bool} (ex : x ≡ eqb (get_or ds i 0) 1) where
  -- what the first item holds, and what it leaves
  abbrev held : Held
  held = pick x (item_in (item_on k) (named_on k) t) (0, replicate (slots (item_on k)) (pos 0))

  row_is : Row ds k i left t ≡ held ∷ Row ds (k + 1) (i + 1) (left - 1) (pick x (item_left (item_on k) (named_on k) t) t)
  unfolding row_in
  row_is =
      ap₂ (λ its nms. row_in (drop i ds) its nms t) (items_on k left some) (names_on k left some)
      ∙ ap₂ (λ b d. pick b (item_in (item_on k) (named_on k) t) (0, replicate (slots (item_on k)) (pos 0)) ∷ row_in d (items_from (k + 1) (left - 1)) (names_from (k + 1) (left - 1)) (pick b (item_left (item_on k) (named_on k) t) t))
      (ap (λ d. eqb d 1) (first_drop i ds) ∙ sym ex) (next_drop i ds)

  held_slots : length held.1 ≡ slots (item_on k)
  held_slots = go x
    where
      go : (b : Bool) → length (pick b (item_in (item_on k) (named_on k) t) (0, replicate (slots (item_on k)) (pos 0))).1 ≡ slots (item_on k)
      go true = item_slots (spot_at k).0 refl t
      go false = length-replicate (slots (item_on k)) (pos 0)

  step : {u qs qs2 : List ℕ} {q m : List ℤ} → u ≡ pick x (item_left (item_on k) (named_on k) t) t → qs ≡ set ps i held.0 → q ≡ sets l (spot_at k).1 held.1
      → RowTaken ds (k + 1) (i + 1) (left - 1) u qs q qs2 m → RowTaken ds k i left t ps l qs2 m
  unfolding all_parts all_numbers row_in items_from names_from
  step {u} {qs} {qs2} {q} {m} eu eqs eq g = (
    g.0 ∙ ap₂ (λ y j. sets y j (all_parts (rest u))) eqs (add-one i) ∙ ap (λ v. sets (set ps i held.0) (suc i) (all_parts (rest v))) eu ∙ ap (λ r. sets ps i (all_parts r)) (sym row_is),
    g.1 ∙ next ∙ ap (λ y. sets y ((spot_at k).1 + length held.1) (all_numbers (rest u))) eq ∙ sym (sets_append l (spot_at k).1 held.1 (all_numbers (rest u)))
        ∙ ap (λ v. sets l (spot_at k).1 (held.1 ++ all_numbers (rest v))) eu ∙ ap (λ r. sets l (spot_at k).1 (all_numbers r)) (sym row_is),
  )
    where
      rest : List ℕ → List Held
      rest v = Row ds (k + 1) (i + 1) (left - 1) v

      -- where nothing follows, the place does not matter
      next : sets q (spot_at (k + 1)).1 (all_numbers (rest u)) ≡ sets q ((spot_at k).1 + length held.1) (all_numbers (rest u))
      next = go (eqb (left - 1) 0) refl
        where
          go : (b : Bool) → eqb (left - 1) 0 ≡ b → sets q (spot_at (k + 1)).1 (all_numbers (rest u)) ≡ sets q ((spot_at k).1 + length held.1) (all_numbers (rest u))
          go true e =
              let z : rest u ≡ [] = ap (λ n. Row ds (k + 1) (i + 1) n u) (eqb-true (left - 1) 0 e) in
              ap (λ r. sets q (spot_at (k + 1)).1 (all_numbers r)) z ∙ ap (λ r. sets q ((spot_at k).1 + length held.1) (all_numbers r)) (sym z)
          go false e = ap (λ j. sets q j (all_numbers (rest u))) (row_next k left some ok (eqb-false (left - 1) 0 e) ∙ ap ((spot_at k).1 +◌) (sym held_slots))

  module _ {j base : ℕ} (ej : j ≡ (spot_at k).0) (eb : base ≡ (spot_at k).1) {qs qs2 : List ℕ} {q m : List ℤ} where
    pub row_there : x ≡ true → {u : List ℕ} {p : ℕ} → p ≡ (item_in (item_at j) (named_at j) t).0 → qs ≡ set ps i p → ItemTaken j base t l u q
        → RowTaken ds (k + 1) (i + 1) (left - 1) u qs q qs2 m → RowTaken ds k i left t ps l qs2 m
    row_there e ep eqs g r =
        step (g.0 ∙ ap (λ n. item_left (item_at n) (named_at n) t) ej ∙ ap (λ b. pick b (item_left (item_on k) (named_on k) t) t) (sym e))
        (eqs ∙ ap (set ps i) (ep ∙ ap (λ n. (item_in (item_at n) (named_at n) t).0) ej ∙ ap (λ b. (pick b (item_in (item_on k) (named_on k) t) (0, replicate (slots (item_on k)) (pos 0))).0) (sym e)))
        (g.1 ∙ ap₂ (λ n y. sets l n y) eb (ap (λ n. (item_in (item_at n) (named_at n) t).1) ej ∙ ap (λ b. (pick b (item_in (item_on k) (named_on k) t) (0, replicate (slots (item_on k)) (pos 0))).1) (sym e))) r

    pub row_absent : x ≡ false → {u : List ℕ} → qs ≡ set ps i 0 → ItemTaken j base [] l u q → RowTaken ds (k + 1) (i + 1) (left - 1) t qs q qs2 m → RowTaken ds k i left t ps l qs2 m
    row_absent e eqs g r =
        step (ap (λ b. pick b (item_left (item_on k) (named_on k) t) t) (sym e))
        (eqs ∙ ap (λ b. set ps i (pick b (item_in (item_on k) (named_on k) t) (0, replicate (slots (item_on k)) (pos 0))).0) (sym e))
        (g.1 ∙ ap₂ (λ n y. sets l n y) eb (item_blank j refl ∙ ap (λ n. replicate (slots (item_at n)) (pos 0)) ej ∙ ap (λ b. (pick b (item_in (item_on k) (named_on k) t) (0, replicate (slots (item_on k)) (pos 0))).1) (sym e))) r

-- ---- the loop of `row`, n items being passed

module _ (ds : List ℕ) (k i left n : ℕ) (h : n < left) where
  ahead : left - n ≡ 0 → ⊥
  ahead e = omega arith

  abbrev pub counts_left : List ℕ → ℕ → List ℕ → List ℕ
  counts_left ps m t = sets ps (i + m) (all_parts (Row ds (k + m) (i + m) (left - m) t))

  abbrev pub kept_left : List ℤ → ℕ → List ℕ → List ℤ
  kept_left l m t = sets l (spot_at (k + m)).1 (all_numbers (Row ds (k + m) (i + m) (left - m) t))

  pub row_asks : T (row_ok (k + n) (left - n)) → T (spot_ok (k + n)) × T (row_ok (k + (n + 1)) (left - (n + 1)))
  row_asks ok =
      let ek : k + (n + 1) ≡ k + n + 1 = omega arith in
      let el : left - (n + 1) ≡ left - n - 1 = omega arith in
      rw (ek, el) (row_first (k + n) (left - n) ahead ok)

  module _ (ok : T (row_ok (k + n) (left - n))) (t ps : List ℕ) (l : List ℤ) {x : Bool} (ex : x ≡ eqb (get_or ds (i + n) 0) 1) {j base : ℕ} (ej : j ≡ (spot_at (k + n)).0) (eb : base ≡ (spot_at (k + n)).1) where
    pub there_next : x ≡ true → {u qs : List ℕ} {p : ℕ} {q : List ℤ} → p ≡ (item_in (item_at j) (named_at j) t).0 → qs ≡ set ps (i + n) p → ItemTaken j base t l u q
        → (counts_left qs (n + 1) u ≡ counts_left ps n t) × (kept_left q (n + 1) u ≡ kept_left l n t)
    there_next e ep eqs g =
        let ei : i + (n + 1) ≡ i + n + 1 = omega arith in
        let ek : k + (n + 1) ≡ k + n + 1 = omega arith in
        let el : left - (n + 1) ≡ left - n - 1 = omega arith in
        rw (ei, ek, el) (row_there ds (k + n) (i + n) (left - n) ahead ok t ps l ex ej eb e ep eqs g (refl, refl))

    pub absent_next : x ≡ false → {u qs : List ℕ} {q : List ℤ} → qs ≡ set ps (i + n) 0 → ItemTaken j base [] l u q → (counts_left qs (n + 1) t ≡ counts_left ps n t) × (kept_left q (n + 1) t ≡ kept_left l n t)
    absent_next e eqs g =
        let ei : i + (n + 1) ≡ i + n + 1 = omega arith in
        let ek : k + (n + 1) ≡ k + n + 1 = omega arith in
        let el : left - (n + 1) ≡ left - n - 1 = omega arith in
        rw (ei, ek, el) (row_absent ds (k + n) (i + n) (left - n) ahead ok t ps l ex ej eb e eqs g (refl, refl))
