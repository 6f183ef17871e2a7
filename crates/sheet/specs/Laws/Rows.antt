-- The row of items, and the line of their names.
use Rattle.std.specs.Prelude.{◌≡◌, refl, Bool, true, false, ℕ, zero, suc, ◌+◌, ◌-◌, ◌≤◌, ◌<◌, T, get_or, drop}
use Rattle.std.proofs.Math.Path.{sym, ap, ap₂}
use Rattle.std.proofs.Common.{◌∙◌, subst, arith}
use mathlib.Core.List.{List, [], ◌∷◌, ◌++◌}
use Rattle.std.proofs.Math.Dec.{eqb, leb→le}
use Rattle.std.proofs.Math.IntN.{ℤ}
use Rattle.std.proofs.Math.ListN.{length, take, length-take, length-drop, get_or-eq_default}
use Rattle.codec.specs.Pick.{pick}
use Rattle.codec.specs.Line.{Held}
use Rattle.codec.specs.Item.{Item, slots}
use Rattle.codec.specs.Field.{flags, uncons}
use Rattle.layout.specs.declared.Record.{Record}
use Rattle.papers.specs.Names.{text, Named, names048, names021, names007}
use Rattle.layout.specs.Laws.Slots.{Holds, holds_item}
use Rattle.scope.specs.Sheet.{item_text, row_text, items_text}
use Rattle.spots.specs.Spots.{spot_at, item_on, spot_ok, row_ok, items_from, numbers_on, held_from}
use Rattle.spots.specs.Laws.Rows.{row_first, first_drop, next_drop, items_on, held_on}
use Rattle.text.specs.Typing.{Types}
use Rattle.text.specs.Laws.Typing.{types_as, types_behind, types_none}
use Rattle.sheet.specs.Items.{nobody, named, named_at, ItemTyped}
use Rattle.sheet.specs.Rows.{named_on, names_from, place_text, comma_of}
use Rattle.papers.specs.Papers.{SLOTS}

pub names_on : (k left : ℕ) → (left ≡ 0 → ⊥) → names_from k left ≡ named_on k ∷ names_from (k + 1) (left - 1)
unfolding names_from
names_on k zero z = absurd (z refl)
names_on k (suc n) z = let e : n ≡ suc n - 1 = omega arith in ap (λ j. named_on k ∷ names_from (k + 1) j) e

module _ (k n : ℕ) (ns : List ℤ) {t : Bool} where
  pub place_there : t ≡ true → T (spot_ok k) → length ns ≡ SLOTS → {j base : ℕ} → j ≡ (spot_at k).0 → base ≡ (spot_at k).1 → {c : ℕ} → c ≡ n → {l m : List ℕ} {at next : ℕ}
      → ItemTyped j c ns base l at m next → Types (place_text k t n ns) l at m next
  unfolding numbers_on spot_ok
  place_there e ok long {j} {base} ej eb {c} ec {l} {m} {at} {next} h =
      let zs : List ℤ = take (slots (item_on k)) (drop (spot_at k).1 ns) in
      let fits : (spot_at k).1 + slots (item_on k) ≤ SLOTS = leb→le ((spot_at k).1 + slots (item_on k)) SLOTS ok in
      let all : length zs ≡ slots (item_on k) = omega (arith, length-take (slots (item_on k)) (drop (spot_at k).1 ns), length-drop (spot_at k).1 ns) in
      types_as (ap (λ x. pick x (item_text (item_on k) (named_on k) (n, zs)) []) (sym e))
      (subst (λ x. Types (item_text (item_on k) (named_on k) (x, zs)) l at m next) ec
      (subst (λ i. ItemTyped i c ns base l at m next) ej h zs (subst (λ i. Holds ns i zs) (sym eb) (holds_item ns (spot_at k).1 (slots (item_on k)) fits)) all))

  pub place_not : t ≡ false → (l : List ℕ) (at : ℕ) → Types (place_text k t n ns) l at l at
  place_not e l at = types_as (ap (λ x. pick x (item_text (item_on k) (named_on k) (n, numbers_on k ns)) []) (sym e)) (types_none l at)

-- ---- the ways out of a row

module _ (ds ps : List ℕ) (ns : List ℤ) (k i left : ℕ) where
  pub row_end : left ≡ 0 → (l : List ℕ) (at : ℕ) → Types (row_text (drop i ds) (items_from k left) (names_from k left) (held_from k left i ps ns)) l at l at
  unfolding row_text items_from
  row_end e l at = rw e (types_none l at)

  pub row_on : (left ≡ 0 → ⊥) → T (row_ok k left) → {t : Bool} → t ≡ eqb (get_or ds i 0) 1 → {l m : List ℕ} {at next : ℕ} → Types (place_text k t (get_or ps i 0) ns) l at m next
      → {q : List ℕ} {last : ℕ} → Types (row_text (drop (i + 1) ds) (items_from (k + 1) (left - 1)) (names_from (k + 1) (left - 1)) (held_from (k + 1) (left - 1) (i + 1) ps ns)) m next q last
      → Types (row_text (drop i ds) (items_from k left) (names_from k left) (held_from k left i ps ns)) l at q last
  unfolding row_text uncons
  row_on some ok {t} et a r =
      let its : List Item = items_from (k + 1) (left - 1) in
      let nms : List Named = names_from (k + 1) (left - 1) in
      let vs : List Held = held_from (k + 1) (left - 1) (i + 1) ps ns in
      let v : Held = (get_or ps i 0, numbers_on k ns) in
      types_as (ap₂ (λ b d. pick b (item_text (item_on k) (named_on k) v) [] ++ row_text d its nms vs) (et ∙ ap (λ x. eqb x 1) (sym (first_drop i ds))) (sym (next_drop i ds))
      ∙ ap₂ (λ x y. row_text (drop i ds) x y (v ∷ vs)) (sym (items_on k left some)) (sym (names_on k left some))
      ∙ ap (row_text (drop i ds) (items_from k left) (names_from k left)) (sym (held_on k left some ok i ps ns))) (types_behind a r)

-- ---- the way through `row`: what is left of it from item i on

abbrev pub row_rest : Record → ℕ → ℕ → ℕ → List ℕ
row_rest f first n i = row_text (drop i (flags f.items)) (items_from (first + i) (n - i)) (names_from (first + i) (n - i)) (held_from (first + i) (n - i) i f.parts f.numbers)

module _ (f : Record) (first n : ℕ) where
  pub row_begins : row_rest f first n 0 ≡ row_text (flags f.items) (items_from first n) (names_from first n) (held_from first n 0 f.parts f.numbers)
  row_begins =
      let ek : first + 0 ≡ first = omega arith in
      let en : n - 0 ≡ n = omega arith in
      ap₂ (λ k m. row_text (flags f.items) (items_from k m) (names_from k m) (held_from k m 0 f.parts f.numbers)) ek en

  pub row_ends : (i : ℕ) → n ≤ i → (l : List ℕ) (at : ℕ) → Types (row_rest f first n i) l at l at
  row_ends i h = row_end (flags f.items) f.parts f.numbers (first + i) i (n - i) (omega arith)

  module _ (i : ℕ) (h : i < n) (ok : T (row_ok (first + i) (n - i))) where
    some : n - i ≡ 0 → ⊥
    some e = omega arith

    pub row_okay_on : T (spot_ok (first + i)) × T (row_ok (first + (i + 1)) (n - (i + 1)))
    row_okay_on =
        let r = row_first (first + i) (n - i) some ok in
        let ek : first + i + 1 ≡ first + (i + 1) = omega arith in
        let en : n - i - 1 ≡ n - (i + 1) = omega arith in
        (r.0, rw (ek, en) at r.1)

    pub row_next : {t : Bool} → t ≡ eqb (get_or (flags f.items) i 0) 1 → {l m : List ℕ} {at next : ℕ} → Types (place_text (first + i) t (get_or f.parts i 0) f.numbers) l at m next
        → {q : List ℕ} {last : ℕ} → Types (row_rest f first n (i + 1)) m next q last → Types (row_rest f first n i) l at q last
    row_next et a r =
        let ek : first + (i + 1) ≡ first + i + 1 = omega arith in
        let en : n - (i + 1) ≡ n - i - 1 = omega arith in
        row_on (flags f.items) f.parts f.numbers (first + i) i (n - i) some ok et a
        (types_as (ap₂ (λ k left. row_text (drop (i + 1) (flags f.items)) (items_from k left) (names_from k left) (held_from k left (i + 1) f.parts f.numbers)) ek en) r)

pub comma_none : {b : Bool} → b ≡ true → (l : List ℕ) (at : ℕ) → Types (comma_of b) l at l at
unfolding comma_of
comma_none e l at = types_as (ap comma_of (sym e)) (types_none l at)

pub comma_there : {b : Bool} → b ≡ false → {l m : List ℕ} {at next : ℕ} → Types (44 ∷ []) l at m next → Types (comma_of b) l at m next
unfolding comma_of
comma_there e a = types_as (ap comma_of (sym e)) a

-- ---- the ways out of the line of names

module _ (first : Bool) (ds : List ℕ) (k i left : ℕ) where
  pub names_end : left ≡ 0 → (l : List ℕ) (at : ℕ) → Types (items_text (comma_of first) (drop i ds) (names_from k left)) l at l at
  unfolding items_text names_from
  names_end e l at = rw e (types_none l at)

  module _ (some : left ≡ 0 → ⊥) {t : Bool} (et : t ≡ eqb (get_or ds i 0) 1) where
    abbrev rest : Bool → List ℕ
    rest b = items_text (comma_of b) (drop (i + 1) ds) (names_from (k + 1) (left - 1))

    step : items_text (comma_of first) (drop i ds) (names_from k left) ≡ pick t (comma_of first ++ ((named_on k).name ++ rest false)) (rest first)
    unfolding items_text comma_of
    step =
        ap (items_text (comma_of first) (drop i ds)) (names_on k left some)
        ∙ ap₂ (λ b d. pick b (comma_of first ++ ((named_on k).name ++ items_text (text ",") d (names_from (k + 1) (left - 1)))) (items_text (comma_of first) d (names_from (k + 1) (left - 1)))) (ap (λ x. eqb x 1) (first_drop i ds) ∙ sym et) (next_drop i ds)

    pub names_there : t ≡ true → {l m q u : List ℕ} {at next last end : ℕ} → Types (comma_of first) l at m next → Types (named_on k).name m next q last → Types (rest false) q last u end
        → Types (items_text (comma_of first) (drop i ds) (names_from k left)) l at u end
    names_there e a b r = types_as (ap (λ x. pick x (comma_of first ++ ((named_on k).name ++ rest false)) (rest first)) (sym e) ∙ sym step) (types_behind a (types_behind b r))

    pub names_not : t ≡ false → {l m : List ℕ} {at next : ℕ} → Types (rest first) l at m next → Types (items_text (comma_of first) (drop i ds) (names_from k left)) l at m next
    names_not e r = types_as (ap (λ x. pick x (comma_of first ++ ((named_on k).name ++ rest false)) (rest first)) (sym e) ∙ sym step) r

-- ---- the way through `names`: what is left of the line from item i on, where no name stands yet or one does

abbrev pub names_rest : ℕ → ℕ → ℕ → Bool → ℕ → List ℕ
names_rest items first n none_yet i = items_text (comma_of none_yet) (drop i (flags items)) (names_from (first + i) (n - i))

module _ (items first n : ℕ) where
  pub names_begin : names_rest items first n true 0 ≡ items_text (comma_of true) (flags items) (names_from first n)
  names_begin =
      let ek : first + 0 ≡ first = omega arith in
      let en : n - 0 ≡ n = omega arith in
      ap₂ (λ k m. items_text (comma_of true) (flags items) (names_from k m)) ek en

  module _ (none_yet : Bool) (i : ℕ) where
    pub names_ends : n ≤ i → (l : List ℕ) (at : ℕ) → Types (names_rest items first n none_yet i) l at l at
    names_ends h = names_end none_yet (flags items) (first + i) i (n - i) (omega arith)

    module _ (h : i < n) {t : Bool} (et : t ≡ eqb (get_or (flags items) i 0) 1) where
      behind : (b : Bool) → names_rest items first n b (i + 1) ≡ items_text (comma_of b) (drop (i + 1) (flags items)) (names_from (first + i + 1) (n - i - 1))
      behind b =
          let ek : first + (i + 1) ≡ first + i + 1 = omega arith in
          let en : n - (i + 1) ≡ n - i - 1 = omega arith in
          ap₂ (λ k left. items_text (comma_of b) (drop (i + 1) (flags items)) (names_from k left)) ek en

      pub name_there : t ≡ true → {l m q u : List ℕ} {at next last end : ℕ} → Types (comma_of none_yet) l at m next → Types (named_on (first + i)).name m next q last → Types (names_rest items first n false (i + 1)) q last u end
          → Types (names_rest items first n none_yet i) l at u end
      name_there e a b r = names_there none_yet (flags items) (first + i) i (n - i) (λ z. omega arith) et e a b (types_as (behind false) r)

      pub name_not : t ≡ false → {l m : List ℕ} {at next : ℕ} → Types (names_rest items first n none_yet (i + 1)) l at m next → Types (names_rest items first n none_yet i) l at m next
      name_not e r = names_not none_yet (flags items) (first + i) i (n - i) (λ z. omega arith) et e (types_as (behind none_yet) r)

-- ---- the ways out of `name`

pub name_past : (k : ℕ) → 14 ≤ k → [] ≡ (named_at k).name
unfolding named_at named names048 names021 names007
name_past k h = ap (λ (nm : Named). nm.name) (sym (get_or-eq_default named nobody h))
