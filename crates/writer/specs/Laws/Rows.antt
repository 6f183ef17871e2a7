-- The row of items, laid one behind the other.
use Rattle.std.specs.Prelude.{◌≡◌, Bool, true, false, T, get_or, drop}
use Rattle.std.proofs.Math.Path.{sym, subst, subst₂}
use Rattle.std.proofs.Common.{ap, ◌∙◌, leb→le}
use mathlib.Core.List.{List, ◌∷◌}
use Prim.Native.Nat.{ℕ, ◌+◌, ◌-◌, ◌<◌}
use native.Mathlib.Omega.{arith}
use Rattle.std.proofs.Math.Dec.{eqb}
use Rattle.std.proofs.Math.IntN.{ℤ}
use Rattle.std.proofs.Math.ListN.{take}
use Rattle.codec.specs.Codec.{opt, seq}
use Rattle.codec.specs.Line.{Held}
use Rattle.codec.specs.Item.{Item, slots, nothing, item}
use Rattle.codec.specs.Field.{no_row, uncons, is_cons, first_flag, next_flags, place, row}
use Rattle.layout.specs.Laws.Slots.{Holds, holds_item}
use Rattle.shapes.specs.Shapes.{item_at}
use Rattle.spots.specs.Spots.{spot_at, item_on, spot_ok, row_ok, items_from, numbers_on, held_from}
use Rattle.spots.specs.Laws.Rows.{first_drop, next_drop, items_on, held_on, row_first}
use Rattle.writer.specs.Laying.{Lays}
use Rattle.writer.specs.Laws.Laying.{lays_via, lays_there, lays_none, lays_absent, lays_seq}
use Rattle.writer.specs.Rows.{place_on}
use Rattle.papers.specs.Papers.{SLOTS}

module _ (k n : ℕ) (ns : List ℤ) {t : Bool} where
  pub place_there : t ≡ true → T (spot_ok k) → {j base : ℕ} → j ≡ (spot_at k).0 → base ≡ (spot_at k).1 → {l m : List ℕ} {at next : ℕ}
      → ((zs : List ℤ) → Holds ns base zs → Lays (item (item_at j)) (n, zs) l at m next) → Lays (place_on k t) (n, numbers_on k ns) l at m next
  unfolding place_on numbers_on spot_ok
  place_there e ok {j} {base} ej eb {l} {m} {at} {next} h =
      let zs : List ℤ = take (slots (item_on k)) (drop (spot_at k).1 ns) in
      lays_there (nothing (slots (item_on k))) (item (item_on k)) e
      (subst (λ i. Lays (item (item_at i)) (n, zs) l at m next) ej
      (h zs (subst (λ i. Holds ns i zs) (sym eb) (holds_item ns (spot_at k).1 (slots (item_on k)) (leb→le ((spot_at k).1 + slots (item_on k)) SLOTS ok)))))

  pub place_not : t ≡ false → (l : List ℕ) (at : ℕ) → Lays (place_on k t) (n, numbers_on k ns) l at l at
  unfolding place_on
  place_not e l at = lays_absent (nothing (slots (item_on k))) (item (item_on k)) e

-- ---- the row

module _ (ds ps : List ℕ) (ns : List ℤ) (k i left : ℕ) where
  pub row_end : left ≡ 0 → (l : List ℕ) (at : ℕ) → Lays (row ds (items_from k left)) (held_from k left i ps ns) l at l at
  unfolding row items_from
  row_end e l at = rw e (lays_none no_row)

  module _ (some : left ≡ 0 → ⊥) (ok : T (row_ok k left)) where
    pub row_on : {t : Bool} → t ≡ eqb (get_or ds i 0) 1 → {c : ℕ} → c ≡ get_or ps i 0 → {l m q : List ℕ} {at next last : ℕ} → Lays (place_on k t) (c, numbers_on k ns) l at m next
        → Lays (row (drop (i + 1) ds) (items_from (k + 1) (left - 1))) (held_from (k + 1) (left - 1) (i + 1) ps ns) m next q last
        → Lays (row (drop i ds) (items_from k left)) (held_from k left i ps ns) l at q last
    unfolding row place_on uncons
    row_on {t} et {c} ec {l} {m} {q} {at} {next} {last} h r =
        let d : ℕ = first_flag (drop i ds) in
        let its : List Item = items_from (k + 1) (left - 1) in
        let v : Held = (get_or ps i 0, numbers_on k ns) in
        let vs : List Held = held_from (k + 1) (left - 1) (i + 1) ps ns in
        let there : Lays (place d (item_on k)) v l at m next
        = subst₂ (λ b j. Lays (opt (nothing (slots (item_on k))) b (item (item_on k))) (j, numbers_on k ns) l at m next) (et ∙ sym (ap (λ x. eqb x 1) (first_drop i ds))) ec h in
        let rest : Lays (row (next_flags (drop i ds)) its) vs m next q last = subst (λ x. Lays (row x its) vs m next q last) (sym (next_drop i ds)) r in
        subst₂ (λ x y. Lays (row (drop i ds) x) y l at q last) (sym (items_on k left some)) (sym (held_on k left some ok i ps ns))
        (lays_via (λ (p : Held × List Held). p.0 ∷ p.1) uncons is_cons (seq (place d (item_on k)) (λ _. row (next_flags (drop i ds)) its)) {b = v ∷ vs}
        (lays_seq (place d (item_on k)) (λ _. row (next_flags (drop i ds)) its) {a = v} {b = vs} there (λ _. rest)))

-- ---- the loop of `row`, i items being laid

module _ (ds ps : List ℕ) (ns : List ℤ) (k n : ℕ) where
  -- the items that are left
  abbrev Left : ℕ → List ℕ → ℕ → List ℕ → ℕ → Type 0
  Left i l at q last = Lays (row (drop i ds) (items_from (k + i) (n - i))) (held_from (k + i) (n - i) i ps ns) l at q last

  -- the row, and that what lays the items that are left, from where the field is, lays the row from where it was
  abbrev Whole : List ℕ → ℕ → List ℕ → ℕ → Type 0
  Whole l at q last = Lays (row ds (items_from k n)) (held_from k n 0 ps ns) l at q last

  abbrev pub RowBehind : (i : ℕ) (l : List ℕ) (at : ℕ) (m : List ℕ) (next : ℕ) → Type 0
  RowBehind i l at m next = (q : List ℕ) (last : ℕ) → Left i m next q last → Whole l at q last

  pub row_begins : T (row_ok k n) → (l : List ℕ) (at : ℕ) → T (row_ok (k + 0) (n - 0)) × RowBehind 0 l at l at
  row_begins ok l at =
      let ek : k + 0 ≡ k = omega arith in
      let en : n - 0 ≡ n = omega arith in
      rw (ek, en) (ok, λ q last rest. rest)

  module _ (i : ℕ) (h : i < n) (ok : T (row_ok (k + i) (n - i))) where
    ahead : n - i ≡ 0 → ⊥
    ahead e = omega arith

    pub row_asks : T (spot_ok (k + i)) × T (row_ok (k + (i + 1)) (n - (i + 1)))
    row_asks =
        let ek : k + (i + 1) ≡ k + i + 1 = omega arith in
        let el : n - (i + 1) ≡ n - i - 1 = omega arith in
        rw (ek, el) (row_first (k + i) (n - i) ahead ok)

    pub row_next : {t : Bool} → t ≡ eqb (get_or ds i 0) 1 → {c : ℕ} → c ≡ get_or ps i 0 → {m p : List ℕ} {next after : ℕ} → Lays (place_on (k + i) t) (c, numbers_on (k + i) ns) m next p after
        → {l : List ℕ} {at : ℕ} → RowBehind i l at m next → RowBehind (i + 1) l at p after
    row_next et ec {p = p} {after = after} one so_far q last rest =
        let ek : k + (i + 1) ≡ k + i + 1 = omega arith in
        let el : n - (i + 1) ≡ n - i - 1 = omega arith in
        so_far q last (row_on ds ps ns (k + i) i (n - i) ahead ok et ec one (subst₂ (λ a b. Lays (row (drop (i + 1) ds) (items_from a b)) (held_from a b (i + 1) ps ns) p after q last) ek el rest))

  pub row_laid : (i : ℕ) → n - i ≡ 0 → {l m : List ℕ} {at next : ℕ} → RowBehind i l at m next → Whole l at m next
  row_laid i e {m = m} {next = next} so_far = so_far m next (row_end (drop i ds) ps ns (k + i) i (n - i) e m next)
