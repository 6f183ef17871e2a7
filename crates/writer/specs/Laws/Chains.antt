-- Chains, subfields and items: each line is laid behind the one before it.
use Rattle.std.specs.Prelude.{◌≡◌, refl, Bool, true, ℤ}
use Rattle.std.proofs.Common.{sym, ◌∙◌, ltb-true, lt-ltb, ne_eqb, ltb→lt}
use Rattle.std.proofs.Math.Path.{ap, subst, subst₂}
use Rattle.std.proofs.Math.Bool.{false}
use mathlib.Core.List.{List, ◌∷◌}
use Prim.Native.Nat.{ℕ, zero, suc, ◌+◌, ◌-◌, ◌<◌}
use native.Mathlib.Omega.{arith}
use Rattle.std.proofs.lemmas.Bool.{eqb-false}
use Rattle.std.proofs.Math.Dec.{T, ltb, eqb, eqb-suc-zero}
use Rattle.std.proofs.Math.ListN.{length, take, drop}
use Rattle.codec.specs.Pick.{pick}
use Rattle.codec.specs.Codec.{Codec, opt, guard}
use Rattle.codec.specs.Line.{Line, Held, count, line}
use Rattle.codec.specs.Item.{slots_of, nothing, beside, fx_of, chain, is_one, flagged, subfields, item}
use Rattle.codec.proofs.Laws.Tests.{and_l, and_r}
use Rattle.codec.proofs.Laws.Item.{chain_length}
use Rattle.layout.specs.Record.{number_at}
use Rattle.layout.specs.Laws.Slots.{Holds, holds_take, holds_drop}
use Rattle.lengths.specs.Lines.{line_at, first_at, count_at}
use Rattle.shapes.specs.declared.Shape.{Shape}
use Rattle.shapes.specs.Shapes.{item_at, lines_from, flags_under, item_of, in_turn, shape_at}
use Rattle.shapes.specs.Laws.Shapes.{Shaped, shaped-well, shape_single, shape_chained}
use Rattle.shapes.specs.Laws.Runs.{lines_on, turn_first, turn_rest}
use Rattle.writer.specs.Laying.{Lays}
use Rattle.writer.specs.Laws.Laying.{lays_via, lays_guard, lays_there, lays_none, lays_absent, lays_beside}
use Rattle.writer.specs.Chains.{goes_on}

pub goes_not : (count left : ℕ) → left ≡ 0 → false ≡ goes_on count left
unfolding goes_on
goes_not count left e = rw e

pub goes_by : (count left : ℕ) → (left ≡ 0 → ⊥) → ltb 1 count ≡ goes_on count left
unfolding goes_on
goes_by count left h = rw (ne_eqb left 0 h) refl

pub goes : (n left : ℕ) → goes_on n left ≡ true → (left ≡ 0 → ⊥) × (1 < n)
unfolding goes_on
goes n left e = go (eqb left 0) refl e
  where
    go : (b : Bool) → eqb left 0 ≡ b → pick b false (ltb 1 n) ≡ true → (left ≡ 0 → ⊥) × (1 < n)
    go true eb h = let z : ◌≡◌ {A = ℕ} 0 1 = cc in absurd (omega arith)
    go false eb h = (eqb-false left 0 eb, ltb-true 1 n h)

-- FX of the first of n parts
fx_zero : (n : ℕ) → ltb 1 n ≡ false → fx_of n ≡ 0
unfolding fx_of
fx_zero n e = rw e refl

fx_one : (n : ℕ) → 1 < n → fx_of n ≡ 1
unfolding fx_of
fx_one n h = rw (lt-ltb 1 n h) refl

-- ns are the slots of the record, zs the numbers of the chain, n its parts
module _ (ns : List ℤ) (b left n slot : ℕ) {l m : List ℕ} {at next : ℕ} where
  pub chain_last : goes_on n left ≡ false → ((us : List ℤ) → Holds ns slot us → Lays (line (line_at b)) (0, us) l at m next)
      → (zs : List ℤ) → Holds ns slot zs → Lays (chain (line_at b) (lines_from (b + 1) left)) (n, zs) l at m next
  unfolding chain lines_from goes_on
  chain_last e h zs hz = go left e
    where
      go : (left : ℕ) → pick (eqb left 0) false (ltb 1 n) ≡ false → Lays (chain (line_at b) (lines_from (b + 1) left)) (n, zs) l at m next
      go zero e =
          lays_via (λ (v : Held). (1, v.1)) (λ (v : Held). (0, v.1)) (λ v. eqb v.0 1) (guard 7 (λ v. eqb v.0 0) (line (line_at b)))
          (lays_guard 7 (λ v. eqb v.0 0) (line (line_at b)) (h zs hz))
      go (suc j) e =
          let f : fx_of n ≡ 0 = fx_zero n (subst (λ x. pick x false (ltb 1 n) ≡ false) (eqb-suc-zero j) e) in
          let d : Held → Codec Held = λ v. opt (nothing (slots_of (line_at (b + 1) ∷ lines_from (b + 1 + 1) j))) (eqb v.0 1) (chain (line_at (b + 1)) (lines_from (b + 1 + 1) j)) in
          lays_via (λ (a : (ℕ × ℕ) × List ℤ). (suc a.0.1, a.1)) (λ (v : Held). ((fx_of v.0, v.0 - 1), v.1)) (λ v. ltb 0 v.0) (beside (count_at b) (line (line_at b)) d)
          (lays_beside (count_at b) (line (line_at b)) d (subst (λ x. Lays (line (line_at b)) (x, take (count_at b) zs) l at m next) (sym f) (h (take (count_at b) zs) (holds_take (count_at b) hz)))
          (λ t. lays_absent (nothing (slots_of (line_at (b + 1) ∷ lines_from (b + 1 + 1) j))) (chain (line_at (b + 1)) (lines_from (b + 1 + 1) j)) (ap (λ x. eqb x 1) f)))

  pub chain_on : goes_on n left ≡ true → ((us : List ℤ) → Holds ns slot us → Lays (line (line_at b)) (1, us) l at m next) → {after : ℕ} → after ≡ slot + count_at b → {q : List ℕ} {last : ℕ}
      → ((us : List ℤ) → Holds ns after us → Lays (chain (line_at (b + 1)) (lines_from (b + 1 + 1) (left - 1))) (n - 1, us) m next q last)
      → (zs : List ℤ) → Holds ns slot zs → Lays (chain (line_at b) (lines_from (b + 1) left)) (n, zs) l at q last
  unfolding chain lines_from
  chain_on e h {after} ea {q} {last} k zs hz = go left (goes n left e).0 k
    where
      go : (left : ℕ) → (left ≡ 0 → ⊥) → ((us : List ℤ) → Holds ns after us → Lays (chain (line_at (b + 1)) (lines_from (b + 1 + 1) (left - 1))) (n - 1, us) m next q last)
          → Lays (chain (line_at b) (lines_from (b + 1) left)) (n, zs) l at q last
      go zero z k = absurd (z refl)
      go (suc j) z k =
          let f : fx_of n ≡ 1 = fx_one n (goes n left e).1 in
          let w : suc j - 1 ≡ j = omega arith in
          let d : Held → Codec Held = λ v. opt (nothing (slots_of (line_at (b + 1) ∷ lines_from (b + 1 + 1) j))) (eqb v.0 1) (chain (line_at (b + 1)) (lines_from (b + 1 + 1) j)) in
          lays_via (λ (a : (ℕ × ℕ) × List ℤ). (suc a.0.1, a.1)) (λ (v : Held). ((fx_of v.0, v.0 - 1), v.1)) (λ v. ltb 0 v.0) (beside (count_at b) (line (line_at b)) d)
          (lays_beside (count_at b) (line (line_at b)) d (subst (λ x. Lays (line (line_at b)) (x, take (count_at b) zs) l at m next) (sym f) (h (take (count_at b) zs) (holds_take (count_at b) hz)))
          (λ t. lays_there (nothing (slots_of (line_at (b + 1) ∷ lines_from (b + 1 + 1) j))) (chain (line_at (b + 1)) (lines_from (b + 1 + 1) j)) (ap (λ x. eqb x 1) f)
          (subst (λ i. Lays (chain (line_at (b + 1)) (lines_from (b + 1 + 1) i)) (n - 1, drop (count_at b) zs) m next q last) w (k (drop (count_at b) zs) (holds_drop (count_at b) ea hz)))))

-- ---- subfields: zs are the numbers of the chain, us of the subfields

module _ (ns : List ℤ) (b base : ℕ) (zs : List ℤ) (hz : Holds ns base zs) where
  -- the flag is read from the slots
  flag_is : T (ltb (line_at b).flag (length zs)) → {t : Bool} {f : ℕ} → f ≡ (line_at b).flag → t ≡ is_one (number_at ns (base + f)) → flagged zs (line_at b) ≡ t
  flag_is u {t} {f} ef et = sym (et ∙ ap is_one (ap (λ j. number_at ns (base + j)) ef ∙ hz.number (line_at b).flag (ltb→lt (line_at b).flag (length zs) u)))

  module _ (u : T (ltb (line_at b).flag (length zs))) {t : Bool} {f : ℕ} (ef : f ≡ (line_at b).flag) (et : t ≡ is_one (number_at ns (base + f))) (us : List ℤ) where
    pub sub_there : t ≡ true → {l m : List ℕ} {at next : ℕ} → Lays (line (line_at b)) (0, us) l at m next → Lays (opt (nothing (count_at b)) (flagged zs (line_at b)) (line (line_at b))) (0, us) l at m next
    sub_there e h = lays_there (nothing (count_at b)) (line (line_at b)) (flag_is u ef et ∙ e) h

    pub sub_absent : t ≡ false → (l : List ℕ) (at : ℕ) → Lays (opt (nothing (count_at b)) (flagged zs (line_at b)) (line (line_at b))) (0, us) l at l at
    sub_absent e l at = lays_absent (nothing (count_at b)) (line (line_at b)) (flag_is u ef et ∙ e)

module _ (ns : List ℤ) (b left base : ℕ) (zs us : List ℤ) where
  pub subs_end : left ≡ 0 → (l : List ℕ) (at : ℕ) → Lays (subfields zs (lines_from b left)) (0, us) l at l at
  unfolding subfields lines_from
  subs_end e l at = rw e (lays_none (nothing 0))

  module _ (some : left ≡ 0 → ⊥) (u : T (flags_under (length zs) (lines_from b left))) where
    pub first_under : T (ltb (line_at b).flag (length zs)) × T (flags_under (length zs) (lines_from (b + 1) (left - 1)))
    unfolding flags_under lines_from
    first_under = go left some u
      where
        go : (left : ℕ) → (left ≡ 0 → ⊥) → T (flags_under (length zs) (lines_from b left)) → T (ltb (line_at b).flag (length zs)) × T (flags_under (length zs) (lines_from (b + 1) (left - 1)))
        go zero z u = absurd (z refl)
        go (suc j) z u =
            let w : suc j - 1 ≡ j = omega arith in
            (and_l (ltb (line_at b).flag (length zs)) _ u, rw w (and_r (ltb (line_at b).flag (length zs)) _ u))

    pub subs_on : {l m q : List ℕ} {at next last : ℕ} → Lays (opt (nothing (count_at b)) (flagged zs (line_at b)) (line (line_at b))) (0, take (count_at b) us) l at m next
        → Lays (subfields zs (lines_from (b + 1) (left - 1))) (0, drop (count_at b) us) m next q last → Lays (subfields zs (lines_from b left)) (0, us) l at q last
    unfolding subfields lines_from
    subs_on {l} {m} {q} {at} {next} {last} h k = go left some k
      where
        go : (left : ℕ) → (left ≡ 0 → ⊥) → Lays (subfields zs (lines_from (b + 1) (left - 1))) (0, drop (count_at b) us) m next q last → Lays (subfields zs (lines_from b left)) (0, us) l at q last
        go zero z k = absurd (z refl)
        go (suc j) z k =
            let w : suc j - 1 ≡ j = omega arith in
            lays_via (λ (a : (ℕ × ℕ) × List ℤ). (0, a.1)) (λ (v : Held). ((0, 0), v.1)) (λ v. eqb v.0 0)
            (beside (count_at b) (opt (nothing (count_at b)) (flagged zs (line_at b)) (line (line_at b))) (λ _. subfields zs (lines_from (b + 1) j)))
            (lays_beside (count_at b) (opt (nothing (count_at b)) (flagged zs (line_at b)) (line (line_at b))) (λ _. subfields zs (lines_from (b + 1) j)) h
            (λ t. subst (λ i. Lays (subfields zs (lines_from (b + 1) i)) (0, drop (count_at b) us) m next q last) w k))

-- ---- the loop of `subfields`, i of them being laid

module _ (ns : List ℤ) (base b left : ℕ) where
  -- the subfields that are left, and all of them
  abbrev Left : ℕ → List ℕ → ℕ → List ℕ → ℕ → Type 0
  Left i l at q last = (zs us : List ℤ) → Holds ns base zs → T (flags_under (length zs) (lines_from (b + i) (left - i))) → ((left - i ≡ 0 → ⊥) → Holds ns (base + first_at (b + i)) us)
      → Lays (subfields zs (lines_from (b + i) (left - i))) (0, us) l at q last

  abbrev Whole : List ℕ → ℕ → List ℕ → ℕ → Type 0
  Whole l at q last = (zs us : List ℤ) → Holds ns base zs → T (flags_under (length zs) (lines_from b left)) → ((left ≡ 0 → ⊥) → Holds ns (base + first_at b) us)
      → Lays (subfields zs (lines_from b left)) (0, us) l at q last

  -- what lays the subfields that are left, from where the field is, lays all from where it was
  abbrev pub SubsBehind : (i : ℕ) (l : List ℕ) (at : ℕ) (m : List ℕ) (next : ℕ) → Type 0
  SubsBehind i l at m next = (q : List ℕ) (last : ℕ) → Left i m next q last → Whole l at q last

  pub subs_begin : T (in_turn b left) → (l : List ℕ) (at : ℕ) → T (in_turn (b + 0) (left - 0)) × SubsBehind 0 l at l at
  subs_begin turn l at =
      let eb : b + 0 ≡ b = omega arith in
      let el : left - 0 ≡ left = omega arith in
      rw (eb, el) (turn, λ q last rest. rest)

  module _ (i : ℕ) (h : i < left) (turn : T (in_turn (b + i) (left - i))) where
    ahead : left - i ≡ 0 → ⊥
    ahead e = omega arith

    -- the slots of the next subfield begin behind
    next_slot : (left - i - 1 ≡ 0 → ⊥) → base + first_at (b + i + 1) ≡ base + first_at (b + i) + count_at (b + i)
    next_slot more = let f = turn_first (b + i) (left - i) more turn in omega (arith, f)

    pub subs_turn : T (in_turn (b + (i + 1)) (left - (i + 1)))
    subs_turn =
        let eb : b + (i + 1) ≡ b + i + 1 = omega arith in
        let el : left - (i + 1) ≡ left - i - 1 = omega arith in
        rw (eb, el) (turn_rest (b + i) (left - i) ahead turn)

    pub subs_next : {m p : List ℕ} {next after : ℕ}
        → ((zs us : List ℤ) → Holds ns base zs → T (ltb (line_at (b + i)).flag (length zs)) → Holds ns (base + first_at (b + i)) us
        → Lays (opt (nothing (count_at (b + i))) (flagged zs (line_at (b + i))) (line (line_at (b + i)))) (0, us) m next p after)
        → {l : List ℕ} {at : ℕ} → SubsBehind i l at m next → SubsBehind (i + 1) l at p after
    subs_next {p = p} {after = after} one so_far q last rest =
        let n : ℕ = count_at (b + i) in
        let eb : b + (i + 1) ≡ b + i + 1 = omega arith in
        let el : left - (i + 1) ≡ left - i - 1 = omega arith in
        so_far q last (λ zs us hz u hu.
        let v = first_under ns (b + i) (left - i) base zs us ahead u in
        let there = one zs (take n us) hz v.0 (holds_take n (hu ahead)) in
        subs_on ns (b + i) (left - i) base zs us ahead u there
        (subst₂ (λ x y. T (flags_under (length zs) (lines_from x y)) → ((y ≡ 0 → ⊥) → Holds ns (base + first_at x) (drop n us)) → Lays (subfields zs (lines_from x y)) (0, drop n us) p after q last)
        eb el (rest zs (drop n us) hz) v.1 (λ more. holds_drop n (next_slot more) (hu ahead))))

  pub subs_laid : (i : ℕ) → left - i ≡ 0 → {l m : List ℕ} {at next : ℕ} → SubsBehind i l at m next → Whole l at m next
  subs_laid i e {m = m} {next = next} so_far = so_far m next (λ zs us hz u hu. subs_end ns (b + i) (left - i) base zs us e m next)

-- ---- items, by their shape

module _ (k : ℕ) {s : Shape} (es : s ≡ shape_at k) where
  well : Shaped s
  well = shaped-well k es

  pub chain_turn : (s.1 ≡ 0 → ⊥) → T (in_turn s.0 (s.1 - 1 + 1))
  chain_turn h = let e : s.1 - 1 + 1 ≡ s.1 = omega arith in rw e well.parts_turn

  -- the first line of an item begins with it
  at_base : (base : ℕ) → base + first_at s.0 ≡ base
  at_base base = let e : first_at s.0 ≡ 0 = well.begins in omega arith

  module _ (ns : List ℤ) (base n : ℕ) {l m : List ℕ} {at next : ℕ} where
    pub item_single : s.1 ≡ 0 → ((zs : List ℤ) → Holds ns (base + first_at s.0) zs → Lays (line (line_at s.0)) (n, zs) l at m next)
        → (zs : List ℤ) → Holds ns base zs → Lays (item (item_at k)) (n, zs) l at m next
    unfolding item
    item_single z h zs hz =
        subst (λ it. Lays (item it) (n, zs) l at m next) (sym (shape_single k es z)) (h zs (subst (λ j. Holds ns j zs) (sym (at_base base)) hz))

    pub item_chained : (s.1 ≡ 0 → ⊥) → ((zs : List ℤ) → Holds ns (base + first_at s.0) zs → Lays (chain (line_at s.0) (lines_from (s.0 + 1) (s.1 - 1))) (n, zs) l at m next)
        → {q : List ℕ} {last : ℕ}
        → ((zs us : List ℤ) → Holds ns base zs → T (flags_under (length zs) (lines_from (s.0 + s.1) s.2)) → ((s.2 ≡ 0 → ⊥) → Holds ns (base + first_at (s.0 + s.1)) us)
        → Lays (subfields zs (lines_from (s.0 + s.1) s.2)) (0, us) m next q last)
        → (zs : List ℤ) → Holds ns base zs → Lays (item (item_at k)) (n, zs) l at q last
    unfolding item item_of lines_from
    item_chained z h {q} {last} g zs hz =
        let p : Line = line_at s.0 in
        let qs : List Line = lines_from (s.0 + 1) (s.1 - 1) in
        let parts : lines_from s.0 s.1 ≡ p ∷ qs = lines_on s.0 s.1 z in
        let c : ℕ = slots_of (p ∷ qs) in
        let behind : s.0 + 1 + (s.1 - 1) ≡ s.0 + s.1 = omega arith in
        let ss : List Line = lines_from (s.0 + 1 + (s.1 - 1)) s.2 in
        subst (λ it. Lays (item it) (n, zs) l at q last) (sym (shape_chained k es z))
        (lays_via (λ (a : (ℕ × ℕ) × List ℤ). (a.0.0, a.1)) (λ (v : Held). ((v.0, 0), v.1)) (λ v. true) (beside c (chain p qs) (λ a. subfields a.1 ss))
        (lays_beside c (chain p qs) (λ a. subfields a.1 ss) (h (take c zs) (subst (λ j. Holds ns j (take c zs)) (sym (at_base base)) (holds_take c hz)))
        (λ t.
        let long : length (take c zs) ≡ slots_of (lines_from s.0 s.1) = chain_length p qs (n, take c zs) t ∙ ap slots_of (sym parts) in
        subst (λ j. Lays (subfields (take c zs) (lines_from j s.2)) (0, drop c zs) m next q last) (sym behind)
        (g (take c zs) (drop c zs) (holds_take c hz) (subst (λ j. T (flags_under j (lines_from (s.0 + s.1) s.2))) (sym long) well.flags_are_under)
        (λ some. holds_drop c (ap (base +◌) (well.meet some ∙ ap slots_of parts)) hz)))))
