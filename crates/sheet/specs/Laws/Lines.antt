-- The lines of an item, by the keys that the code keeps: what it types of them.
use Rattle.std.specs.Prelude.{◌≡◌, Bool, true, false, ℕ, zero, suc, ◌+◌, ◌-◌, ◌≤◌, ◌<◌, ltb, eqb, ℤ, length, get_or, take}
use Rattle.std.proofs.Math.Path.{refl, ap}
use Rattle.std.proofs.Common.{sym, ◌∙◌, add-one, arith, eq-eqb, ne_eqb, lt-ltb, le-ltb, ltb-true, drop_of_length-le, drop-cons}
use borrow.Author.Tests.{ltb-false}
use mathlib.Core.List.{List, []}
use Rattle.std.proofs.Math.ListN.{drop}
use Rattle.codec.specs.Pick.{pick}
use Rattle.codec.specs.Item.{is_one}
use Rattle.layout.specs.Record.{number_at}
use Rattle.lengths.specs.Lines.{line_at, first_at}
use Rattle.shapes.specs.declared.Shape.{Shape}
use Rattle.shapes.specs.Shapes.{shape_at}
use Rattle.text.specs.Typing.{Types}
use Rattle.text.specs.Laws.Typing.{types_as, types_behind, types_none}
use Rattle.sheet.specs.Keys.{span, keys_from, keyed}
use Rattle.sheet.specs.Lines.{is_there, line_keyed, lines_keyed, item_keyed}

-- ---- the ways out of `span`

pub span_end : (t : List ℕ) (i : ℕ) → length t ≤ i → span t ≡ i + span (drop i t) → i ≡ span t
unfolding span
span_end t i h e = let z : span (drop i t) ≡ 0 = ap span (drop_of_length-le t h) in omega arith

module _ (t : List ℕ) (i : ℕ) (h : i < length t) (e : span t ≡ i + span (drop i t)) where
  here : span (drop i t) ≡ suc (pick (eqb (get_or t i 0) 32) 0 (span (drop (suc i) t)))
  unfolding span
  here = ap span (drop-cons t i 0 h)

  pub span-found : get_or t i 0 ≡ 32 → i + 1 ≡ span t
  span-found k = let z : span (drop i t) ≡ 1 = here ∙ rw (eq-eqb (get_or t i 0) 32 k) refl in omega arith

  pub span_on : (get_or t i 0 ≡ 32 → ⊥) → span t ≡ i + 1 + span (drop (i + 1) t)
  span_on k =
      let z : span (drop i t) ≡ suc (span (drop (i + 1) t)) = here ∙ rw (ne_eqb (get_or t i 0) 32 k) (ap (λ j. suc (span (drop j t))) (sym (add-one i))) in
      omega arith

-- no octet before i is a space
pub span_past : (t : List ℕ) (i : ℕ) → i ≤ length t → ((k : ℕ) → k < i → get_or t k 0 ≡ 32 → ⊥) → span t ≡ i + span (drop i t)
span_past t zero h f = omega arith
span_past t (suc i) h f =
    let n : suc i ≡ i + 1 = omega arith in
    rw n (span_on t i h (span_past t i (omega arith) (λ k l. f k (omega arith))) (f i (omega arith)))

-- ---- the ways out of `is_there` and `line`

module _ (ns : List ℤ) (n b parts base : ℕ) where
  pub there_sub : parts ≡ 0 → {f : ℕ} → f ≡ (line_at b).flag → {t : Bool} → t ≡ is_one (number_at ns (base + f)) → t ≡ is_there ns n b parts base
  unfolding is_there
  there_sub z ef et = et ∙ ap (λ f. is_one (number_at ns (base + f))) ef ∙ rw (eq-eqb parts 0 z) refl

  pub there_part : (parts ≡ 0 → ⊥) → ltb 0 n ≡ is_there ns n b parts base
  unfolding is_there
  there_part z = rw (ne_eqb parts 0 z) refl

  -- the count reaches chain part i
  pub there_reached : (i m : ℕ) → n ≡ m - i → (parts ≡ 0 → ⊥) → ltb i m ≡ is_there ns n b parts base
  there_reached i m en z = go (ltb i m) refl ∙ there_part z
    where
      go : (t : Bool) → ltb i m ≡ t → ltb i m ≡ ltb 0 n
      go true e = let h : i < m = ltb-true i m e in e ∙ sym (lt-ltb 0 n (omega arith))
      go false e = let h : m ≤ i = ltb-false i m e in e ∙ sym (le-ltb 0 n (omega arith))

  module _ (t : List ℕ) {c : Bool} (ec : c ≡ is_there ns n b parts base) where
    pub line_there : c ≡ true → {slot : ℕ} → slot ≡ base + first_at b → {l m : List ℕ} {at next : ℕ} → Types (keyed (keys_from [] t) ns slot) l at m next → Types (line_keyed t ns n b parts base) l at m next
    unfolding line_keyed
    line_there e es a = types_as (ap (keyed (keys_from [] t) ns) es ∙ rw (sym ec ∙ e) refl) a

    pub line_absent : c ≡ false → (l : List ℕ) (at : ℕ) → Types (line_keyed t ns n b parts base) l at l at
    unfolding line_keyed
    line_absent e l at = types_as (rw (sym ec ∙ e) refl) (types_none l at)

-- ---- the ways out of `lines` and `item`

module _ (t : List ℕ) (ns : List ℤ) (n b parts left base : ℕ) where
  pub lines_end : left ≡ 0 → (l : List ℕ) (at : ℕ) → Types (lines_keyed t ns n b parts left base) l at l at
  unfolding lines_keyed
  lines_end e l at = rw e (types_none l at)

  -- the first line has the octets before end, the others those behind it
  pub lines_on : (left ≡ 0 → ⊥) → {end : ℕ} → end ≡ span t → {own behind : List ℕ} → own ≡ take end t → behind ≡ drop end t → {l m : List ℕ} {at next : ℕ} → Types (line_keyed own ns n b parts base) l at m next
      → {j c p x : ℕ} → j ≡ n - 1 → c ≡ b + 1 → p ≡ parts - 1 → x ≡ left - 1 → {q : List ℕ} {last : ℕ} → Types (lines_keyed behind ns j c p x base) m next q last
      → Types (lines_keyed t ns n b parts left base) l at q last
  unfolding lines_keyed
  lines_on some {end} ee {own} {behind} eo eb {l} {m} {at} {next} a {j} {c} {p} {x} ej ec ep ex {q} {last} r = go left some (types_as same r)
    where
      same : lines_keyed behind ns j c p x base ≡ lines_keyed (drop (span t) t) ns (n - 1) (b + 1) (parts - 1) (left - 1) base
      same = rw (eb, ee, ej, ec, ep, ex) refl

      go : (left : ℕ) → (left ≡ 0 → ⊥) → Types (lines_keyed (drop (span t) t) ns (n - 1) (b + 1) (parts - 1) (left - 1) base) m next q last → Types (lines_keyed t ns n b parts left base) l at q last
      go zero z r = absurd (z refl)
      go (suc i) z r =
          let e : suc i - 1 ≡ i = omega arith in
          types_behind (types_as (ap (λ u. line_keyed u ns n b parts base) (eo ∙ ap (λ i. take i t) ee)) a) (types_as (ap (λ x. lines_keyed (drop (span t) t) ns (n - 1) (b + 1) (parts - 1) x base) e) r)

module _ (t : List ℕ) (ns : List ℤ) (n k base : ℕ) {s : Shape} (es : s ≡ shape_at k) {l m : List ℕ} {at next : ℕ} where
  pub item_single : s.1 ≡ 0 → Types (lines_keyed t ns 1 s.0 1 1 base) l at m next → Types (item_keyed t ns n k base) l at m next
  unfolding item_keyed
  item_single z a = types_as (ap (λ (x : Shape). lines_keyed t ns 1 x.0 1 1 base) es ∙ rw (eq-eqb (shape_at k).1 0 (ap (λ (x : Shape). x.1) (sym es) ∙ z)) refl) a

  pub item_chained : (s.1 ≡ 0 → ⊥) → Types (lines_keyed t ns n s.0 s.1 (s.1 + s.2) base) l at m next → Types (item_keyed t ns n k base) l at m next
  unfolding item_keyed
  item_chained z a =
      types_as (ap (λ (x : Shape). lines_keyed t ns n x.0 x.1 (x.1 + x.2) base) es ∙ rw (ne_eqb (shape_at k).1 0 (λ e. z (ap (λ (x : Shape). x.1) es ∙ e))) refl) a
