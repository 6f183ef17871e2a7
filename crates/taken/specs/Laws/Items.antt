-- An item by its shape: the numbers that the guess has, and what it leaves of the text.
use Rattle.std.specs.Prelude.{◌≡◌, Bool, ◌&&◌, ltb, ℤ, pos, length, take, replicate}
use Rattle.std.proofs.Math.Path.{refl, sym, ap, ap₂, subst}
use Rattle.std.proofs.Common.{◌∙◌, eq-eqb, ne_eqb, lt-ltb, le-ltb, eqb-true, ltb-false, ltb→lt, length-append}
use Rattle.std.proofs.Math.Bool.{true, false}
use mathlib.Core.List.{List, [], ◌∷◌, ◌++◌}
use Prim.Native.Nat.{ℕ, zero, suc, ◌+◌, ◌-◌, ◌%◌, ◌≤◌, ◌<◌}
use Rattle.std.proofs.Math.Nat.{mod-eq_of_lt}
use native.Mathlib.Omega.{arith}
use Rattle.std.proofs.lemmas.Bool.{eqb-false}
use Rattle.std.proofs.Math.Dec.{T, eqb, eqb→eq}
use Rattle.std.proofs.Math.ListN.{drop, get_or-eq_default}
use Rattle.std.proofs.lemmas.List.{replicate-append-replicate}
use Rattle.std.proofs.lemmas.List.Edits.{sets}
use Rattle.codec.specs.Pick.{pick}
use Rattle.codec.specs.Line.{count}
use Rattle.codec.specs.Item.{Item, single, slots_of, slots, lines_of}
use Rattle.codec.proofs.Laws.Tests.{and_l, and_r, up_to_lem}
use Rattle.codec.proofs.Laws.Sets.{sets_append}
use Rattle.papers.specs.Cat048.{cat048}
use Rattle.papers.specs.Cat021.{cat021}
use Rattle.papers.specs.Cat007.{cat007}
use Rattle.papers.specs.Papers.{SLOTS}
use Rattle.papers.specs.Names.{Key, Named, names048, names021, names007}
use Rattle.scope.specs.Sheet.{parts_there}
use Rattle.lengths.specs.Lines.{items, placed_at, placed, placed_in, placed_from, line_at, first_at}
use Rattle.shapes.specs.Shapes.{NO_LINE, item_at, lines_from, item_of, shape_at, shapes, shapes_from, shape_of, in_turn}
use Rattle.shapes.specs.declared.Shape.{Shape}
use Rattle.shapes.specs.Laws.Runs.{lines_on}
use Rattle.shapes.specs.Laws.Shapes.{Shaped, shaped-well, shape_single, shape_chained}
use Rattle.sheet.specs.Items.{nobody, named, named_at}
use Rattle.guess.specs.Lines.{behind_octet, behind_feed}
use Rattle.guess.specs.Guess.{lines_for, bounded_in, key_text, head_of, taken_lines, left_lines, open_in, bits, count_in, behind_count, there_in, keys_in, item_numbers, item_in, item_left}
use Rattle.guess.proofs.Laws.Numbers.{bounded_in_lem}
use Rattle.taken.specs.Tables.{step_at, head_at, step_of, groups, groups_in, heads, heads_in, line_heads}
use Rattle.taken.specs.Lines.{opens_from, taken_from, left_from, flags_from}
use Rattle.taken.specs.Items.{parts_in, behind_parts}
use Rattle.taken.specs.Laws.Numbers.{steady}
use Rattle.taken.specs.Laws.Lines.{steady_from, plain_from, keyed_from, Room, steady-length, lines_taken, lines_left, flags_open, parts_open, subfields_open, flags-length, lines_slots, lines_blank, flags-blank}

-- ---- what the walk asks of an item, computed for each

-- the first n parts have as many flags as there are slots before line b + n
unfoldable flags_before : ℕ → ℕ → ℕ → Bool
flags_before b parts zero = true
flags_before b parts (suc n) = eqb (slots_of (take (suc n) (lines_from b parts))) (first_at (b + suc n)) && flags_before b parts n

unfoldable alone : ℕ → ℕ → Named → Bool
alone b n nm = plain_from b n && steady_from b n nm.keys

unfoldable under : ℕ → ℕ → ℕ → Named → Bool
under b parts n nm =
    keyed_from (b + parts) (drop parts nm.keys) && (steady_from (b + parts) n (drop parts nm.keys) && (eqb (first_at (b + parts)) n && flags_before b parts parts))

unfoldable right : Shape → Named → Bool
right s nm = pick (eqb s.1 0) (alone s.0 1 nm) (pick (eqb s.2 0) (alone s.0 s.1 nm) (under s.0 s.1 s.2 nm))

all_right : (k : ℕ) → T (right (shape_at k) (named_at k))
unfolding right alone under flags_before plain_from steady_from keyed_from steady step_at head_at step_of groups groups_in heads heads_in line_heads head_of key_text lines_for count slots_of named_at named names048 names021 names007 lines_from shape_at shapes shapes_from shape_of placed_at placed placed_in placed_from lines_of items cat048 cat021 cat007
all_right k = go (ltb k 14) refl
  where
    go : (b : Bool) → ltb k 14 ≡ b → T (right (shape_at k) (named_at k))
    go true e = up_to_lem (λ j. right (shape_at j) (named_at j)) 14 tt k (ltb→lt k 14 (subst T (sym e) tt))
    go false e =
        let h : 14 ≤ k = ltb-false k 14 e in
        subst (λ s. T (right s (named_at k))) (sym (get_or-eq_default shapes (NO_LINE, 0, 0) h)) (subst (λ nm. T (right (NO_LINE, 0, 0) nm)) (sym (get_or-eq_default named nobody h)) tt)

-- ---- the parts of a chain

run_length : (b n : ℕ) → length (lines_from b n) ≡ n
unfolding lines_from
run_length b zero = refl
run_length b (suc n) = ap suc (run_length (b + 1) n)

count_parts : (b left n : ℕ) (t : List ℕ) → count_in (item_of b left n) t ≡ parts_in (suc left) t
unfolding item_of lines_from count_in parts_in
count_parts b zero n t = refl
count_parts b (suc left) n t = rw (le-ltb (suc (suc left)) 2 (omega arith)) (ap (λ m. bounded_in 1 (suc (suc m)) t) (run_length (b + 1 + 1) left))

behind_parts_lem : (b left n : ℕ) (t : List ℕ) → behind_count (item_of b left n) t ≡ behind_parts (suc left) t
unfolding item_of lines_from behind_count behind_parts
behind_parts_lem b zero n t = refl
behind_parts_lem b (suc left) n t = rw (le-ltb (suc (suc left)) 2 (omega arith)) refl

parts_bounds : (left : ℕ) (t : List ℕ) → (1 ≤ parts_in (suc left) t) × (parts_in (suc left) t ≤ suc left)
unfolding parts_in
parts_bounds zero t = (omega arith, omega arith)
parts_bounds (suc left) t = rw (le-ltb (suc (suc left)) 2 (omega arith)) (bounded_in_lem 1 (suc (suc left)) t (omega arith))

flags_before_lem : (b parts n : ℕ) → T (flags_before b parts n) → (i : ℕ) → 1 ≤ i → i ≤ n → slots_of (take i (lines_from b parts)) ≡ first_at (b + i)
unfolding flags_before
flags_before_lem b parts zero f i l m = absurd (omega arith)
flags_before_lem b parts (suc n) f i l m = go (eqb i (suc n)) refl (λ g. flags_before_lem b parts n (and_r (eqb (slots_of (take (suc n) (lines_from b parts))) (first_at (b + suc n))) _ f) i l g)
  where
    go : (x : Bool) → eqb i (suc n) ≡ x → (i ≤ n → slots_of (take i (lines_from b parts)) ≡ first_at (b + i)) → slots_of (take i (lines_from b parts)) ≡ first_at (b + i)
    go true e more =
        subst (λ j. slots_of (take j (lines_from b parts)) ≡ first_at (b + j)) (sym (eqb-true i (suc n) e))
        (eqb→eq (slots_of (take (suc n) (lines_from b parts))) (first_at (b + suc n)) (and_l (eqb (slots_of (take (suc n) (lines_from b parts))) (first_at (b + suc n))) _ f))
    go false e more = let ne : i ≡ suc n → ⊥ = eqb-false i (suc n) e in more (omega arith)

-- ---- what an item holds and leaves, by its lines

-- a subfield by itself, and a chain without subfields
module _ (b : ℕ) (nm : Named) (t : List ℕ) where
  module _ (r : T (alone b 1 nm)) where
    one_there : true ∷ [] ≡ opens_from b 1 1 t
    unfolding alone parts_there lines_from
    one_there = parts_open b 1 1 t (and_l (plain_from b 1) _ r)

    one_numbers : (item_in (single (line_at b)) nm t).1 ≡ taken_from b 1 1 t
    unfolding item_in item_numbers there_in behind_count keys_in alone lines_from
    one_numbers = ap (λ ts. taken_lines ts nm.keys (line_at b ∷ []) t) one_there ∙ lines_taken b 1 1 nm.keys t (and_r (plain_from b 1) _ r)

    one_left : item_left (single (line_at b)) nm t ≡ left_from b 1 1 t
    unfolding item_left there_in behind_count keys_in alone
    one_left = ap (λ ts. left_lines ts nm.keys t) one_there ∙ lines_left b 1 1 nm.keys t (and_r (plain_from b 1) _ r)

  module _ (left : ℕ) (r : T (alone b (suc left) nm)) where
    plain_numbers : (item_in (item_of b left 0) nm t).1 ≡ taken_from b (suc left) (parts_in (suc left) t) (behind_parts (suc left) t)
    unfolding item_in item_numbers there_in keys_in item_of alone lines_from
    plain_numbers =
        ap₂ (λ n u. taken_lines (parts_there n (lines_from b (suc left))) nm.keys (lines_from b (suc left)) u) (count_parts b left 0 t) (behind_parts_lem b left 0 t)
        ∙ ap (λ ts. taken_lines ts nm.keys (lines_from b (suc left)) (behind_parts (suc left) t)) (parts_open b (suc left) (parts_in (suc left) t) (behind_parts (suc left) t) (and_l (plain_from b (suc left)) _ r))
        ∙ lines_taken b (suc left) (parts_in (suc left) t) nm.keys (behind_parts (suc left) t) (and_r (plain_from b (suc left)) _ r)

    plain_left : item_left (item_of b left 0) nm t ≡ left_from b (suc left) (parts_in (suc left) t) (behind_parts (suc left) t)
    unfolding item_left there_in keys_in item_of alone lines_from
    plain_left =
        ap₂ (λ n u. left_lines (parts_there n (lines_from b (suc left))) nm.keys u) (count_parts b left 0 t) (behind_parts_lem b left 0 t)
        ∙ ap (λ ts. left_lines ts nm.keys (behind_parts (suc left) t)) (parts_open b (suc left) (parts_in (suc left) t) (behind_parts (suc left) t) (and_l (plain_from b (suc left)) _ r))
        ∙ lines_left b (suc left) (parts_in (suc left) t) nm.keys (behind_parts (suc left) t) (and_r (plain_from b (suc left)) _ r)

  -- a chain with subfields
  module _ (left more : ℕ) (r : T (under b (suc left) (suc more) nm)) where
    abbrev ks : List (List Key)
    ks = drop (suc left) nm.keys

    abbrev rest : List ℕ
    rest = behind_parts (suc left) t

    abbrev flags : ℕ
    flags = first_at (b + parts_in (suc left) t)

    keyed_is : T (keyed_from (b + suc left) ks)
    unfolding under
    keyed_is = and_l (keyed_from (b + suc left) ks) _ r

    steady_is : T (steady_from (b + suc left) (suc more) ks)
    unfolding under
    steady_is = and_l (steady_from (b + suc left) (suc more) ks) _ (and_r (keyed_from (b + suc left) ks) _ r)

    flags-many : first_at (b + suc left) ≡ suc more
    unfolding under
    flags-many = eqb→eq (first_at (b + suc left)) (suc more) (and_l (eqb (first_at (b + suc left)) (suc more)) _ (and_r (steady_from (b + suc left) (suc more) ks) _ (and_r (keyed_from (b + suc left) ks) _ r)))

    open_is : slots_of (take (parts_in (suc left) t) (lines_from b (suc left))) ≡ flags
    unfolding under
    open_is =
        let p = parts_bounds left t in
        flags_before_lem b (suc left) (suc left) (and_r (eqb (first_at (b + suc left)) (suc more)) _ (and_r (steady_from (b + suc left) (suc more) ks) _ (and_r (keyed_from (b + suc left) ks) _ r))) (parts_in (suc left) t) p.0 p.1

    abbrev there : ℕ → ℕ → List ℕ → List Bool
    there d n u = open_in (slots_of (take n (lines_from b (suc left)))) (drop (suc d) nm.keys) u

    there_is : there (length (lines_from (b + 1) left)) (count_in (item_of b left (suc more)) t) (behind_count (item_of b left (suc more)) t) ≡ opens_from (b + suc left) (suc more) flags rest
    there_is =
        ap (λ d. there d (count_in (item_of b left (suc more)) t) (behind_count (item_of b left (suc more)) t)) (run_length (b + 1) left)
        ∙ ap₂ (there left) (count_parts b left (suc more) t) (behind_parts_lem b left (suc more) t)
        ∙ ap (λ m. open_in m ks rest) open_is
        ∙ subfields_open (b + suc left) (suc more) flags ks rest keyed_is steady_is

    turn : b + 1 + left ≡ b + suc left
    turn = omega arith

    chain_numbers : (item_in (item_of b left (suc more)) nm t).1 ≡ flags_from (b + suc left) (suc more) flags rest ++ taken_from (b + suc left) (suc more) flags rest
    unfolding item_in item_numbers there_in keys_in item_of lines_from
    chain_numbers =
        ap₂ (λ ts u. bits ts ++ taken_lines ts (drop (suc (length (lines_from (b + 1) left))) nm.keys) (lines_from (b + 1 + left) (suc more)) u) there_is (behind_parts_lem b left (suc more) t)
        ∙ ap₂ (λ d j. bits (opens_from (b + suc left) (suc more) flags rest) ++ taken_lines (opens_from (b + suc left) (suc more) flags rest) (drop (suc d) nm.keys) (lines_from j (suc more)) rest) (run_length (b + 1) left) turn
        ∙ ap₂ ◌++◌ (flags_open (b + suc left) (suc more) flags rest) (lines_taken (b + suc left) (suc more) flags ks rest steady_is)

    chain_left : item_left (item_of b left (suc more)) nm t ≡ left_from (b + suc left) (suc more) flags rest
    unfolding item_left there_in keys_in item_of lines_from
    chain_left =
        ap₂ (λ ts u. left_lines ts (drop (suc (length (lines_from (b + 1) left))) nm.keys) u) there_is (behind_parts_lem b left (suc more) t)
        ∙ ap (λ d. left_lines (opens_from (b + suc left) (suc more) flags rest) (drop (suc d) nm.keys) rest) (run_length (b + 1) left)
        ∙ lines_left (b + suc left) (suc more) flags ks rest steady_is

suc_less : (n : ℕ) → (n ≡ 0 → ⊥) → suc (n - 1) ≡ n
suc_less n h = omega arith

-- ---- by the shape of an item

module _ (k : ℕ) {s : Shape} (es : s ≡ shape_at k) (t : List ℕ) where
  right_is : T (right s (named_at k))
  right_is = subst (λ x. T (right x (named_at k))) (sym es) (all_right k)

  module _ (z : s.1 ≡ 0) where
    alone_is : T (alone s.0 1 (named_at k))
    unfolding right
    alone_is = subst (λ b. T (pick b (alone s.0 1 (named_at k)) (pick (eqb s.2 0) (alone s.0 s.1 (named_at k)) (under s.0 s.1 s.2 (named_at k))))) (eq-eqb s.1 0 z) right_is

    pub single_numbers : (item_in (item_at k) (named_at k) t).1 ≡ taken_from s.0 1 1 t
    single_numbers = ap (λ it. (item_in it (named_at k) t).1) (shape_single k es z) ∙ one_numbers s.0 (named_at k) t alone_is

    pub single_left : item_left (item_at k) (named_at k) t ≡ left_from s.0 1 1 t
    single_left = ap (λ it. item_left it (named_at k) t) (shape_single k es z) ∙ one_left s.0 (named_at k) t alone_is

  module _ (h : s.1 ≡ 0 → ⊥) where
    pub count_is : (item_in (item_at k) (named_at k) t).0 ≡ parts_in s.1 t
    unfolding item_in
    count_is = ap (λ it. count_in it t) (shape_chained k es h) ∙ count_parts s.0 (s.1 - 1) s.2 t ∙ ap (λ p. parts_in p t) (suc_less s.1 h)

    chained_right : T (pick (eqb s.2 0) (alone s.0 s.1 (named_at k)) (under s.0 s.1 s.2 (named_at k)))
    unfolding right
    chained_right = subst (λ b. T (pick b (alone s.0 1 (named_at k)) (pick (eqb s.2 0) (alone s.0 s.1 (named_at k)) (under s.0 s.1 s.2 (named_at k))))) (ne_eqb s.1 0 h) right_is

    -- what holds of a chain of suc left parts holds of this one
    by_parts : (P : ℕ → Item → Type 0) → ((left : ℕ) → s.1 ≡ suc left → P (suc left) (item_of s.0 left s.2)) → P s.1 (item_at k)
    by_parts P f = subst (λ it. P s.1 it) (sym (shape_chained k es h)) (subst (λ p. P p (item_of s.0 (s.1 - 1) s.2)) (suc_less s.1 h) (f (s.1 - 1) (sym (suc_less s.1 h))))

    module _ (z : s.2 ≡ 0) where
      plain_is : T (alone s.0 s.1 (named_at k))
      plain_is = subst (λ b. T (pick b (alone s.0 s.1 (named_at k)) (under s.0 s.1 s.2 (named_at k)))) (eq-eqb s.2 0 z) chained_right

      pub parts_numbers : (item_in (item_at k) (named_at k) t).1 ≡ taken_from s.0 s.1 (parts_in s.1 t) (behind_parts s.1 t)
      parts_numbers =
          by_parts (λ p it. (item_in it (named_at k) t).1 ≡ taken_from s.0 p (parts_in p t) (behind_parts p t))
          (λ left e. ap (λ n. (item_in (item_of s.0 left n) (named_at k) t).1) z ∙ plain_numbers s.0 (named_at k) t left (subst (λ p. T (alone s.0 p (named_at k))) e plain_is))

      pub parts_left : item_left (item_at k) (named_at k) t ≡ left_from s.0 s.1 (parts_in s.1 t) (behind_parts s.1 t)
      parts_left =
          by_parts (λ p it. item_left it (named_at k) t ≡ left_from s.0 p (parts_in p t) (behind_parts p t))
          (λ left e. ap (λ n. item_left (item_of s.0 left n) (named_at k) t) z ∙ plain_left s.0 (named_at k) t left (subst (λ p. T (alone s.0 p (named_at k))) e plain_is))

    module _ (y : s.2 ≡ 0 → ⊥) where
      under_is : T (under s.0 s.1 s.2 (named_at k))
      under_is = subst (λ b. T (pick b (alone s.0 s.1 (named_at k)) (under s.0 s.1 s.2 (named_at k)))) (ne_eqb s.2 0 y) chained_right

      under_for : (left : ℕ) → s.1 ≡ suc left → T (under s.0 (suc left) (suc (s.2 - 1)) (named_at k))
      under_for left e = subst (λ n. T (under s.0 (suc left) n (named_at k))) (sym (suc_less s.2 y)) (subst (λ p. T (under s.0 p s.2 (named_at k))) e under_is)

      pub flags_are : first_at (s.0 + s.1) ≡ s.2
      flags_are =
          by_parts (λ p it. first_at (s.0 + p) ≡ s.2)
          (λ left e. flags-many s.0 (named_at k) t left (s.2 - 1) (under_for left e) ∙ suc_less s.2 y)

      pub flags_none : (n : ℕ) → flags_from (s.0 + s.1) s.2 n [] ≡ replicate s.2 (pos 0)
      unfolding under
      flags_none n =
          let ks : List (List Key) = drop s.1 (named_at k).keys in
          flags-blank (s.0 + s.1) s.2 n ks (steady-length (s.0 + s.1) s.2 ks (and_l (steady_from (s.0 + s.1) s.2 ks) _ (and_r (keyed_from (s.0 + s.1) ks) _ under_is))) (and_l (keyed_from (s.0 + s.1) ks) _ under_is)

      pub subfields_numbers : (item_in (item_at k) (named_at k) t).1
          ≡ flags_from (s.0 + s.1) s.2 (first_at (s.0 + parts_in s.1 t)) (behind_parts s.1 t) ++ taken_from (s.0 + s.1) s.2 (first_at (s.0 + parts_in s.1 t)) (behind_parts s.1 t)
      subfields_numbers =
          by_parts (λ p it. (item_in it (named_at k) t).1 ≡ flags_from (s.0 + p) s.2 (first_at (s.0 + parts_in p t)) (behind_parts p t) ++ taken_from (s.0 + p) s.2 (first_at (s.0 + parts_in p t)) (behind_parts p t))
          (λ left e. subst (λ n. (item_in (item_of s.0 left n) (named_at k) t).1
          ≡ flags_from (s.0 + suc left) n (first_at (s.0 + parts_in (suc left) t)) (behind_parts (suc left) t) ++ taken_from (s.0 + suc left) n (first_at (s.0 + parts_in (suc left) t)) (behind_parts (suc left) t)) (suc_less s.2 y)
          (chain_numbers s.0 (named_at k) t left (s.2 - 1) (under_for left e)))

      pub subfields_left : item_left (item_at k) (named_at k) t ≡ left_from (s.0 + s.1) s.2 (first_at (s.0 + parts_in s.1 t)) (behind_parts s.1 t)
      subfields_left =
          by_parts (λ p it. item_left it (named_at k) t ≡ left_from (s.0 + p) s.2 (first_at (s.0 + parts_in p t)) (behind_parts p t))
          (λ left e. subst (λ n. item_left (item_of s.0 left n) (named_at k) t ≡ left_from (s.0 + suc left) n (first_at (s.0 + parts_in (suc left) t)) (behind_parts (suc left) t)) (suc_less s.2 y)
          (chain_left s.0 (named_at k) t left (s.2 - 1) (under_for left e)))

-- ---- the ways out of `parts`, `behind_parts` and `count`

module _ (most : ℕ) (t : List ℕ) where
  pub parts_few : most < 2 → most ≡ parts_in most t
  unfolding parts_in
  parts_few h = rw (lt-ltb most 2 h) refl

  pub parts_told : 2 ≤ most → {n : ℕ} → n ≡ bounded_in 1 most t → n ≡ parts_in most t
  unfolding parts_in
  parts_told h e = e ∙ ap (λ b. pick b most (bounded_in 1 most t)) (sym (le-ltb most 2 h))

  pub behind_few : most < 2 → t ≡ behind_parts most t
  unfolding behind_parts
  behind_few h = rw (lt-ltb most 2 h) refl

  pub behind_told : 2 ≤ most → {u : List ℕ} → u ≡ behind_feed t → u ≡ behind_parts most t
  unfolding behind_parts
  behind_told h e = e ∙ ap (λ b. pick b t (behind_feed t)) (sym (le-ltb most 2 h))

module _ (k : ℕ) {s : Shape} (es : s ≡ shape_at k) (t : List ℕ) where
  pub parts_most : parts_in s.1 t ≤ s.1
  unfolding parts_in
  parts_most = go s.1
    where
      go : (p : ℕ) → parts_in p t ≤ p
      go zero = omega arith
      go (suc left) = (parts_bounds left t).1

  pub count_at : {n : ℕ} → n ≡ parts_in s.1 t → n % 256 ≡ (item_in (item_at k) (named_at k) t).0
  unfolding item_in parts_in
  count_at {n} en =
      let few : s.0 + s.1 + s.2 ≤ NO_LINE = (shaped-well k es).few in
      let e : n % 256 ≡ n = mod-eq_of_lt (omega (arith, few, en, parts_most)) in
      e ∙ en ∙ go (eqb s.1 0) refl
    where
      go : (b : Bool) → eqb s.1 0 ≡ b → parts_in s.1 t ≡ (item_in (item_at k) (named_at k) t).0
      go true z = ap (λ p. parts_in p t) (eqb-true s.1 0 z) ∙ ap (λ it. count_in it t) (sym (shape_single k es (eqb-true s.1 0 z)))
      go false z = sym (count_is k es t (eqb-false s.1 0 z))

-- ---- its slots, and zeros of no text

parts_none : (most : ℕ) → behind_parts most [] ≡ []
unfolding behind_parts behind_octet
parts_none most = go (ltb most 2)
  where
    go : (b : Bool) → pick b [] (behind_feed []) ≡ []
    go true = refl
    go false = refl

module _ (k : ℕ) {s : Shape} (es : s ≡ shape_at k) where
  slots_single : s.1 ≡ 0 → slots (item_at k) ≡ slots_of (lines_from s.0 1)
  unfolding slots slots_of lines_from
  slots_single z = ap slots (shape_single k es z)

  slots_chained : (s.1 ≡ 0 → ⊥) → slots (item_at k) ≡ slots_of (lines_from s.0 s.1) + slots_of (lines_from (s.0 + s.1) s.2)
  unfolding slots item_of
  slots_chained h =
      let e : s.0 + 1 + (s.1 - 1) ≡ s.0 + s.1 = omega (arith, h) in
      ap slots (shape_chained k es h) ∙ ap₂ (λ ls b. slots_of ls + slots_of (lines_from b s.2)) (sym (lines_on s.0 s.1 h)) e

  slots_parts : (s.1 ≡ 0 → ⊥) → s.2 ≡ 0 → slots (item_at k) ≡ slots_of (lines_from s.0 s.1)
  unfolding slots_of lines_from
  slots_parts h z = slots_chained h ∙ ap (λ n. slots_of (lines_from s.0 s.1) + slots_of (lines_from (s.0 + s.1) n)) z ∙ omega arith

  slots-subfields : (h : s.1 ≡ 0 → ⊥) (y : s.2 ≡ 0 → ⊥) → slots (item_at k) ≡ s.2 + slots_of (lines_from (s.0 + s.1) s.2)
  slots-subfields h y = slots_chained h ∙ ap (◌+ slots_of (lines_from (s.0 + s.1) s.2)) (sym ((shaped-well k es).meet y) ∙ flags_are k es [] h y)

  pub item_slots : (t : List ℕ) → length (item_in (item_at k) (named_at k) t).1 ≡ slots (item_at k)
  item_slots t = go (eqb s.1 0) refl (eqb s.2 0) refl
    where
      b : ℕ
      b = s.0 + s.1

      n : ℕ
      n = parts_in s.1 t

      u : List ℕ
      u = behind_parts s.1 t

      go : (x : Bool) → eqb s.1 0 ≡ x → (y : Bool) → eqb s.2 0 ≡ y → length (item_in (item_at k) (named_at k) t).1 ≡ slots (item_at k)
      go true ex y ey = let z = eqb-true s.1 0 ex in ap length (single_numbers k es t z) ∙ lines_slots s.0 1 1 t ∙ sym (slots_single z)
      go false ex true ey =
          let h = eqb-false s.1 0 ex in
          let z = eqb-true s.2 0 ey in
          ap length (parts_numbers k es t h z) ∙ lines_slots s.0 s.1 n u ∙ sym (slots_parts h z)
      go false ex false ey =
          let h = eqb-false s.1 0 ex in
          let y = eqb-false s.2 0 ey in
          ap length (subfields_numbers k es t h y) ∙ length-append (flags_from b s.2 (first_at (s.0 + n)) u) _
          ∙ ap₂ ◌+◌ (flags-length b s.2 (first_at (s.0 + n)) u) (lines_slots b s.2 (first_at (s.0 + n)) u) ∙ sym (slots-subfields h y)

  pub item_blank : (item_in (item_at k) (named_at k) []).1 ≡ replicate (slots (item_at k)) (pos 0)
  item_blank = go (eqb s.1 0) refl (eqb s.2 0) refl
    where
      b : ℕ
      b = s.0 + s.1

      n : ℕ
      n = parts_in s.1 []

      zeros : ℕ → List ℤ
      zeros m = replicate m (pos 0)

      go : (x : Bool) → eqb s.1 0 ≡ x → (y : Bool) → eqb s.2 0 ≡ y → (item_in (item_at k) (named_at k) []).1 ≡ zeros (slots (item_at k))
      go true ex y ey = let z = eqb-true s.1 0 ex in single_numbers k es [] z ∙ lines_blank s.0 1 1 ∙ ap zeros (sym (slots_single z))
      go false ex true ey =
          let h = eqb-false s.1 0 ex in
          let z = eqb-true s.2 0 ey in
          parts_numbers k es [] h z ∙ ap (taken_from s.0 s.1 n) (parts_none s.1) ∙ lines_blank s.0 s.1 n ∙ ap zeros (sym (slots_parts h z))
      go false ex false ey =
          let h = eqb-false s.1 0 ex in
          let y = eqb-false s.2 0 ey in
          let f : ℕ = first_at (s.0 + n) in
          subfields_numbers k es [] h y ∙ ap (λ v. flags_from b s.2 f v ++ taken_from b s.2 f v) (parts_none s.1) ∙ ap₂ ◌++◌ (flags_none k es [] h y f) (lines_blank b s.2 f)
          ∙ replicate-append-replicate s.2 (slots_of (lines_from b s.2)) (pos 0) ∙ ap zeros (sym (slots-subfields h y))

-- ---- what `item` asks of the functions below it

module _ (k : ℕ) {s : Shape} (es : s ≡ shape_at k) (base : ℕ) (room : base + slots (item_at k) ≤ SLOTS) where
  well : Shaped s
  well = shaped-well k es

  pub single_asks : s.1 ≡ 0 → (s.0 + 1 ≤ 300) × T (in_turn s.0 1) × Room base s.0 1
  unfolding in_turn
  single_asks z = (omega (arith, (well).few), tt, λ some. omega (arith, room, slots_single k es z, (well).begins))

  module _ (h : s.1 ≡ 0 → ⊥) where
    pub parts_asks : (s.0 + s.1 ≤ 300) × T (in_turn s.0 s.1) × Room base s.0 s.1
    parts_asks = (omega (arith, (well).few), (well).parts_turn, λ some. omega (arith, room, slots_chained k es h, (well).begins))

    module _ (y : s.2 ≡ 0 → ⊥) where
      pub subfields-asks : (s.0 + s.1 + s.2 ≤ 300) × T (in_turn (s.0 + s.1) s.2) × Room base (s.0 + s.1) s.2
      subfields-asks = (omega (arith, (well).few), (well).subfields_turn, λ some. omega (arith, room, slots_chained k es h, (well).meet y))

      pub flags-asks : (s.0 + s.1 + s.2 ≤ 300) × (base + s.2 ≤ SLOTS)
      flags-asks = (omega (arith, (well).few), omega (arith, room, slots-subfields k es h y))

-- ---- the ways out of `item`

-- what it leaves of a text, and of the slots
abbrev pub ItemTaken : ℕ → ℕ → List ℕ → List ℤ → List ℕ → List ℤ → Type 0
ItemTaken k base t l r m = (r ≡ item_left (item_at k) (named_at k) t) × (m ≡ sets l base (item_in (item_at k) (named_at k) t).1)

module _ (k : ℕ) {s : Shape} (es : s ≡ shape_at k) (base : ℕ) (t : List ℕ) (l : List ℤ) where
  first_slot : base + first_at s.0 ≡ base
  first_slot = omega (arith, (shaped-well k es).begins)

  pub item_single : s.1 ≡ 0 → {r : List ℕ} {m : List ℤ} → (r ≡ left_from s.0 1 1 t) × (m ≡ sets l (base + first_at s.0) (taken_from s.0 1 1 t)) → ItemTaken k base t l r m
  item_single z g = (g.0 ∙ sym (single_left k es t z), g.1 ∙ ap₂ (sets l) first_slot (sym (single_numbers k es t z)))

  module _ (h : s.1 ≡ 0 → ⊥) {n : ℕ} (en : n ≡ parts_in s.1 t) {u : List ℕ} (eu : u ≡ behind_parts s.1 t) where
    pub item_parts : s.2 ≡ 0 → {r : List ℕ} {m : List ℤ} → (r ≡ left_from s.0 s.1 n u) × (m ≡ sets l (base + first_at s.0) (taken_from s.0 s.1 n u)) → ItemTaken k base t l r m
    item_parts z g = (
      g.0 ∙ ap₂ (left_from s.0 s.1) en eu ∙ sym (parts_left k es t h z),
      g.1 ∙ ap₂ (sets l) first_slot (ap₂ (taken_from s.0 s.1) en eu ∙ sym (parts_numbers k es t h z)),
    )

    pub item_subfields : (s.2 ≡ 0 → ⊥) → {f : ℕ} → f ≡ first_at (s.0 + n) → {q m : List ℤ} {r : List ℕ} → q ≡ sets l base (flags_from (s.0 + s.1) s.2 f u)
        → (r ≡ left_from (s.0 + s.1) s.2 f u) × (m ≡ sets q (base + first_at (s.0 + s.1)) (taken_from (s.0 + s.1) s.2 f u)) → ItemTaken k base t l r m
    item_subfields y {f} ef {q} {m} {r} eq g = (
      g.0 ∙ ap₂ (left_from b s.2) ef2 eu ∙ sym (subfields_left k es t h y),
      g.1 ∙ ap₂ (λ x j. sets x j (taken_from b s.2 f u)) eq slot ∙ sym (sets_append l base (flags_from b s.2 f u) (taken_from b s.2 f u))
          ∙ ap₂ (λ i v. sets l base (flags_from b s.2 i v ++ taken_from b s.2 i v)) ef2 eu ∙ ap (sets l base) (sym (subfields_numbers k es t h y)),
    )
      where
        b : ℕ
        b = s.0 + s.1

        ef2 : f ≡ first_at (s.0 + parts_in s.1 t)
        ef2 = ef ∙ ap (λ i. first_at (s.0 + i)) en

        slot : base + first_at b ≡ base + length (flags_from b s.2 f u)
        slot = ap (base +◌) (flags_are k es t h y ∙ sym (flags-length b s.2 f u))
