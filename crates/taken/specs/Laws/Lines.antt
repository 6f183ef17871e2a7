-- So many lines from a line of the table on: those of the guess, what they are of no text, and the ways out of the code.
use Rattle.std.specs.Prelude.{◌≡◌, refl, Bool, true, false, ◌&&◌, T, eqb, ltb, pos, length, replicate, ◌<◌}
use Rattle.std.proofs.Common.{sym, ◌∙◌, add-one, lt-ltb, eqb→eq, length-append}
use Rattle.std.proofs.Math.Path.{ap, ap₂}
use mathlib.Core.List.{List, [], ◌∷◌, ◌++◌}
use Prim.Native.Nat.{ℕ, zero, suc, ◌+◌, ◌-◌, ◌≤◌}
use native.Mathlib.Omega.{arith}
use Rattle.std.proofs.Math.IntN.{ℤ}
use Rattle.std.proofs.Math.ListN.{set}
use Rattle.std.proofs.lemmas.List.{replicate-append-replicate}
use Rattle.std.proofs.Math.Seq.{sets}
use Rattle.codec.specs.Pick.{pick}
use Rattle.codec.specs.Item.{slots_of}
use Rattle.codec.specs.Printed.{same_text}
use Rattle.codec.proofs.Laws.Tests.{and_l, and_r}
use Rattle.codec.proofs.Laws.Sets.{sets_append}
use Rattle.papers.specs.Names.{Key}
use Rattle.scope.specs.Sheet.{parts_there}
use Rattle.papers.specs.Papers.{SLOTS}
use Rattle.lengths.specs.Lines.{line_at, first_at, count_at}
use Rattle.lengths.specs.Laws.Lines.{narrow_line}
use Rattle.shapes.specs.Shapes.{lines_from, in_turn}
use Rattle.shapes.specs.Laws.Runs.{turn_rest, turn_first, lines_on}
use Rattle.guess.specs.Guess.{behind_keys, taken_lines, left_lines, begins, head_of, open_in, bit, bits}
use Rattle.taken.specs.Tables.{step_at, head_at}
use Rattle.taken.specs.Lines.{taken_at, behind_at, there_at, opens_from, taken_from, left_from, flags_from}
use Rattle.taken.specs.Laws.Numbers.{steady, numbers_taken, behind_taken, taken_length, taken_none, behind_none}

-- a group of keys for each line
unfoldable pub steady_from : ℕ → ℕ → List (List Key) → Bool
unfolding steady
steady_from b zero [] = true
steady_from b zero (k ∷ ks) = false
steady_from b (suc left) [] = false
steady_from b (suc left) (k ∷ ks) = steady (step_at b) k (line_at b).pieces && steady_from (b + 1) left ks

pub steady-length : (b left : ℕ) (ks : List (List Key)) → T (steady_from b left ks) → length ks ≡ left
unfolding steady_from
steady-length b zero [] h = refl
steady-length b zero (k ∷ ks) h = absurd h
steady-length b (suc left) [] h = absurd h
steady-length b (suc left) (k ∷ ks) h = ap suc (steady-length (b + 1) left ks (and_r (steady (step_at b) k (line_at b).pieces) _ h))

-- none of them begins with a key; each begins with the first of its group, and that is a word
unfoldable pub plain_from : ℕ → ℕ → Bool
plain_from b zero = true
plain_from b (suc left) = eqb (length (head_at b)) 0 && plain_from (b + 1) left

unfoldable pub keyed_from : ℕ → List (List Key) → Bool
keyed_from b [] = true
keyed_from b (k ∷ ks) = (same_text (head_at b) (head_of k) && ltb 0 (length (head_at b))) && keyed_from (b + 1) ks

-- ---- the guess's lines

pub lines_taken : (b left n : ℕ) (ks : List (List Key)) (t : List ℕ) → T (steady_from b left ks) → taken_lines (opens_from b left n t) ks (lines_from b left) t ≡ taken_from b left n t
unfolding steady_from taken_lines opens_from lines_from taken_from
lines_taken b zero n [] t h = refl
lines_taken b zero n (k ∷ ks) t h = absurd h
lines_taken b (suc left) n [] t h = absurd h
lines_taken b (suc left) n (k ∷ ks) t h = go (there_at b n t) (λ u. lines_taken (b + 1) left (n - 1) ks u (and_r (steady (step_at b) k (line_at b).pieces) _ h))
  where
    one : T (steady (step_at b) k (line_at b).pieces)
    one = and_l (steady (step_at b) k (line_at b).pieces) _ h

    go : (x : Bool) → ((u : List ℕ) → taken_lines (opens_from (b + 1) left (n - 1) u) ks (lines_from (b + 1) left) u ≡ taken_from (b + 1) left (n - 1) u)
        → taken_lines (x ∷ opens_from (b + 1) left (n - 1) (pick x (behind_at b t) t)) (k ∷ ks) (line_at b ∷ lines_from (b + 1) left) t
        ≡ taken_at b (pick x t []) ++ taken_from (b + 1) left (n - 1) (pick x (behind_at b t) t)
    go true more =
        ap₂ ◌++◌ (numbers_taken (step_at b) k (line_at b).pieces t one)
        (ap (taken_lines (opens_from (b + 1) left (n - 1) (behind_at b t)) ks (lines_from (b + 1) left)) (behind_taken (step_at b) k (line_at b).pieces t one)
        ∙ more (behind_at b t))
    go false more = ap₂ ◌++◌ (sym (taken_none (step_at b) (line_at b).pieces (narrow_line b))) (more t)

pub lines_left : (b left n : ℕ) (ks : List (List Key)) (t : List ℕ) → T (steady_from b left ks) → left_lines (opens_from b left n t) ks t ≡ left_from b left n t
unfolding steady_from left_lines opens_from left_from
lines_left b zero n [] t h = refl
lines_left b zero n (k ∷ ks) t h = absurd h
lines_left b (suc left) n [] t h = absurd h
lines_left b (suc left) n (k ∷ ks) t h = go (there_at b n t) (λ u. lines_left (b + 1) left (n - 1) ks u (and_r (steady (step_at b) k (line_at b).pieces) _ h))
  where
    go : (x : Bool) → ((u : List ℕ) → left_lines (opens_from (b + 1) left (n - 1) u) ks u ≡ left_from (b + 1) left (n - 1) u)
        → left_lines (x ∷ opens_from (b + 1) left (n - 1) (pick x (behind_at b t) t)) (k ∷ ks) t ≡ left_from (b + 1) left (n - 1) (pick x (behind_at b t) t)
    go true more =
        ap (left_lines (opens_from (b + 1) left (n - 1) (behind_at b t)) ks) (behind_taken (step_at b) k (line_at b).pieces t (and_l (steady (step_at b) k (line_at b).pieces) _ h))
        ∙ more (behind_at b t)
    go false more = more t

pub flags_open : (b left n : ℕ) (t : List ℕ) → bits (opens_from b left n t) ≡ flags_from b left n t
unfolding bits opens_from flags_from
flags_open b zero n t = refl
flags_open b (suc left) n t = ap (bit (there_at b n t) ∷◌) (flags_open (b + 1) left (n - 1) (pick (there_at b n t) (behind_at b t) t))

-- a chain's parts are there by their count alone
no_head : (w t : List ℕ) → T (eqb (length w) 0) → begins w t ≡ true
unfolding begins
no_head [] t h = refl
no_head (o ∷ w) t h = let e : suc (length w) ≡ 0 = eqb→eq (suc (length w)) 0 h in absurd (omega arith)

and_true : (b : Bool) → b && true ≡ b
and_true true = refl
and_true false = refl

pub parts_open : (b left n : ℕ) (t : List ℕ) → T (plain_from b left) → parts_there n (lines_from b left) ≡ opens_from b left n t
unfolding plain_from parts_there opens_from lines_from
parts_open b zero n t h = refl
parts_open b (suc left) n t h =
    ap₂ ◌∷◌ (sym (ap (ltb 0 n &&◌) (no_head (head_at b) t (and_l (eqb (length (head_at b)) 0) _ h)) ∙ and_true (ltb 0 n)))
    (parts_open (b + 1) left (n - 1) (pick (there_at b n t) (behind_at b t) t) (and_r (eqb (length (head_at b)) 0) _ h))

-- subfields by their first keys
same_is : (v w : List ℕ) → T (same_text v w) → v ≡ w
same_is [] [] h = refl
same_is [] (y ∷ w) h = absurd h
same_is (x ∷ v) [] h = absurd h
same_is (x ∷ v) (y ∷ w) h = ap₂ ◌∷◌ (eqb→eq x y (and_l (eqb x y) _ h)) (same_is v w (and_r (eqb x y) _ h))

pub subfields_open : (b left n : ℕ) (ks : List (List Key)) (t : List ℕ) → T (keyed_from b ks) → T (steady_from b left ks) → open_in n ks t ≡ opens_from b left n t
unfolding keyed_from steady_from open_in opens_from
subfields_open b zero n [] t h s = refl
subfields_open b zero n (k ∷ ks) t h s = absurd s
subfields_open b (suc left) n [] t h s = absurd s
subfields_open b (suc left) n (k ∷ ks) t h s =
    let e : head_of k ≡ head_at b = sym (same_is (head_at b) (head_of k) (and_l (same_text (head_at b) (head_of k)) _ (and_l (same_text (head_at b) (head_of k) && ltb 0 (length (head_at b))) _ h))) in
    let g : behind_keys k t ≡ behind_at b t = behind_taken (step_at b) k (line_at b).pieces t (and_l (steady (step_at b) k (line_at b).pieces) _ s) in
    ap₂ (λ w u. (ltb 0 n && begins w t) ∷ open_in (n - 1) ks (pick (ltb 0 n && begins w t) u t)) e g
    ∙ ap (there_at b n t ∷◌) (subfields_open (b + 1) left (n - 1) ks (pick (there_at b n t) (behind_at b t) t) (and_r (same_text (head_at b) (head_of k) && ltb 0 (length (head_at b))) _ h) (and_r (steady (step_at b) k (line_at b).pieces) _ s))

-- ---- how many numbers and flags

pub flags-length : (b left n : ℕ) (t : List ℕ) → length (flags_from b left n t) ≡ left
unfolding flags_from
flags-length b zero n t = refl
flags-length b (suc left) n t = ap suc (flags-length (b + 1) left (n - 1) (pick (there_at b n t) (behind_at b t) t))

pub lines_slots : (b left n : ℕ) (t : List ℕ) → length (taken_from b left n t) ≡ slots_of (lines_from b left)
unfolding taken_from lines_from slots_of
lines_slots b zero n t = refl
lines_slots b (suc left) n t =
    length-append (taken_at b (pick (there_at b n t) t [])) _
    ∙ ap₂ ◌+◌ (taken_length (step_at b) (line_at b).pieces (pick (there_at b n t) t [])) (lines_slots (b + 1) left (n - 1) (pick (there_at b n t) (behind_at b t) t))

-- ---- of no text: zeros

either : {A : Type 0} (b : Bool) (x y : A) → x ≡ y → pick b x y ≡ y
either true x y e = e
either false x y e = refl

pub lines_blank : (b left n : ℕ) → taken_from b left n [] ≡ replicate (slots_of (lines_from b left)) (pos 0)
unfolding taken_from lines_from slots_of
lines_blank b zero n = refl
lines_blank b (suc left) n =
    ap₂ (λ x y. taken_at b x ++ taken_from (b + 1) left (n - 1) y) (either (there_at b n []) [] [] refl) (either (there_at b n []) (behind_at b []) [] (behind_none (step_at b) (line_at b).pieces))
    ∙ ap₂ ◌++◌ (taken_none (step_at b) (line_at b).pieces (narrow_line b)) (lines_blank (b + 1) left (n - 1))
    ∙ replicate-append-replicate (count_at b) (slots_of (lines_from (b + 1) left)) (pos 0)

pub flags-blank : (b left n : ℕ) (ks : List (List Key)) → length ks ≡ left → T (keyed_from b ks) → flags_from b left n [] ≡ replicate left (pos 0)
unfolding flags_from keyed_from bit begins
flags-blank b zero n ks e h = refl
flags-blank b (suc left) n [] e h = absurd (omega arith)
flags-blank b (suc left) n (k ∷ ks) e h =
    let d : T (ltb 0 (length (head_at b))) = and_r (same_text (head_at b) (head_of k)) _ (and_l (same_text (head_at b) (head_of k) && ltb 0 (length (head_at b))) _ h) in
    ap₂ (λ x y. bit x ∷ flags_from (b + 1) left (n - 1) y) (shut (ltb 0 n) (head_at b) d) (either (there_at b n []) (behind_at b []) [] (behind_none (step_at b) (line_at b).pieces))
    ∙ ap (pos 0 ∷◌) (flags-blank (b + 1) left (n - 1) ks (omega arith) (and_r (same_text (head_at b) (head_of k) && ltb 0 (length (head_at b))) _ h))
  where
    shut : (x : Bool) (w : List ℕ) → T (ltb 0 (length w)) → x && begins w [] ≡ false
    shut x [] d = absurd d
    shut true (o ∷ w) d = refl
    shut false (o ∷ w) d = refl

-- ---- the ways out of `is_there`

pub there_none : (b n : ℕ) (t : List ℕ) → n ≡ 0 → false ≡ there_at b n t
there_none b n t e = rw e refl

pub there_some : (b n : ℕ) (t : List ℕ) → (n ≡ 0 → ⊥) → {x : Bool} {w : List ℕ} → x ≡ begins w t → w ≡ head_at b → x ≡ there_at b n t
there_some b n t h {x} ex ew = ex ∙ ap (λ v. begins v t) ew ∙ ap (λ y. y && begins (head_at b) t) (sym (lt-ltb 0 n (omega arith)))

-- ---- the ways out of `lines` and `flags`

-- the slots of the left lines from line b on are slots of the record
abbrev pub Room : ℕ → ℕ → ℕ → Type 0
Room base b left = (left ≡ 0 → ⊥) → base + (first_at b + slots_of (lines_from b left)) ≤ SLOTS

pub lines_none : (b left n base : ℕ) (t : List ℕ) (l : List ℤ) → left ≡ 0 → (t ≡ left_from b left n t) × (l ≡ sets l (base + first_at b) (taken_from b left n t))
unfolding left_from taken_from
lines_none b left n base t l e = (rw e refl, rw e refl)

module _ (b left : ℕ) (some : left ≡ 0 → ⊥) where
  pub first_room : (base : ℕ) → Room base b left → base + (first_at b + count_at b) ≤ SLOTS
  unfolding slots_of
  first_room base room = let e : slots_of (lines_from b left) ≡ count_at b + slots_of (lines_from (b + 1) (left - 1)) = ap slots_of (lines_on b left some) in omega (arith, room some)

  pub rest_asks : (base : ℕ) → (b + left ≤ 300) × T (in_turn b left) × Room base b left → (b + 1 + (left - 1) ≤ 300) × T (in_turn (b + 1) (left - 1)) × Room base (b + 1) (left - 1)
  unfolding slots_of
  rest_asks base g =
      let e : slots_of (lines_from b left) ≡ count_at b + slots_of (lines_from (b + 1) (left - 1)) = ap slots_of (lines_on b left some) in
      (omega (arith, g.0, some), turn_rest b left some g.1, λ more. omega (arith, g.2 some, turn_first b left more g.1))

  -- x says whether line b is there
  module _ (n : ℕ) (t : List ℕ) {x : Bool} (ex : x ≡ there_at b n t) {u : List ℕ} (eu : u ≡ pick x (behind_at b t) t) {j : ℕ} (ej : j ≡ n - 1) where
    pub lines_step : T (in_turn b left) → (base : ℕ) (l : List ℤ) {q m : List ℤ} {r : List ℕ} → q ≡ sets l (base + first_at b) (taken_at b (pick x t []))
        → (r ≡ left_from (b + 1) (left - 1) j u) × (m ≡ sets q (base + first_at (b + 1)) (taken_from (b + 1) (left - 1) j u))
        → (r ≡ left_from b left n t) × (m ≡ sets l (base + first_at b) (taken_from b left n t))
    unfolding left_from taken_from
    lines_step turn base l {q} {m} {r} eq g = go left some turn g
      where
        first : List ℤ
        first = taken_at b (pick x t [])

        rest : ℕ → List ℤ
        rest k = taken_from (b + 1) k (n - 1) (pick (there_at b n t) (behind_at b t) t)

        eu2 : u ≡ pick (there_at b n t) (behind_at b t) t
        eu2 = eu ∙ ap (λ y. pick y (behind_at b t) t) ex

        together : (k : ℕ) {slot : ℕ} → slot ≡ base + first_at b + count_at b → sets q slot (rest k) ≡ sets l (base + first_at b) (taken_at b (pick (there_at b n t) t []) ++ rest k)
        together k es =
            ap₂ (λ y s. sets y s (rest k)) eq (es ∙ ap (base + first_at b +◌) (sym (taken_length (step_at b) (line_at b).pieces (pick x t []))))
            ∙ sym (sets_append l (base + first_at b) first (rest k))
            ∙ ap (λ y. sets l (base + first_at b) (taken_at b (pick y t []) ++ rest k)) ex

        go : (left : ℕ) → (left ≡ 0 → ⊥) → T (in_turn b left) → (r ≡ left_from (b + 1) (left - 1) j u) × (m ≡ sets q (base + first_at (b + 1)) (taken_from (b + 1) (left - 1) j u))
            → (r ≡ left_from b left n t) × (m ≡ sets l (base + first_at b) (taken_from b left n t))
        go zero some turn g = absurd (some refl)
        go (suc zero) some turn g = (g.0 ∙ eu2, g.1 ∙ together 0 refl)
        go (suc (suc k)) some turn g =
            let e : suc (suc k) - 1 ≡ suc k = omega arith in
            let f : base + first_at (b + 1) ≡ base + first_at b + count_at b = omega (arith, turn_first b (suc (suc k)) (λ z. omega (arith, z, e)) turn) in (
              g.0 ∙ ap₂ (left_from (b + 1) (suc (suc k) - 1)) ej eu2 ∙ ap (λ i. left_from (b + 1) i (n - 1) (pick (there_at b n t) (behind_at b t) t)) e,
              g.1 ∙ ap₂ (λ i v. sets q (base + first_at (b + 1)) (taken_from (b + 1) (suc (suc k) - 1) i v)) ej eu2 ∙ ap (λ i. sets q (base + first_at (b + 1)) (rest i)) e ∙ together (suc k) f,
            )

    pub flags_step : (l : List ℤ) (slot : ℕ) {q m : List ℤ} → q ≡ set l slot (bit x) → m ≡ sets q (slot + 1) (flags_from (b + 1) (left - 1) j u) → m ≡ sets l slot (flags_from b left n t)
    unfolding flags_from
    flags_step l slot {q} {m} eq em = go left some em
      where
        go : (left : ℕ) → (left ≡ 0 → ⊥) → m ≡ sets q (slot + 1) (flags_from (b + 1) (left - 1) j u) → m ≡ sets l slot (flags_from b left n t)
        go zero some em = absurd (some refl)
        go (suc k) some em =
            let e : suc k - 1 ≡ k = omega arith in
            em ∙ ap₂ (λ y s. sets y s (flags_from (b + 1) (suc k - 1) j u)) (eq ∙ ap (λ y. set l slot (bit y)) ex) (add-one slot)
            ∙ ap₂ (λ i v. sets (set l slot (bit (there_at b n t))) (suc slot) (flags_from (b + 1) (suc k - 1) i v)) ej (eu ∙ ap (λ y. pick y (behind_at b t) t) ex)
            ∙ ap (λ i. sets (set l slot (bit (there_at b n t))) (suc slot) (flags_from (b + 1) i (n - 1) (pick (there_at b n t) (behind_at b t) t))) e

pub flags_none : (b left n slot : ℕ) (t : List ℕ) (l : List ℤ) → left ≡ 0 → l ≡ sets l slot (flags_from b left n t)
unfolding flags_from
flags_none b left n slot t l e = rw e refl

-- ---- the loops of `lines` and `flags`, i lines being passed

-- what is asked of the lines that are left
pub asks_next : (b left i : ℕ) → i < left → (base : ℕ) → (b + i + (left - i) ≤ 300) × T (in_turn (b + i) (left - i)) × Room base (b + i) (left - i)
    → (b + (i + 1) + (left - (i + 1)) ≤ 300) × T (in_turn (b + (i + 1)) (left - (i + 1))) × Room base (b + (i + 1)) (left - (i + 1))
asks_next b left i h base g =
    let eb : b + (i + 1) ≡ b + i + 1 = omega arith in
    let el : left - (i + 1) ≡ left - i - 1 = omega arith in
    rw (eb, el) (rest_asks (b + i) (left - i) (λ e. omega arith) base g)

module _ (b left n i : ℕ) (h : i < left) (t : List ℕ) {x : Bool} (ex : x ≡ there_at (b + i) (n - i) t) {u : List ℕ} (eu : u ≡ pick x (behind_at (b + i) t) t) where
  ahead : left - i ≡ 0 → ⊥
  ahead e = omega arith

  pub flags_next : (slot : ℕ) (l : List ℤ) {q : List ℤ} → q ≡ set l (slot + i) (bit x)
      → sets q (slot + (i + 1)) (flags_from (b + (i + 1)) (left - (i + 1)) (n - (i + 1)) u) ≡ sets l (slot + i) (flags_from (b + i) (left - i) (n - i) t)
  flags_next slot l {q} eq =
      let es : slot + (i + 1) ≡ slot + i + 1 = omega arith in
      let eb : b + (i + 1) ≡ b + i + 1 = omega arith in
      let el : left - (i + 1) ≡ left - i - 1 = omega arith in
      let en : n - (i + 1) ≡ n - i - 1 = omega arith in
      flags_step (b + i) (left - i) ahead (n - i) t ex eu en l (slot + i) eq (rw (es, eb, el) refl)

  pub lines_next : T (in_turn (b + i) (left - i)) → (base : ℕ) (l : List ℤ) {q : List ℤ} → q ≡ sets l (base + first_at (b + i)) (taken_at (b + i) (pick x t []))
      → (left_from (b + (i + 1)) (left - (i + 1)) (n - (i + 1)) u ≡ left_from (b + i) (left - i) (n - i) t)
      × (sets q (base + first_at (b + (i + 1))) (taken_from (b + (i + 1)) (left - (i + 1)) (n - (i + 1)) u) ≡ sets l (base + first_at (b + i)) (taken_from (b + i) (left - i) (n - i) t))
  lines_next turn base l {q} eq =
      let eb : b + (i + 1) ≡ b + i + 1 = omega arith in
      let el : left - (i + 1) ≡ left - i - 1 = omega arith in
      let en : n - (i + 1) ≡ n - i - 1 = omega arith in
      lines_step (b + i) (left - i) ahead (n - i) t ex eu en turn base l eq (rw (eb, el) refl, rw (eb, el) refl)
