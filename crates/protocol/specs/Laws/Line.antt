-- The words of a line by place: the word that starts at a place is what the code takes, and the places of `parse_of` are those of the line's words.
use Rattle.std.specs.Prelude.{◌≡◌, Bool, ◌&&◌, ◌++◌, set, eqb, length, get_or, take, drop}
use Rattle.std.proofs.Math.Path.{refl, ap}
use Rattle.std.proofs.Common.{sym, ap₂, ◌∙◌, append-nil, drop_of_length-le, length-take-le}
use Rattle.std.proofs.Math.Bool.{true, false}
use mathlib.Core.List.{List, [], ◌∷◌}
use Prim.Native.Nat.{ℕ, zero, suc, ◌+◌, ◌-◌, ◌≤◌, ◌<◌}
use Rattle.std.proofs.Math.Numerals.{add-one}
use Rattle.std.specs.Cmp.Lexicographic.{pointwise}
use Rattle.std.proofs.lemmas.Bool.Decides.{Decides-eqb}
use Rattle.std.proofs.lemmas.Slice.Eq.{slice_eq-Decides}
use Rattle.std.proofs.lemmas.List.Edits.{sets, sets-eq}
use native.Mathlib.Omega.{arith}
use borrow.Author.Tests.{le-leb, lt-leb, leb-true, leb-false, eq-eqb, eqb-true}
use Rattle.std.proofs.Math.Dec.{leb, leb-suc-suc}
use Rattle.std.proofs.Math.ListN.{length-drop}
use Rattle.std.proofs.Math.Seq.{drop-drop, drop-nil}
use Rattle.codec.specs.Pick.{pick}
use Rattle.words.specs.Lines.{word_length, word_of}
use Rattle.words.specs.Laws.Lines.{word_within}
use Rattle.protocol.specs.Line.{glued, words_of, nth, same, words_at, next_place, places_from}

pub words_step : (s : List ℕ) → words_of s ≡ word_of s ∷ words_at s (suc (word_length s))
unfolding words_of glued word_of word_length words_at
words_step [] = refl
words_step (o ∷ s) = by_space (words_step s) (eqb o 32)
  where
    by_space : words_of s ≡ word_of s ∷ words_at s (suc (word_length s)) → (b : Bool) → pick b ([] ∷ words_of s) (glued o (words_of s)) ≡ take (pick b 0 (suc (word_length s))) (o ∷ s) ∷ words_at (o ∷ s) (suc (pick b 0 (suc (word_length s))))
    by_space e true = rw (le-leb 1 (suc (length s)) (omega arith)) refl
    by_space e false = rw (e, leb-suc-suc (suc (word_length s)) (length s)) refl

pub words_all : (s : List ℕ) → words_at s 0 ≡ words_of s
unfolding words_at
words_all s = rw (le-leb 0 (length s) (omega arith)) refl

module _ (s : List ℕ) (at : ℕ) where
  pub place_next : at ≤ length s → next_place s at ≡ at + word_length (drop at s) + 1
  unfolding next_place
  place_next h = rw (le-leb at (length s) h) refl

  pub place_past : length s < at → next_place s at ≡ at
  unfolding next_place
  place_past h = rw (lt-leb at (length s) h) refl

  pub none_at : length s < at → words_at s at ≡ []
  unfolding words_at
  none_at h = rw (lt-leb at (length s) h) refl

  moved : (n : ℕ) → at ≤ length s → words_at (drop at s) (suc n) ≡ words_at s (at + n + 1)
  unfolding words_at
  moved n h = by_end (leb (suc n) (length (drop at s))) refl
    where
      by_end : (b : Bool) → leb (suc n) (length (drop at s)) ≡ b
          → pick b (words_of (drop (suc n) (drop at s))) [] ≡ pick (leb (at + n + 1) (length s)) (words_of (drop (at + n + 1) s)) []
      by_end true t =
          let e : at + suc n ≡ at + n + 1 = omega arith in
          rw (le-leb (at + n + 1) (length s) (omega (arith, leb-true (suc n) (length (drop at s)) t, length-drop at s)), drop-drop (suc n) at s, e) refl
      by_end false t = rw (lt-leb (at + n + 1) (length s) (omega (arith, leb-false (suc n) (length (drop at s)) t, length-drop at s))) refl

  from_here_lem : at ≤ length s → words_at s at ≡ words_of (drop at s)
  unfolding words_at
  from_here_lem h = rw (le-leb at (length s) h) refl

  pub some_at : at ≤ length s → words_at s at ≡ word_of (drop at s) ∷ words_at s (next_place s at)
  some_at h = from_here_lem h ∙ words_step (drop at s) ∙ ap (λ t. word_of (drop at s) ∷ t) (moved (word_length (drop at s)) h ∙ ap (words_at s) (sym (place_next h)))

  -- also behind the end, where there is none
  past_word : length s < at → word_of (drop at s) ≡ []
  unfolding word_of word_length
  past_word h = rw (drop_of_length-le s {i = at} (omega arith)) refl

  pub word_at : word_of (drop at s) ≡ nth (words_at s at) 0
  word_at = by_end (leb at (length s)) refl
    where
      by_end : (b : Bool) → leb at (length s) ≡ b → word_of (drop at s) ≡ nth (words_at s at) 0
      by_end true t = rw (some_at (leb-true at (length s) t)) refl
      by_end false t = rw (none_at (leb-false at (length s) t)) (past_word (leb-false at (length s) t))

  pub rest_at : drop 1 (words_at s at) ≡ words_at s (next_place s at)
  rest_at = by_end (leb at (length s)) refl
    where
      by_end : (b : Bool) → leb at (length s) ≡ b → drop 1 (words_at s at) ≡ words_at s (next_place s at)
      by_end true t = rw (some_at (leb-true at (length s) t)) refl
      by_end false t = rw (place_past (leb-false at (length s) t), none_at (leb-false at (length s) t)) refl

nth_rest : (ws : List (List ℕ)) (k : ℕ) → nth (drop 1 ws) k ≡ nth ws (suc k)
nth_rest [] k = refl
nth_rest (w ∷ ws) k = refl

-- the places are those of the words
placed : (s : List ℕ) (at n k : ℕ) → k < n → word_of (drop (get_or (places_from s at n) k 0) s) ≡ nth (words_at s at) k
unfolding places_from
placed s at zero k h = absurd (omega arith)
placed s at (suc n) zero h = word_at s at
placed s at (suc n) (suc k) h =
    placed s (next_place s at) n k (omega arith) ∙ ap (λ ws. nth ws k) (sym (rest_at s at)) ∙ nth_rest (words_at s at) k

pub words_placed : (s : List ℕ) (k : ℕ) → k < 10 → word_of (drop (get_or (places_from s 0 10) k 0) s) ≡ nth (words_of s) k
words_placed s k h = placed s 0 10 k h ∙ ap (λ ws. nth ws k) (words_all s)

drop_rest : (ws : List (List ℕ)) (k : ℕ) → drop k (drop 1 ws) ≡ drop (suc k) ws
drop_rest [] k = drop-nil k
drop_rest (w ∷ ws) k = refl

placed-from : (s : List ℕ) (at n k : ℕ) → k < n → words_at s (get_or (places_from s at n) k 0) ≡ drop k (words_at s at)
unfolding places_from
placed-from s at zero k h = absurd (omega arith)
placed-from s at (suc n) zero h = refl
placed-from s at (suc n) (suc k) h = placed-from s (next_place s at) n k (omega arith) ∙ ap (drop k) (sym (rest_at s at)) ∙ drop_rest (words_at s at) k

-- all words from one on, as a record's
pub words_from_lem : (s : List ℕ) (k : ℕ) → k < 10 → words_at s (get_or (places_from s 0 10) k 0) ≡ drop k (words_of s)
words_from_lem s k h = placed-from s 0 10 k h ∙ ap (drop k) (words_all s)

-- ---- of `next_place`

pub word_length_lem : (s : List ℕ) → length (word_of s) ≡ word_length s
unfolding word_of
word_length_lem s = length-take-le (word_length s) s (word_within s)

-- ---- of `places`: the places that are left go where they went from the start

module _ (s : List ℕ) where
  abbrev pub placed_from : List ℕ → ℕ → ℕ → List ℕ
  placed_from l i at = sets l i (places_from s at (10 - i))

  pub placed_more : (l : List ℕ) (i at : ℕ) → i < 10 → {next : ℕ} → next ≡ next_place s at → placed_from l i at ≡ placed_from (set l i at) (i + 1) next
  unfolding places_from
  placed_more l i at h en =
      let e : 10 - i ≡ suc (10 - (i + 1)) = omega arith in
      rw (e, en, add-one i) refl

  pub placed_end : (l : List ℕ) (i at : ℕ) → 10 ≤ i → placed_from l i at ≡ l
  unfolding places_from
  placed_end l i at h = let e : 10 - i ≡ 0 = omega arith in rw e refl

  -- ten of them fill an array of ten
  pub placed_all : (l : List ℕ) → length l ≡ 10 → sets l 0 (places_from s 0 10) ≡ places_from s 0 10
  unfolding places_from
  placed_all l e = sets-eq (places_from s 0 10) l 0 (omega (arith, e)) ∙ ap (λ x. places_from s 0 10 ++ x) (drop_of_length-le l {i = 10} (omega (arith, e))) ∙ append-nil (places_from s 0 10)

-- ---- words that are the same

same_self : (a : List ℕ) → same a a ≡ true
unfolding same
same_self [] = refl
same_self (x ∷ a) = rw (eq-eqb x x refl) (same_self a)

same_is : (a b : List ℕ) → same a b ≡ true → a ≡ b
unfolding same
same_is [] [] e = refl
same_is [] (y ∷ b) e = let z : ◌≡◌ {A = ℕ} 0 1 = cc in absurd (omega arith)
same_is (x ∷ a) [] e = let z : ◌≡◌ {A = ℕ} 0 1 = cc in absurd (omega arith)
same_is (x ∷ a) (y ∷ b) e = by_first (eqb x y) refl e (same_is a b)
  where
    by_first : (t : Bool) → eqb x y ≡ t → t && same a b ≡ true → (same a b ≡ true → a ≡ b) → x ∷ a ≡ y ∷ b
    by_first true t f rest = ap₂ ◌∷◌ (eqb-true x y t) (rest f)
    by_first false t f rest = let z : ◌≡◌ {A = ℕ} 0 1 = cc in absurd (omega arith)

-- what tells equal words apart from others is this test
pub same_told : (a b : List ℕ) {r : Bool} → (r ≡ true → a ≡ b) × (a ≡ b → r ≡ true) → r ≡ same a b
same_told a b {r} x = by_answer r (same a b) x.0 (λ e. x.1 (same_is a b e)) (λ e. ap (same a) (sym e) ∙ same_self a)
  where
    by_answer : (r s : Bool) → (r ≡ true → a ≡ b) → (s ≡ true → r ≡ true) → (a ≡ b → s ≡ true) → r ≡ s
    by_answer true s f g h = sym (h (f refl))
    by_answer false true f g h = g refl
    by_answer false false f g h = refl

-- `==` is
pub same_octets : (a b : List ℕ) → pointwise eqb a b ≡ same a b
same_octets a b = same_told a b (slice_eq-Decides Decides-eqb a b (pointwise eqb a b) refl)
