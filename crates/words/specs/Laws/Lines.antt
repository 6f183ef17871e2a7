-- The first word of a line by place: one law for each way through the code.
use Rattle.std.specs.Prelude.{◌≡◌, Bool, true, false, not, cond, List, [], ◌∷◌, ℕ, suc, ◌+◌, ◌-◌, ◌≤◌, ◌<◌, ltb, eqb, Some, None, unwrap_or, position, length, take, drop}
use Rattle.std.specs.List.{position_or_len}
use Rattle.std.proofs.Common.{refl, sym, ap, ◌∙◌, arith, length-drop, length-take-le, drop_of_length-le, take_all}
use Rattle.std.proofs.lemmas.Bool.{ltb-false}
use Rattle.std.proofs.lemmas.List.Recursion.{is_position_or_len}
use Rattle.std.proofs.lemmas.List.Sums.{prefix_len-le-length}
use Rattle.codec.specs.Pick.{pick}
use Rattle.words.specs.Lines.{word_length, word_of}

-- ---- the place of the first element that passes, or the length: as `position` and `unwrap_or` give it

pub position_is : {X : Type 0} (F : List X → ℕ) (p : X → Bool) → F [] ≡ 0 → ((x : X) (xs : List X) → F (x ∷ xs) ≡ cond (p x) 0 (1 + F xs)) → (xs : List X)
    → unwrap_or (position p xs) (length xs) ≡ F xs
position_is F p none more xs = by_place (ltb (position_or_len p xs) (length xs)) refl ∙ sym (is_position_or_len F p none more xs)
  where
    by_place : (b : Bool) → ltb (position_or_len p xs) (length xs) ≡ b → unwrap_or (cond b (Some (position_or_len p xs)) None) (length xs) ≡ position_or_len p xs
    by_place true t = refl
    by_place false t = omega (arith, ltb-false (position_or_len p xs) (length xs) t, prefix_len-le-length (λ x. not (p x)) xs)

pub word_length_is : (s : List ℕ) → unwrap_or (position (λ o. eqb o 32) s) (length s) ≡ word_length s
unfolding word_length
word_length_is s = position_is word_length (λ o. eqb o 32) refl more s
  where
    more : (o : ℕ) (os : List ℕ) → pick (eqb o 32) 0 (suc (word_length os)) ≡ cond (eqb o 32) 0 (1 + word_length os)
    more o os = by_test (eqb o 32)
      where
        by_test : (b : Bool) → pick b 0 (suc (word_length os)) ≡ cond b 0 (1 + word_length os)
        by_test true = refl
        by_test false = omega arith

-- ---- where the first word ends

pub word_within : (s : List ℕ) → word_length s ≤ length s
unfolding word_length
word_within [] = omega arith
word_within (o ∷ s) = within (eqb o 32) (word_within s)
  where
    within : (b : Bool) {n : ℕ} → n ≤ length s → pick b 0 (suc n) ≤ suc (length s)
    within true h = omega arith
    within false h = omega arith

-- no word starts past the end
pub word_past : (s : List ℕ) (at : ℕ) → length s < at → [] ≡ word_of (drop at s)
unfolding word_of word_length
word_past s at h = rw (drop_of_length-le s {i = at} (omega arith)) refl

-- the word from a place within a line on, which code cuts out twice
module _ (s : List ℕ) (at : ℕ) (h : at ≤ length s) {e : ℕ} (stop : e ≡ word_length (take (length s - at) (drop at s))) where
  rest : take (length s - at) (drop at s) ≡ drop at s
  rest = take_all (length s - at) (drop at s) (omega (arith, length-drop at s))

  pub end_within : e ≡ length (take e (take (length s - at) (drop at s)))
  end_within = let all = take (length s - at) (drop at s) in sym (length-take-le e all (omega (arith, stop, word_within all)))

  pub word_cut : take e (take (length s - at) (drop at s)) ≡ word_of (drop at s)
  unfolding word_of
  word_cut = let k : e ≡ word_length (drop at s) = stop ∙ ap word_length rest in rw (rest, k) refl
