-- Lines, words and values by place: one law for each way through the code.
use Rattle.std.specs.Prelude.{◌≡◌, Bool, ◌&&◌, cond, Option, Some, None, MatchOption, unwrap_or, option_and_then, position, ℕ, zero, suc, ◌+◌, ◌-◌, ◌≤◌, ◌<◌, eqb, leb, length, get_or}
use Rattle.std.proofs.Math.Path.{refl, ap}
use Rattle.std.proofs.Common.{sym, ◌∙◌, arith}
use Rattle.std.proofs.Math.Bool.{true, false}
use mathlib.Core.List.{List, [], ◌∷◌}
use Rattle.std.proofs.Math.ListN.{take, drop}
use Rattle.codec.specs.Pick.{pick}
use Rattle.std.specs.Bool.{then_some}
use Rattle.words.specs.Numbers.{number_in, at_most}
use Rattle.words.specs.Laws.Lines.{position_is}
use Rattle.walk.specs.Lines.{place_in, first_longer, words_in}
use Rattle.guess.specs.Lines.{before_octet, behind_octet, behind_feed, behind_feeds}
use Rattle.guess.specs.Guess.{value_in, bounded_in}

-- ---- the place of an octet

pub place_is : (x : ℕ) (s : List ℕ) → unwrap_or (position (λ o. eqb o x) s) (length s) ≡ place_in x s
unfolding place_in
place_is x s = position_is (place_in x) (λ o. eqb o x) refl more s
  where
    more : (o : ℕ) (os : List ℕ) → pick (eqb o x) 0 (suc (place_in x os)) ≡ cond (eqb o x) 0 (1 + place_in x os)
    more o os = by_test (eqb o x)
      where
        by_test : (b : Bool) → pick b 0 (suc (place_in x os)) ≡ cond b 0 (1 + place_in x os)
        by_test true = refl
        by_test false = omega arith

pub place_within : (x : ℕ) (s : List ℕ) → place_in x s ≤ length s
unfolding place_in
place_within x [] = omega arith
place_within x (o ∷ s) = go (eqb o x) (place_within x s)
  where
    go : (b : Bool) {n : ℕ} → n ≤ length s → pick b 0 (suc n) ≤ suc (length s)
    go true h = omega arith
    go false h = omega arith

module _ (x : ℕ) where
  pub before_is : (s : List ℕ) → take (place_in x s) s ≡ before_octet x s
  unfolding place_in before_octet
  before_is [] = refl
  before_is (o ∷ s) = go (eqb o x) (before_is s)
    where
      go : (b : Bool) → take (place_in x s) s ≡ before_octet x s → take (pick b 0 (suc (place_in x s))) (o ∷ s) ≡ pick b [] (o ∷ before_octet x s)
      go true e = refl
      go false e = ap (o ∷◌) e

  pub behind_is : (s : List ℕ) → drop 1 (drop (place_in x s) s) ≡ behind_octet x s
  unfolding place_in behind_octet
  behind_is [] = refl
  behind_is (o ∷ s) = go (eqb o x) (behind_is s)
    where
      go : (b : Bool) → drop 1 (drop (place_in x s) s) ≡ behind_octet x s → drop 1 (drop (pick b 0 (suc (place_in x s))) (o ∷ s)) ≡ pick b s (behind_octet x s)
      go true e = refl
      go false e = e

-- ---- words

words_split : (t : List ℕ) → words_in t ≡ before_octet 32 t ∷ drop 1 (words_in t)
unfolding words_in first_longer before_octet
words_split [] = refl
words_split (o ∷ t) = go (eqb o 32) (words_split t)
  where
    go : (b : Bool) → words_in t ≡ before_octet 32 t ∷ drop 1 (words_in t)
        → pick b ([] ∷ words_in t) (first_longer o (words_in t)) ≡ pick b [] (o ∷ before_octet 32 t) ∷ drop 1 (pick b ([] ∷ words_in t) (first_longer o (words_in t)))
    go true e = refl
    go false e = ap (first_longer o) e ∙ ap (λ ws. (o ∷ before_octet 32 t) ∷ drop 1 (first_longer o ws)) (sym e)

words_behind : (t : List ℕ) (k : ℕ) → get_or (drop 1 (words_in t)) k [] ≡ get_or (words_in (behind_octet 32 t)) k []
unfolding words_in first_longer behind_octet
words_behind [] zero = refl
words_behind [] (suc k) = refl
words_behind (o ∷ t) k = go (eqb o 32) (words_behind t k)
  where
    longer : (ws : List (List ℕ)) → drop 1 (first_longer o ws) ≡ drop 1 ws
    longer [] = refl
    longer (w ∷ ws) = refl

    go : (b : Bool) → get_or (drop 1 (words_in t)) k [] ≡ get_or (words_in (behind_octet 32 t)) k []
        → get_or (drop 1 (pick b ([] ∷ words_in t) (first_longer o (words_in t)))) k [] ≡ get_or (words_in (pick b t (behind_octet 32 t))) k []
    go true e = refl
    go false e = ap (λ ws. get_or ws k []) (longer (words_in t)) ∙ e

-- word n - k of what follows k words
pub word_first : (t : List ℕ) (n k : ℕ) → n ≤ k → {w : List ℕ} → w ≡ before_octet 32 t → w ≡ get_or (words_in t) (n - k) []
word_first t n k h ew = let e : n - k ≡ 0 = omega arith in ew ∙ ap (λ ws. get_or ws 0 []) (sym (words_split t)) ∙ ap (λ j. get_or (words_in t) j []) (sym e)

pub word_more : (t : List ℕ) (n k : ℕ) → k < n → {u : List ℕ} → u ≡ behind_octet 32 t → get_or (words_in t) (n - k) [] ≡ get_or (words_in u) (n - (k + 1)) []
word_more t n k h {u} eu =
    let e : n - k ≡ suc (n - (k + 1)) = omega arith in
    ap (λ j. get_or (words_in t) j []) e ∙ ap (λ ws. get_or ws (suc (n - (k + 1))) []) (words_split t) ∙ words_behind t (n - (k + 1)) ∙ ap (λ x. get_or (words_in x) (n - (k + 1)) []) (sym eu)

-- what follows n - k lines more
pub skip_none : (n k : ℕ) (t : List ℕ) → n ≤ k → t ≡ behind_feeds (n - k) t
unfolding behind_feeds
skip_none n k t h = let e : n - k ≡ 0 = omega arith in rw e refl

pub skip_more : (n k : ℕ) (t : List ℕ) → k < n → {u : List ℕ} → u ≡ behind_feed t → behind_feeds (n - k) t ≡ behind_feeds (n - (k + 1)) u
unfolding behind_feeds
skip_more n k t h eu = let e : n - k ≡ suc (n - (k + 1)) = omega arith in rw e (ap (behind_feeds (n - (k + 1))) (sym eu))

-- ---- a number within bounds

-- what a test leaves of an answer
pub filtered : {A : Type 0} {Q : A → Bool → Type 0} (p : A → Bool) (o r : Option A) → MatchOption o (r ≡ None) (λ x. (b : Bool) × Q x b × (r ≡ then_some b x)) → ((x : A) (b : Bool) → Q x b → b ≡ p x)
    → r ≡ option_and_then (λ x. then_some (p x) x) o
filtered p None r h f = h
filtered p (Some x) r (b, q, e) f = e ∙ ap (λ t. then_some t x) (f x b q)

pub bounded_told : (lo hi : ℕ) (t : List ℕ) → unwrap_or (option_and_then (λ n. then_some (leb lo n) n) (at_most hi (number_in hi (value_in t)))) lo ≡ bounded_in lo hi t
unfolding bounded_in
bounded_told lo hi t = go (number_in hi (value_in t))
  where
    by_tests : (n : ℕ) (a b : Bool) → leb lo n ≡ a → unwrap_or (option_and_then (λ m. then_some (leb lo m) m) (then_some b n)) lo ≡ pick (a && b) n lo
    by_tests n true true e = rw e refl
    by_tests n false true e = rw e refl
    by_tests n true false e = refl
    by_tests n false false e = refl

    go : (n : ℕ) → unwrap_or (option_and_then (λ m. then_some (leb lo m) m) (at_most hi n)) lo ≡ pick (leb lo n && leb n hi) n lo
    go n = by_tests n (leb lo n) (leb n hi) refl
