-- A slice copied over another that is as long, element by element.
use Rattle.std.specs.Prelude.{◌≡◌, refl, List, [], ◌∷◌, ◌++◌, map, ℕ, zero, suc, ◌+◌, ◌≤◌, ◌<◌, length, take, drop, set, get_or}
use Rattle.std.proofs.Common.{sym, ap, ap₂, ◌∙◌, subst, append-nil, not-suc-le-zero, le_of_suc-le-suc, add-one, drop_of_length-le, take_all}
use Rattle.std.proofs.lemmas.List.{length-map}
use Rattle.std.proofs.Math.ListN.{get_or-map}

-- the first n copied
abbrev pub copied : {A : Type 0} → ℕ → List A → List A → List A
copied n s d = take n s ++ drop n d

copied_suc : {A : Type 0} (z : A) (n : ℕ) (s d : List A) → n < length s → n < length d → set (copied n s d) n (get_or s n z) ≡ copied (suc n) s d
copied_suc z n [] d h g = absurd (not-suc-le-zero h)
copied_suc z n (x ∷ s) [] h g = absurd (not-suc-le-zero g)
copied_suc z zero (x ∷ s) (y ∷ d) h g = refl
copied_suc {A} z (suc n) (x ∷ s) (y ∷ d) h g = ap (λ (t : List A). x ∷ t) (copied_suc z n s d (le_of_suc-le-suc h) (le_of_suc-le-suc g))

module _ {A : Type 0} (s d : List A) (l : length s ≡ length d) where
  pub copied_more : (n : ℕ) (z : A) → n < length s → {x : A} → x ≡ get_or s n z → set (copied n s d) n x ≡ copied (n + 1) s d
  copied_more n z h e = rw (add-one n, e) (copied_suc z n s d h (subst (n <◌) l h))

  pub copied_all : (n : ℕ) → length s ≤ n → copied n s d ≡ s
  copied_all n h = ap₂ ◌++◌ (take_all n s h) (drop_of_length-le d (subst (◌≤ n) l h)) ∙ append-nil s

-- ---- and changed on the way

module _ {A B : Type 0} (f : A → B) (s : List A) (d : List B) (l : length s ≡ length d) where
  mapped_length : length (map f s) ≡ length d
  mapped_length = length-map s f ∙ l

  pub mapped_more : (n : ℕ) (z : A) → n < length s → {x : B} → x ≡ f (get_or s n z) → set (copied n (map f s) d) n x ≡ copied (n + 1) (map f s) d
  mapped_more n z h e = copied_more (map f s) d mapped_length n (f z) (subst (n <◌) (sym (length-map s f)) h) (e ∙ sym (get_or-map f s n z))

  pub mapped_all : (n : ℕ) → length s ≤ n → copied n (map f s) d ≡ map f s
  mapped_all n h = copied_all (map f s) d mapped_length n (subst (◌≤ n) (sym (length-map s f)) h)
