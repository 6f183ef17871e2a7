-- The parts of a chain and the subfields of an item: those that are there are known (parts), or told by how the text begins (subfields).
use Rattle.std.specs.Prelude.{◌≡◌, refl, Bool, true, false, ◌&&◌, List, [], ◌∷◌, ◌++◌, T, eqb, ltb, ℤ, pos, length, take, drop, replicate}
use Rattle.std.proofs.Common.{sym, ap, ap₂, ◌∙◌, subst, arith, eq-eqb, eqb→eq, take-append-drop, take_at, drop_at}
use Prim.Native.Nat.{ℕ, suc, ◌-◌}
use Rattle.std.proofs.lemmas.List.{length-replicate}
use Rattle.codec.specs.Pick.{pick}
use Rattle.codec.specs.Line.{Piece, spare, num, Line, fit_nums, in_limits, in_num, count}
use Rattle.codec.specs.Item.{zeros}
use Rattle.codec.proofs.Laws.Tests.{and_in, and_l, and_r, holds}
use Rattle.codec.proofs.Laws.Item.{zeros_are, zeros_yes}
use Rattle.papers.specs.Names.{Key}
use Rattle.scope.specs.Sheet.{numbers_text, lines_text}
use Rattle.guess.proofs.Laws.Fits.{whole, whole_append, whole_pick, Fits, by_lines, fits_nil, fits_split, fits_join}
use Rattle.guess.specs.Guess.{behind_keys, numbers_in, taken_lines, left_lines, begins, head_of, open_in}
use Rattle.guess.proofs.Laws.Numbers.{numbers_whole, listed, keep_numbers, numbers_fit, group_begins}

-- ---- numbers that a line can hold: there, they fit and are within their limits; absent, they are zeros

unfoldable pub line_ok : Bool → Line → List ℤ → Bool
line_ok true l zs = fit_nums l.pieces zs && in_limits l.pieces zs
line_ok false l zs = zeros (count l.pieces) zs

unfoldable pub lines_ok : List Bool → List Line → List ℤ → Bool
unfolding line_ok
lines_ok ts [] [] = true
lines_ok ts [] (z ∷ zs) = false
lines_ok [] (l ∷ ls) zs = false
lines_ok (b ∷ ts) (l ∷ ls) zs = line_ok b l (take (count l.pieces) zs) && lines_ok ts ls (drop (count l.pieces) zs)

pub fit_length : (ps : List Piece) (zs : List ℤ) → T (fit_nums ps zs) → length zs ≡ count ps
unfolding fit_nums count
fit_length [] [] h = refl
fit_length [] (z ∷ zs) h = absurd h
fit_length (spare w ∷ ps) zs h = fit_length ps zs h
fit_length (num k w ∷ ps) [] h = absurd h
fit_length (num k w ∷ ps) (z ∷ zs) h = ap suc (fit_length ps zs (and_r (in_num k w z) _ h))

-- every line has its keys, and a number
unfoldable pub listed_lines : List (List Key) → List Line → Bool
unfolding listed
listed_lines [] [] = true
listed_lines [] (l ∷ ls) = false
listed_lines (k ∷ ks) [] = false
listed_lines (k ∷ ks) (l ∷ ls) = (listed k l.pieces && ltb 0 (count l.pieces)) && listed_lines ks ls

pub lines_whole : (ts : List Bool) (ks : List (List Key)) (ls : List Line) (zs : List ℤ) → T (whole (lines_text ts ks ls zs))
unfolding lines_text whole
lines_whole [] ks ls zs = tt
lines_whole (b ∷ ts) [] ls zs = tt
lines_whole (b ∷ ts) (k ∷ ks) [] zs = tt
lines_whole (b ∷ ts) (k ∷ ks) (l ∷ ls) zs =
    whole_append (pick b (numbers_text k (take (count l.pieces) zs)) []) _ (whole_pick b _ (numbers_whole k (take (count l.pieces) zs))) (lines_whole ts ks ls (drop (count l.pieces) zs))

-- the text of a line's numbers and of those behind them
lines_more : (b : Bool) (ts : List Bool) (k : List Key) (ks : List (List Key)) (l : Line) (ls : List Line) (xs ys : List ℤ) → length xs ≡ count l.pieces
    → lines_text (b ∷ ts) (k ∷ ks) (l ∷ ls) (xs ++ ys) ≡ pick b (numbers_text k xs) [] ++ lines_text ts ks ls ys
unfolding lines_text
lines_more b ts k ks l ls xs ys e = rw (take_at xs ys (count l.pieces) e, drop_at xs ys (count l.pieces) e) refl

-- ---- one line that is there, and what comes behind it

keep_line : (k : List Key) (l : Line) (xs : List ℤ) → T (listed k l.pieces) → T (line_ok true l xs) → (r r' : List ℕ) → (n : ℕ) (t : List ℕ) (K K' : ℕ → List ℕ → Type 0)
    → Fits n (numbers_text k xs ++ r) t K
    → (numbers_in k l.pieces t ≡ xs → (m : ℕ) → Fits (suc m) r (behind_keys k t) K → Fits (suc m) r' (behind_keys k t) K')
    → Fits n (numbers_text k (numbers_in k l.pieces t) ++ r') t K'
unfolding line_ok
keep_line k l xs q o r r' n t K K' h c =
    fits_join n (numbers_text k (numbers_in k l.pieces t)) r' t K' (numbers_whole k _)
    (keep_numbers k l.pieces xs q (and_l (fit_nums l.pieces xs) _ o) (and_r (fit_nums l.pieces xs) _ o) n t (λ m x. Fits m r x K) (λ m x. Fits m r' x K')
    (fits_split n (numbers_text k xs) r t K (numbers_whole k xs) h) c)

-- its numbers are as many as it has places
taken_length : (k : List Key) (l : Line) (t : List ℕ) → T (listed k l.pieces) → length (numbers_in k l.pieces t) ≡ count l.pieces
taken_length k l t q = fit_length l.pieces _ (numbers_fit k l.pieces q t).0

-- ---- lines of which it is known whether they are there

pub keep_lines : (ts : List Bool) (ks : List (List Key)) (ls : List Line) (zs : List ℤ) → T (listed_lines ks ls) → T (lines_ok ts ls zs) → (n : ℕ) (t : List ℕ) (K K' : ℕ → List ℕ → Type 0)
    → Fits n (lines_text ts ks ls zs) t K → (taken_lines ts ks ls t ≡ zs → (m : ℕ) → K (suc m) (left_lines ts ks t) → K' (suc m) (left_lines ts ks t))
    → Fits n (lines_text ts ks ls (taken_lines ts ks ls t)) t K'
unfolding listed_lines lines_ok line_ok taken_lines left_lines lines_text Fits
keep_lines [] [] [] [] q o n t K K' h c = fits_nil n t K K' h (c refl)
keep_lines (true ∷ ts) [] [] [] q o n t K K' h c = fits_nil n t K K' h (c refl)
keep_lines (false ∷ ts) [] [] [] q o n t K K' h c = fits_nil n t K K' h (c refl)
keep_lines ts [] [] (z ∷ zs) q o n t K K' h c = absurd o
keep_lines ts [] (l ∷ ls) zs q o n t K K' h c = absurd q
keep_lines ts (k ∷ ks) [] zs q o n t K K' h c = absurd q
keep_lines [] (k ∷ ks) (l ∷ ls) zs q o n t K K' h c = absurd o
keep_lines (true ∷ ts) (k ∷ ks) (l ∷ ls) zs q o n t K K' h c =
    let m : ℕ = count l.pieces in
    let qk : T (listed k l.pieces) = and_l (listed k l.pieces) _ (and_l (listed k l.pieces && ltb 0 m) _ q) in
    let t2 : List ℕ = behind_keys k t in
    subst (λ x. Fits n x t K') (sym (lines_more true ts k ks l ls (numbers_in k l.pieces t) (taken_lines ts ks ls t2) (taken_length k l t qk)))
    (keep_line k l (take m zs) qk (and_l (line_ok true l (take m zs)) _ o) (lines_text ts ks ls (drop m zs)) (lines_text ts ks ls (taken_lines ts ks ls t2)) n t K K' h
    (λ e j g. keep_lines ts ks ls (drop m zs) (and_r (listed k l.pieces && ltb 0 m) _ q) (and_r (line_ok true l (take m zs)) _ o) (suc j) t2 K K' g
    (λ es. c (ap₂ ◌++◌ e es ∙ take-append-drop m zs))))
keep_lines (false ∷ ts) (k ∷ ks) (l ∷ ls) zs q o n t K K' h c =
    let m : ℕ = count l.pieces in
    let e : replicate m (pos 0) ≡ take m zs = sym (zeros_are m (take m zs) (and_l (line_ok false l (take m zs)) _ o)) in
    subst (λ x. Fits n x t K') (sym (lines_more false ts k ks l ls (replicate m (pos 0)) (taken_lines ts ks ls t) (length-replicate m (pos 0))))
    (keep_lines ts ks ls (drop m zs) (and_r (listed k l.pieces && ltb 0 m) _ q) (and_r (line_ok false l (take m zs)) _ o) n t K K' h
    (λ es. c (ap₂ ◌++◌ e es ∙ take-append-drop m zs)))

-- what is taken is what the lines can hold, whatever the text
pub lines_ok_lem : (ts : List Bool) (ks : List (List Key)) (ls : List Line) → T (listed_lines ks ls) → length ts ≡ length ls → (t : List ℕ) → T (lines_ok ts ls (taken_lines ts ks ls t))
unfolding listed_lines lines_ok line_ok taken_lines
lines_ok_lem [] [] [] q e t = tt
lines_ok_lem (b ∷ ts) [] [] q e t = absurd (omega arith)
lines_ok_lem ts [] (l ∷ ls) q e t = absurd q
lines_ok_lem ts (k ∷ ks) [] q e t = absurd q
lines_ok_lem [] (k ∷ ks) (l ∷ ls) q e t = absurd (omega arith)
lines_ok_lem (true ∷ ts) (k ∷ ks) (l ∷ ls) q e t =
    let m : ℕ = count l.pieces in
    let qk : T (listed k l.pieces) = and_l (listed k l.pieces) _ (and_l (listed k l.pieces && ltb 0 m) _ q) in
    let xs : List ℤ = numbers_in k l.pieces t in
    let ys : List ℤ = taken_lines ts ks ls (behind_keys k t) in
    let f = numbers_fit k l.pieces qk t in
    and_in (line_ok true l (take m (xs ++ ys))) _
    (subst (λ z. T (line_ok true l z)) (sym (take_at xs ys m (taken_length k l t qk))) (and_in (fit_nums l.pieces xs) _ f.0 f.1))
    (subst (λ z. T (lines_ok ts ls z)) (sym (drop_at xs ys m (taken_length k l t qk))) (lines_ok_lem ts ks ls (and_r (listed k l.pieces && ltb 0 m) _ q) (omega arith) (behind_keys k t)))
lines_ok_lem (false ∷ ts) (k ∷ ks) (l ∷ ls) q e t =
    let m : ℕ = count l.pieces in
    let xs : List ℤ = replicate m (pos 0) in
    let ys : List ℤ = taken_lines ts ks ls t in
    and_in (line_ok false l (take m (xs ++ ys))) _
    (subst (λ z. T (line_ok false l z)) (sym (take_at xs ys m (length-replicate m (pos 0)))) (zeros_yes m))
    (subst (λ z. T (lines_ok ts ls z)) (sym (drop_at xs ys m (length-replicate m (pos 0)))) (lines_ok_lem ts ks ls (and_r (listed k l.pieces && ltb 0 m) _ q) (omega arith) t))

-- ---- how a text may begin: words of which none is the beginning of another

unfoldable pub apart : List ℕ → List ℕ → Bool
apart [] h = false
apart (o ∷ w) [] = false
apart (o ∷ w) (p ∷ h) = pick (eqb o p) (apart w h) true

unfoldable pub apart_all : List ℕ → List (List ℕ) → Bool
unfolding apart
apart_all w [] = true
apart_all w (h ∷ hs) = apart w h && apart_all w hs

unfoldable pub starts_any : List (List ℕ) → List ℕ → Bool
starts_any [] t = false
starts_any (h ∷ hs) t = pick (begins h t) true (starts_any hs t)

apart_not : (w h t : List ℕ) → T (apart w h) → T (begins w t) → T (begins h t) → ⊥
unfolding apart begins
apart_not [] h t a b c = a
apart_not (o ∷ w) [] t a b c = a
apart_not (o ∷ w) (p ∷ h) [] a b c = b
apart_not (o ∷ w) (p ∷ h) (x ∷ t) a b c =
    let e : o ≡ p = sym (eqb→eq x o (and_l (eqb x o) _ b)) ∙ eqb→eq x p (and_l (eqb x p) _ c) in
    apart_not w h t (subst (λ z. T (pick z (apart w h) true)) (eq-eqb o p e) a) (and_r (eqb x o) _ b) (and_r (eqb x p) _ c)

starts_apart : (w : List ℕ) (hs : List (List ℕ)) (t : List ℕ) → T (apart_all w hs) → T (starts_any hs t) → begins w t ≡ false
unfolding apart_all starts_any
starts_apart w [] t a s = absurd s
starts_apart w (h ∷ hs) t a s = go (begins h t) refl (begins w t) refl s (λ s. starts_apart w hs t (and_r (apart w h) _ a) s)
  where
    go : (x : Bool) → begins h t ≡ x → (y : Bool) → begins w t ≡ y → T (pick x true (starts_any hs t)) → (T (starts_any hs t) → begins w t ≡ false) → y ≡ false
    go true e true f s k = absurd (apart_not w h t (and_l (apart w h) _ a) (subst T (sym f) tt) (subst T (sym e) tt))
    go true e false f s k = refl
    go false e y f s k = sym f ∙ k s

starts_left : (hs gs : List (List ℕ)) (t : List ℕ) → T (starts_any hs t) → T (starts_any (hs ++ gs) t)
unfolding starts_any
starts_left [] gs t s = absurd s
starts_left (h ∷ hs) gs t s = go (begins h t) s (starts_left hs gs t)
  where
    go : (x : Bool) → T (pick x true (starts_any hs t)) → (T (starts_any hs t) → T (starts_any (hs ++ gs) t)) → T (pick x true (starts_any (hs ++ gs) t))
    go true s k = tt
    go false s k = k s

pub starts_right : (hs gs : List (List ℕ)) (t : List ℕ) → T (starts_any gs t) → T (starts_any (hs ++ gs) t)
unfolding starts_any
starts_right [] gs t s = s
starts_right (h ∷ hs) gs t s = go (begins h t) (starts_right hs gs t s)
  where
    go : (x : Bool) → T (starts_any (hs ++ gs) t) → T (pick x true (starts_any (hs ++ gs) t))
    go true k = tt
    go false k = k

unfoldable pub heads_of : List (List Key) → List (List ℕ)
unfolding head_of
heads_of [] = []
heads_of (k ∷ ks) = head_of k ∷ heads_of ks

-- a text that has a line in common with some lines, or with what comes behind them, begins with a first key of theirs, or as what comes behind
abbrev pub Begins : List (List ℕ) → (ℕ → List ℕ → Type 0) → Type 0
Begins hs K = (m : ℕ) (x : List ℕ) → K (suc m) x → T (starts_any hs x)

pub lines_begin : (ts : List Bool) (ks : List (List Key)) (ls : List Line) (zs : List ℤ) → T (listed_lines ks ls) → T (lines_ok ts ls zs) → (hs : List (List ℕ)) (K : ℕ → List ℕ → Type 0) → Begins hs K
    → Begins (heads_of ks ++ hs) (λ m x. Fits m (lines_text ts ks ls zs) x K)
unfolding listed_lines lines_ok line_ok lines_text heads_of starts_any Fits
lines_begin [] [] ls zs q o hs K b m t h = b m t h
lines_begin (a ∷ ts) [] ls zs q o hs K b m t h = b m t h
lines_begin ts (k ∷ ks) [] zs q o hs K b m t h = absurd q
lines_begin [] (k ∷ ks) (l ∷ ls) zs q o hs K b m t h = absurd o
lines_begin (true ∷ ts) (k ∷ ks) (l ∷ ls) zs q o hs K b m t h =
    let c : ℕ = count l.pieces in
    let ql : T (listed k l.pieces && ltb 0 c) = and_l (listed k l.pieces && ltb 0 c) _ q in
    let g : T (begins (head_of k) t) = group_begins k l.pieces (take c zs) (and_l (listed k l.pieces) _ ql) (and_l (fit_nums l.pieces (take c zs)) _ (and_l (line_ok true l (take c zs)) _ o)) (and_r (listed k l.pieces) _ ql)
    m t (λ j x. Fits j (lines_text ts ks ls (drop c zs)) x K) (fits_split (suc m) (numbers_text k (take c zs)) _ t K (numbers_whole k (take c zs)) h) in
    rw (holds (begins (head_of k) t) g) tt
lines_begin (false ∷ ts) (k ∷ ks) (l ∷ ls) zs q o hs K b m t h =
    starts_right (head_of k ∷ []) (heads_of ks ++ hs) t
    (lines_begin ts ks ls (drop (count l.pieces) zs) (and_r (listed k l.pieces && ltb 0 (count l.pieces)) _ q) (and_r (line_ok false l (take (count l.pieces) zs)) _ o) hs K b m t h)

-- ---- subfields that are there if the text begins with their first key

-- only the first n may be there
unfoldable pub allowed : ℕ → List Bool → Bool
allowed n [] = true
allowed n (true ∷ ts) = ltb 0 n && allowed (n - 1) ts
allowed n (false ∷ ts) = allowed (n - 1) ts

-- no first key is the beginning of another, nor of how what comes behind begins
unfoldable pub heads_apart : List (List Key) → List (List ℕ) → Bool
unfolding apart_all heads_of
heads_apart [] hs = true
heads_apart (k ∷ ks) hs = apart_all (head_of k) (heads_of ks ++ hs) && heads_apart ks hs

neither : (a b : Bool) → b ≡ false → a && b ≡ false
neither true b e = e
neither false b e = refl

-- whether a subfield is taken, where there is a line to agree
module _ (lim : ℕ) (b : Bool) (ts : List Bool) (k : List Key) (ks : List (List Key)) (l : Line) (ls : List Line) (zs : List ℤ) (q : T (listed_lines (k ∷ ks) (l ∷ ls))) (o : T (lines_ok (b ∷ ts) (l ∷ ls) zs))
    (al : T (allowed lim (b ∷ ts))) (hs : List (List ℕ)) (far : T (heads_apart (k ∷ ks) hs)) (t : List ℕ) (K : ℕ → List ℕ → Type 0) (after : Begins hs K) where
  opened : (m : ℕ) → Fits (suc m) (lines_text (b ∷ ts) (k ∷ ks) (l ∷ ls) zs) t K → (ltb 0 lim && begins (head_of k) t) ≡ b
  unfolding listed_lines lines_ok line_ok allowed heads_apart lines_text
  opened m h = go b al o h
    where
      c : ℕ
      c = count l.pieces

      ql : T (listed k l.pieces && ltb 0 c)
      ql = and_l (listed k l.pieces && ltb 0 c) _ q

      go : (b : Bool) → T (allowed lim (b ∷ ts)) → T (lines_ok (b ∷ ts) (l ∷ ls) zs) → Fits (suc m) (lines_text (b ∷ ts) (k ∷ ks) (l ∷ ls) zs) t K → (ltb 0 lim && begins (head_of k) t) ≡ b
      go true al o h =
          let g : T (begins (head_of k) t) = group_begins k l.pieces (take c zs) (and_l (listed k l.pieces) _ ql) (and_l (fit_nums l.pieces (take c zs)) _ (and_l (line_ok true l (take c zs)) _ o)) (and_r (listed k l.pieces) _ ql)
          m t (λ j x. Fits j (lines_text ts ks ls (drop c zs)) x K) (fits_split (suc m) (numbers_text k (take c zs)) _ t K (numbers_whole k (take c zs)) h) in
          rw (holds (ltb 0 lim) (and_l (ltb 0 lim) _ al), holds (begins (head_of k) t) g) refl
      go false al o h =
          neither (ltb 0 lim) (begins (head_of k) t) (starts_apart (head_of k) (heads_of ks ++ hs) t (and_l (apart_all (head_of k) (heads_of ks ++ hs)) _ far)
          (lines_begin ts ks ls (drop c zs) (and_r (listed k l.pieces && ltb 0 c) _ q) (and_r (line_ok false l (take c zs)) _ o) hs K after m t h))

-- what is printed of the guess, where it is b that the next subfield is there
abbrev Next : ℕ → Bool → List Key → List (List Key) → Line → List Line → ℕ → List ℕ → (ℕ → List ℕ → Type 0) → Type 0
Next lim b k ks l ls n t K =
    Fits n (lines_text (b ∷ open_in (lim - 1) ks (pick b (behind_keys k t) t)) (k ∷ ks) (l ∷ ls) (taken_lines (b ∷ open_in (lim - 1) ks (pick b (behind_keys k t) t)) (k ∷ ks) (l ∷ ls) t)) t K

-- and what is known where all of it agrees
abbrev Found : ℕ → Bool → List Bool → List Key → List (List Key) → Line → List Line → List ℤ → List ℕ → (ℕ → List ℕ → Type 0) → (ℕ → List ℕ → Type 0) → Type 0
Found lim b us k ks l ls zs t K K' =
    b ∷ open_in (lim - 1) ks (pick b (behind_keys k t) t) ≡ us → taken_lines (b ∷ open_in (lim - 1) ks (pick b (behind_keys k t) t)) (k ∷ ks) (l ∷ ls) t ≡ zs
    → (m : ℕ) → K (suc m) (left_lines (b ∷ open_in (lim - 1) ks (pick b (behind_keys k t) t)) (k ∷ ks) t) → K' (suc m) (left_lines (b ∷ open_in (lim - 1) ks (pick b (behind_keys k t) t)) (k ∷ ks) t)

pub keep_groups : (lim : ℕ) (ts : List Bool) (ks : List (List Key)) (ls : List Line) (zs : List ℤ) → T (listed_lines ks ls) → T (lines_ok ts ls zs) → length ts ≡ length ls → T (allowed lim ts)
    → (hs : List (List ℕ)) → T (heads_apart ks hs) → (n : ℕ) (t : List ℕ) (K K' : ℕ → List ℕ → Type 0) → Begins hs K → Fits n (lines_text ts ks ls zs) t K
    → (open_in lim ks t ≡ ts → taken_lines (open_in lim ks t) ks ls t ≡ zs → (m : ℕ) → K (suc m) (left_lines (open_in lim ks t) ks t) → K' (suc m) (left_lines (open_in lim ks t) ks t))
    → Fits n (lines_text (open_in lim ks t) ks ls (taken_lines (open_in lim ks t) ks ls t)) t K'
unfolding listed_lines lines_ok line_ok allowed heads_apart open_in taken_lines left_lines lines_text
keep_groups lim [] [] [] [] q o len al hs far n t K K' b h c = fits_nil n t K K' h (c refl refl)
keep_groups lim [] [] [] (z ∷ zs) q o len al hs far n t K K' b h c = absurd o
keep_groups lim (x ∷ ts) [] [] zs q o len al hs far n t K K' b h c = absurd (omega arith)
keep_groups lim ts [] (l ∷ ls) zs q o len al hs far n t K K' b h c = absurd q
keep_groups lim ts (k ∷ ks) [] zs q o len al hs far n t K K' b h c = absurd q
keep_groups lim [] (k ∷ ks) (l ∷ ls) zs q o len al hs far n t K K' b h c = absurd o
keep_groups lim (true ∷ ts) (k ∷ ks) (l ∷ ls) zs q o len al hs far n t K K' b h c =
    by_lines n _ t K' λ j en.
    let m : ℕ = count l.pieces in
    let e : (ltb 0 lim && begins (head_of k) t) ≡ true = opened lim true ts k ks l ls zs q o al hs far t K b j (subst (λ i. Fits i (lines_text (true ∷ ts) (k ∷ ks) (l ∷ ls) zs) t K) en h) in
    let d : Found lim true (true ∷ ts) k ks l ls zs t K K' = subst (λ x. Found lim x (true ∷ ts) k ks l ls zs t K K') e c in
    let qk : T (listed k l.pieces) = and_l (listed k l.pieces) _ (and_l (listed k l.pieces && ltb 0 m) _ q) in
    let t2 : List ℕ = behind_keys k t in
    let us : List Bool = open_in (lim - 1) ks t2 in
    subst (λ x. Next lim x k ks l ls n t K') (sym e)
    (subst (λ x. Fits n x t K') (sym (lines_more true us k ks l ls (numbers_in k l.pieces t) (taken_lines us ks ls t2) (taken_length k l t qk)))
    (keep_line k l (take m zs) qk (and_l (line_ok true l (take m zs)) _ o) (lines_text ts ks ls (drop m zs)) (lines_text us ks ls (taken_lines us ks ls t2)) n t K K' h
    (λ e1 i g. keep_groups (lim - 1) ts ks ls (drop m zs) (and_r (listed k l.pieces && ltb 0 m) _ q) (and_r (line_ok true l (take m zs)) _ o) (omega arith) (and_r (ltb 0 lim) _ al) hs
    (and_r (apart_all (head_of k) (heads_of ks ++ hs)) _ far) (suc i) t2 K K' b g (λ es ez. d (ap (true ∷◌) es) (ap₂ ◌++◌ e1 ez ∙ take-append-drop m zs)))))
keep_groups lim (false ∷ ts) (k ∷ ks) (l ∷ ls) zs q o len al hs far n t K K' b h c =
    by_lines n _ t K' λ j en.
    let m : ℕ = count l.pieces in
    let e : (ltb 0 lim && begins (head_of k) t) ≡ false = opened lim false ts k ks l ls zs q o al hs far t K b j (subst (λ i. Fits i (lines_text (false ∷ ts) (k ∷ ks) (l ∷ ls) zs) t K) en h) in
    let d : Found lim false (false ∷ ts) k ks l ls zs t K K' = subst (λ x. Found lim x (false ∷ ts) k ks l ls zs t K K') e c in
    let e1 : replicate m (pos 0) ≡ take m zs = sym (zeros_are m (take m zs) (and_l (line_ok false l (take m zs)) _ o)) in
    let us : List Bool = open_in (lim - 1) ks t in
    subst (λ x. Next lim x k ks l ls n t K') (sym e)
    (subst (λ x. Fits n x t K') (sym (lines_more false us k ks l ls (replicate m (pos 0)) (taken_lines us ks ls t) (length-replicate m (pos 0))))
    (keep_groups (lim - 1) ts ks ls (drop m zs) (and_r (listed k l.pieces && ltb 0 m) _ q) (and_r (line_ok false l (take m zs)) _ o) (omega arith) al hs
    (and_r (apart_all (head_of k) (heads_of ks ++ hs)) _ far) n t K K' b h (λ es ez. d (ap (false ∷◌) es) (ap₂ ◌++◌ e1 ez ∙ take-append-drop m zs))))

-- only those are taken that may be there, and each is decided
pub open_allowed : (lim : ℕ) (ks : List (List Key)) (t : List ℕ) → T (allowed lim (open_in lim ks t))
unfolding allowed open_in
open_allowed lim [] t = tt
open_allowed lim (k ∷ ks) t = go (ltb 0 lim) refl (begins (head_of k) t) (open_allowed (lim - 1) ks (behind_keys k t)) (open_allowed (lim - 1) ks t)
  where
    go : (x : Bool) → ltb 0 lim ≡ x → (y : Bool) → T (allowed (lim - 1) (open_in (lim - 1) ks (behind_keys k t))) → T (allowed (lim - 1) (open_in (lim - 1) ks t))
        → T (allowed lim ((x && y) ∷ open_in (lim - 1) ks (pick (x && y) (behind_keys k t) t)))
    go true e true a b = and_in (ltb 0 lim) _ (subst T (sym e) tt) a
    go true e false a b = b
    go false e y a b = b

pub open_length : (lim : ℕ) (ks : List (List Key)) (t : List ℕ) → length (open_in lim ks t) ≡ length ks
unfolding open_in
open_length lim [] t = refl
open_length lim (k ∷ ks) t = ap suc (open_length (lim - 1) ks _)

pub listed_length : (ks : List (List Key)) (ls : List Line) → T (listed_lines ks ls) → length ks ≡ length ls
unfolding listed_lines
listed_length [] [] q = refl
listed_length [] (l ∷ ls) q = absurd q
listed_length (k ∷ ks) [] q = absurd q
listed_length (k ∷ ks) (l ∷ ls) q = ap suc (listed_length ks ls (and_r (listed k l.pieces && ltb 0 (count l.pieces)) _ q))
