-- How far a printed text agrees with another. Every law about agreement is in continuation form: what is to hold behind a printed text, K, is a
-- parameter of Fits, so that texts behind each other are Fits within Fits, and no case is split on how many lines there are.
use Rattle.std.specs.Prelude.{◌≡◌, Bool, not, ◌&&◌, ℕ, zero, suc, ◌+◌, ◌<◌, eqb}
use Rattle.std.proofs.Math.Path.{refl, ap}
use Rattle.std.proofs.Common.{sym, ◌∙◌, subst, arith}
use Rattle.std.proofs.Math.Bool.{true, false}
use mathlib.Core.List.{List, [], ◌∷◌, ◌++◌}
use Rattle.std.proofs.Math.Dec.{T}
use Rattle.codec.specs.Pick.{pick}
use Rattle.codec.proofs.Laws.Tests.{and_in, and_l, and_r, holds}
use Rattle.guess.specs.Lines.{before_octet, behind_octet, until_feed, behind_feed, behind_feeds}

-- ---- whether a text has a line feed, and how many

unfoldable pub has_feed : List ℕ → Bool
has_feed [] = false
has_feed (o ∷ t) = pick (eqb o 10) true (has_feed t)

unfoldable pub feeds : List ℕ → ℕ
feeds [] = 0
feeds (o ∷ t) = pick (eqb o 10) (suc (feeds t)) (feeds t)

-- an octet that does not stand in a word
unfoldable pub without : ℕ → List ℕ → Bool
without x [] = true
without x (o ∷ w) = not (eqb o x) && without x w

pub without-append : (x : ℕ) (v w : List ℕ) → T (without x v) → T (without x w) → T (without x (v ++ w))
unfolding without
without-append x [] w a b = b
without-append x (o ∷ v) w a b = and_in (not (eqb o x)) _ (and_l (not (eqb o x)) _ a) (without-append x v w (and_r (not (eqb o x)) _ a) b)

-- ---- nothing, or lines each with its line feed

unfoldable pub ends : ℕ → List ℕ → Bool
ends o [] = eqb o 10
ends o (x ∷ s) = ends x s

unfoldable pub whole : List ℕ → Bool
unfolding ends
whole [] = true
whole (o ∷ s) = ends o s

ends_append : (o : ℕ) (s r : List ℕ) → T (ends o s) → T (whole r) → T (ends o (s ++ r))
unfolding ends whole
ends_append o [] [] h k = h
ends_append o [] (x ∷ r) h k = k
ends_append o (x ∷ s) r h k = ends_append x s r h k

pub whole_append : (s r : List ℕ) → T (whole s) → T (whole r) → T (whole (s ++ r))
unfolding whole
whole_append [] r h k = k
whole_append (o ∷ s) r h k = ends_append o s r h k

ends_feed : (o : ℕ) (s : List ℕ) → T (ends o (s ++ (10 ∷ [])))
unfolding ends
ends_feed o [] = tt
ends_feed o (x ∷ s) = ends_feed x s

pub whole_feed : (s : List ℕ) → T (whole (s ++ (10 ∷ [])))
unfolding whole ends
whole_feed [] = tt
whole_feed (o ∷ s) = ends_feed o s

pub whole_pick : (b : Bool) (s : List ℕ) → T (whole s) → T (whole (pick b s []))
unfolding whole
whole_pick true s h = h
whole_pick false s h = tt

-- lines that are not nothing have a first one, and lines behind it
record Opened (s : List ℕ) : Type 0 where
  first : T (has_feed s)
  others : T (whole (behind_feed s))

opened : (o : ℕ) (s : List ℕ) → T (ends o s) → Opened (o ∷ s)
unfolding ends whole has_feed behind_octet
opened o [] h = let e : eqb o 10 ≡ true = holds (eqb o 10) h in record { first = rw e tt; others = rw e tt }
opened o (x ∷ s) h = go (eqb o 10) refl (opened x s h)
  where
    go : (b : Bool) → eqb o 10 ≡ b → Opened (x ∷ s) → Opened (o ∷ x ∷ s)
    go true e f = record { first = rw e tt; others = rw e h }
    go false e f = record { first = rw e f.first; others = rw e f.others }

-- ---- of lines with something behind them

module _ (r : List ℕ) where
  pub has_append : (s : List ℕ) → T (has_feed s) → T (has_feed (s ++ r))
  unfolding has_feed
  has_append [] h = absurd h
  has_append (o ∷ s) h = go (eqb o 10) h (has_append s)
    where
      go : (b : Bool) → T (pick b true (has_feed s)) → (T (has_feed s) → T (has_feed (s ++ r))) → T (pick b true (has_feed (s ++ r)))
      go true h k = tt
      go false h k = k h

  pub until_append : (s : List ℕ) → T (has_feed s) → until_feed (s ++ r) ≡ until_feed s
  unfolding has_feed before_octet
  until_append [] h = absurd h
  until_append (o ∷ s) h = go (eqb o 10) h (until_append s)
    where
      go : (b : Bool) → T (pick b true (has_feed s)) → (T (has_feed s) → until_feed (s ++ r) ≡ until_feed s) → pick b [] (o ∷ until_feed (s ++ r)) ≡ pick b [] (o ∷ until_feed s)
      go true h k = refl
      go false h k = ap (o ∷◌) (k h)

  pub behind_append : (s : List ℕ) → T (has_feed s) → behind_feed (s ++ r) ≡ behind_feed s ++ r
  unfolding has_feed behind_octet
  behind_append [] h = absurd h
  behind_append (o ∷ s) h = go (eqb o 10) h (behind_append s)
    where
      go : (b : Bool) → T (pick b true (has_feed s)) → (T (has_feed s) → behind_feed (s ++ r) ≡ behind_feed s ++ r) → pick b (s ++ r) (behind_feed (s ++ r)) ≡ pick b s (behind_feed s) ++ r
      go true h k = refl
      go false h k = k h

feeds_behind : (s : List ℕ) → T (has_feed s) → feeds s ≡ suc (feeds (behind_feed s))
unfolding has_feed behind_octet feeds
feeds_behind [] h = absurd h
feeds_behind (o ∷ s) h = go (eqb o 10) h (feeds_behind s)
  where
    go : (b : Bool) → T (pick b true (has_feed s)) → (T (has_feed s) → feeds s ≡ suc (feeds (behind_feed s))) → pick b (suc (feeds s)) (feeds s) ≡ suc (feeds (pick b s (behind_feed s)))
    go true h k = refl
    go false h k = k h

pub feeds-append : (s r : List ℕ) → feeds (s ++ r) ≡ feeds s + feeds r
unfolding feeds
feeds-append [] r = omega arith
feeds-append (o ∷ s) r = go (eqb o 10) (feeds-append s r)
  where
    go : (b : Bool) → feeds (s ++ r) ≡ feeds s + feeds r → pick b (suc (feeds (s ++ r))) (feeds (s ++ r)) ≡ pick b (suc (feeds s)) (feeds s) + feeds r
    go true e = omega arith
    go false e = e

-- ---- the first n lines of s are whole and are those of t; where s ends before, K holds of the lines that are left to agree and of what is left of t

unfoldable pub Fits : ℕ → List ℕ → List ℕ → (ℕ → List ℕ → Type 0) → Type 0
Fits zero s t K = Unit {0}
Fits (suc n) [] t K = K (suc n) t
Fits (suc n) (o ∷ s) t K = (until_feed (o ∷ s) ≡ until_feed t) × T (has_feed (o ∷ s)) × T (has_feed t) × Fits n (behind_feed (o ∷ s)) (behind_feed t) K

-- nothing agrees for no line
pub fits_none : (s t : List ℕ) (K : ℕ → List ℕ → Type 0) → Fits 0 s t K
unfolding Fits
fits_none s t K = tt

-- so one may take it that there is a line to agree
pub by_lines : (n : ℕ) (s t : List ℕ) (K : ℕ → List ℕ → Type 0) → ((m : ℕ) → n ≡ suc m → Fits n s t K) → Fits n s t K
unfolding Fits
by_lines zero s t K f = tt
by_lines (suc m) s t K f = f m refl

-- behind no lines
pub fits_nil : (n : ℕ) (t : List ℕ) (K K' : ℕ → List ℕ → Type 0) → Fits n [] t K → ((m : ℕ) → K (suc m) t → K' (suc m) t) → Fits n [] t K'
unfolding Fits
fits_nil zero t K K' h c = tt
fits_nil (suc n) t K K' h c = c n h

module _ (n : ℕ) (s t : List ℕ) (K : ℕ → List ℕ → Type 0) where
  pub fits_open : T (has_feed s) → Fits (suc n) s t K → (until_feed s ≡ until_feed t) × T (has_feed t) × Fits n (behind_feed s) (behind_feed t) K
  unfolding Fits has_feed
  fits_open f h = go s f h
    where
      go : (s : List ℕ) → T (has_feed s) → Fits (suc n) s t K → (until_feed s ≡ until_feed t) × T (has_feed t) × Fits n (behind_feed s) (behind_feed t) K
      go [] f h = absurd f
      go (o ∷ s) f h = (h.0, h.2, h.3)

  pub fits_close : T (has_feed s) → until_feed s ≡ until_feed t → T (has_feed t) → Fits n (behind_feed s) (behind_feed t) K → Fits (suc n) s t K
  unfolding Fits has_feed
  fits_close f e w h = go s f e h
    where
      go : (s : List ℕ) → T (has_feed s) → until_feed s ≡ until_feed t → Fits n (behind_feed s) (behind_feed t) K → Fits (suc n) s t K
      go [] f e h = absurd f
      go (o ∷ s) f e h = (e, f, w, h)

-- ---- one text behind another

pub fits_split : (n : ℕ) (s r t : List ℕ) (K : ℕ → List ℕ → Type 0) → T (whole s) → Fits n (s ++ r) t K → Fits n s t (λ m x. Fits m r x K)
unfolding Fits whole
fits_split zero s r t K w h = tt
fits_split (suc n) [] r t K w h = h
fits_split (suc n) (o ∷ s) r t K w h =
    let f = opened o s w in
    let g = fits_open n (o ∷ (s ++ r)) t K (has_append r (o ∷ s) f.first) h in (
      sym (until_append r (o ∷ s) f.first) ∙ g.0,
      f.first,
      g.1,
      fits_split n (behind_feed (o ∷ s)) r (behind_feed t) K f.others (subst (λ x. Fits n x (behind_feed t) K) (behind_append r (o ∷ s) f.first) g.2),
    )

pub fits_join : (n : ℕ) (s r t : List ℕ) (K : ℕ → List ℕ → Type 0) → T (whole s) → Fits n s t (λ m x. Fits m r x K) → Fits n (s ++ r) t K
unfolding Fits whole
fits_join zero s r t K w h = tt
fits_join (suc n) [] r t K w h = h
fits_join (suc n) (o ∷ s) r t K w h =
    let f = opened o s w in
    fits_close n (o ∷ (s ++ r)) t K (has_append r (o ∷ s) f.first) (until_append r (o ∷ s) f.first ∙ h.0) h.2
    (subst (λ x. Fits n x (behind_feed t) K) (sym (behind_append r (o ∷ s) f.first)) (fits_join n (behind_feed (o ∷ s)) r (behind_feed t) K f.others h.3))

-- what holds behind it may be exchanged
pub fits_then : (n : ℕ) (s t : List ℕ) (K K' : ℕ → List ℕ → Type 0) → T (whole s) → Fits n s t K
    → ((m : ℕ) → K (suc m) (behind_feeds (feeds s) t) → K' (suc m) (behind_feeds (feeds s) t)) → Fits n s t K'
unfolding Fits whole feeds behind_feeds
fits_then zero s t K K' w h c = tt
fits_then (suc n) [] t K K' w h c = c n h
fits_then (suc n) (o ∷ s) t K K' w h c =
    let f = opened o s w in
    let e : feeds (o ∷ s) ≡ suc (feeds (behind_feed (o ∷ s))) = feeds_behind (o ∷ s) f.first in (
      h.0,
      h.1,
      h.2,
      fits_then n (behind_feed (o ∷ s)) (behind_feed t) K K' f.others h.3
          (subst (λ j. (m : ℕ) → K (suc m) (behind_feeds j t) → K' (suc m) (behind_feeds j t)) e c),
    )

-- ---- a text agrees with itself as long as one likes, and then what is behind it is left

pub fits_self : (n : ℕ) (s r : List ℕ) → T (whole s) → Fits n s (s ++ r) (λ m x. x ≡ r)
unfolding Fits whole
fits_self zero s r w = tt
fits_self (suc n) [] r w = refl
fits_self (suc n) (o ∷ s) r w =
    let f = opened o s w in (
      sym (until_append r (o ∷ s) f.first),
      f.first,
      has_append r (o ∷ s) f.first,
      subst (λ x. Fits n (behind_feed (o ∷ s)) x (λ m y. y ≡ r)) (sym (behind_append r (o ∷ s) f.first)) (fits_self n (behind_feed (o ∷ s)) r f.others),
    )

-- more lines than there are come to the end
pub fits-end {ℓ} : {X : Type ℓ} (n : ℕ) (s t : List ℕ) (K : ℕ → List ℕ → Type 0) → T (whole s) → feeds s < n → Fits n s t K → ((m : ℕ) (x : List ℕ) → K (suc m) x → X) → X
unfolding Fits whole feeds
fits-end zero s t K w h f k = absurd (omega arith)
fits-end (suc n) [] t K w h f k = k n t f
fits-end (suc n) (o ∷ s) t K w h f k =
    let g = opened o s w in
    fits-end n (behind_feed (o ∷ s)) (behind_feed t) K g.others (omega (arith, h, feeds_behind (o ∷ s) g.first)) f.3 k
