-- The first wrong line: how many lines two texts share, and what the comparison of their octets answers.
use Rattle.std.specs.Prelude.{◌≡◌, refl, Bool, true, false, ◌&&◌, List, [], ◌∷◌, ◌++◌, ℕ, zero, suc, ◌+◌, ◌≤◌, T, eqb, leb}
use Rattle.std.proofs.Common.{sym, ap, ap₂, ◌∙◌, subst, arith, eq-eqb, eqb-true, le-leb, eqb→eq}
use Rattle.std.proofs.lemmas.Bool.{lt-leb}
use Rattle.codec.specs.Pick.{pick}
use Rattle.codec.proofs.Laws.Tests.{and_in, and_l, and_r}
use Rattle.guess.specs.Lines.{before_octet, behind_octet, until_feed, behind_feed}
use Rattle.guess.proofs.Laws.Fits.{has_feed, feeds, has_append, until_append, behind_append, Fits, fits_close}
use Rattle.guess.specs.Guess.{first_wrong}
use Rattle.scope.specs.Rebuilding.{are_lines, Shared}

-- ---- octet by octet: the first k lines of both are whole and the same

unfoldable pub through : ℕ → List ℕ → List ℕ → Bool
through zero s t = true
through (suc k) [] t = false
through (suc k) (x ∷ s) [] = false
through (suc k) (x ∷ s) (y ∷ t) = eqb x y && pick (eqb x 10) (through k s t) (through (suc k) s t)

pub through_shared : (s t : List ℕ) (k : ℕ) → T (through k s t) → Shared k s t
unfolding through are_lines
through_shared s t zero h = record { front = []; lines_are = tt; rest = s; behind = t; one_is = refl; other_is = refl }
through_shared [] t (suc k) h = absurd h
through_shared (x ∷ s) [] (suc k) h = absurd h
through_shared (x ∷ s) (y ∷ t) (suc k) h =
    go (eqb x 10) refl (and_r (eqb x y) _ h) (through_shared s t k) (through_shared s t (suc k))
  where
    e : x ≡ y
    e = eqb→eq x y (and_l (eqb x y) _ h)

    go : (b : Bool) → eqb x 10 ≡ b → T (pick b (through k s t) (through (suc k) s t)) → (T (through k s t) → Shared k s t) → (T (through (suc k) s t) → Shared (suc k) s t) → Shared (suc k) (x ∷ s) (y ∷ t)
    go true f u a b = let r = a u in record { front = x ∷ r.front; lines_are = rw f r.lines_are; rest = r.rest; behind = r.behind; one_is = ap (x ∷◌) r.one_is; other_is = ap₂ ◌∷◌ (sym e) r.other_is }
    go false f u a b = let r = b u in record { front = x ∷ r.front; lines_are = rw f r.lines_are; rest = r.rest; behind = r.behind; one_is = ap (x ∷◌) r.one_is; other_is = ap₂ ◌∷◌ (sym e) r.other_is }

-- ---- the same, line by line

abbrev pub Same : ℕ → List ℕ → List ℕ → Type 0
Same k s t = Fits k s t (λ m x. ⊥)

lines_open : (p : List ℕ) (k : ℕ) → T (are_lines (suc k) p) → T (has_feed p) × T (are_lines k (behind_feed p))
unfolding are_lines has_feed behind_octet
lines_open [] k h = absurd h
lines_open (o ∷ p) k h = go (eqb o 10) h (lines_open p k)
  where
    go : (b : Bool) → T (pick b (are_lines k p) (are_lines (suc k) p)) → (T (are_lines (suc k) p) → T (has_feed p) × T (are_lines k (behind_feed p)))
        → T (pick b true (has_feed p)) × T (are_lines k (pick b p (behind_feed p)))
    go true h f = (tt, h)
    go false h f = f h

front_same : (k : ℕ) (p a b : List ℕ) → T (are_lines k p) → Same k (p ++ a) (p ++ b)
unfolding Fits
front_same zero p a b h = tt
front_same (suc k) p a b h =
    let o = lines_open p k h in
    fits_close k (p ++ a) (p ++ b) (λ m x. ⊥) (has_append a p o.0) (until_append a p o.0 ∙ sym (until_append b p o.0)) (has_append b p o.0)
    (subst (λ x. Same k x (behind_feed (p ++ b))) (sym (behind_append a p o.0)) (subst (Same k (behind_feed p ++ a)) (sym (behind_append b p o.0)) (front_same k (behind_feed p) a b o.1)))

pub shared_same : (k : ℕ) (s t : List ℕ) → Shared k s t → Same k s t
shared_same k s t h =
    subst (λ x. Same k x t) (sym h.one_is) (subst (Same k (h.front ++ h.rest)) (sym h.other_is) (front_same k h.front h.rest h.behind h.lines_are))

-- a text that has a line feed is its first line, the feed, and what follows
split_feed : (s : List ℕ) → T (has_feed s) → s ≡ until_feed s ++ (10 ∷ behind_feed s)
unfolding has_feed before_octet behind_octet
split_feed [] h = absurd h
split_feed (o ∷ s) h = go (eqb o 10) refl h (split_feed s)
  where
    go : (b : Bool) → eqb o 10 ≡ b → T (pick b true (has_feed s)) → (T (has_feed s) → s ≡ until_feed s ++ (10 ∷ behind_feed s)) → o ∷ s ≡ pick b [] (o ∷ until_feed s) ++ (10 ∷ pick b s (behind_feed s))
    go true e h k = ap (◌∷ s) (eqb-true o 10 e)
    go false e h k = ap (o ∷◌) (k h)

until_through : (s a b : List ℕ) (k : ℕ) → T (through k a b) → T (through (suc k) (until_feed s ++ (10 ∷ a)) (until_feed s ++ (10 ∷ b)))
unfolding before_octet through
until_through [] a b k h = h
until_through (o ∷ s) a b k h = go (eqb o 10) refl (until_through s a b k h)
  where
    go : (c : Bool) → eqb o 10 ≡ c → T (through (suc k) (until_feed s ++ (10 ∷ a)) (until_feed s ++ (10 ∷ b)))
        → T (through (suc k) (pick c [] (o ∷ until_feed s) ++ (10 ∷ a)) (pick c [] (o ∷ until_feed s) ++ (10 ∷ b)))
    go true e f = h
    go false e f = and_in (eqb o o) _ (subst T (sym (eq-eqb o o refl)) tt) (rw e f)

pub same_through : (k : ℕ) (s t : List ℕ) → Same k s t → T (through k s t)
unfolding Fits through
same_through zero s t h = tt
same_through (suc k) [] t h = absurd h
same_through (suc k) (o ∷ s) t h =
    subst (λ x. T (through (suc k) x t)) (sym (split_feed (o ∷ s) h.1))
    (subst (λ y. T (through (suc k) (until_feed (o ∷ s) ++ (10 ∷ behind_feed (o ∷ s))) y)) (ap (◌++ (10 ∷ behind_feed t)) h.0 ∙ sym (split_feed t h.2))
    (until_through (o ∷ s) (behind_feed (o ∷ s)) (behind_feed t) k (same_through k (behind_feed (o ∷ s)) (behind_feed t) h.3)))

-- ---- the comparison

-- no wrong line: they are the same
pub wrong_none : (s t : List ℕ) (j : ℕ) → 1 ≤ j → first_wrong j s t ≡ 0 → s ≡ t
unfolding first_wrong
wrong_none [] [] j h e = refl
wrong_none [] (y ∷ t) j h e = absurd (omega arith)
wrong_none (x ∷ s) [] j h e = absurd (omega arith)
wrong_none (x ∷ s) (y ∷ t) j h e = go (eqb x y) refl (eqb x 10) e (wrong_none s t (suc j) (omega arith)) (wrong_none s t j h)
  where
    go : (b : Bool) → eqb x y ≡ b → (c : Bool) → pick b (first_wrong (pick c (suc j) j) s t) j ≡ 0 → (first_wrong (suc j) s t ≡ 0 → s ≡ t) → (first_wrong j s t ≡ 0 → s ≡ t) → x ∷ s ≡ y ∷ t
    go true f true e a b = ap₂ ◌∷◌ (eqb-true x y f) (a e)
    go true f false e a b = ap₂ ◌∷◌ (eqb-true x y f) (b e)
    go false f c e a b = absurd (omega arith)

-- what is put behind a text is wrong from its line on
pub wrong_behind : (s : List ℕ) (o : ℕ) (r : List ℕ) (j : ℕ) → first_wrong j s (s ++ (o ∷ r)) ≡ j + feeds s
unfolding first_wrong feeds
wrong_behind [] o r j = omega arith
wrong_behind (x ∷ s) o r j = rw (eq-eqb x x refl) (go (eqb x 10) (wrong_behind s o r (suc j)) (wrong_behind s o r j))
  where
    go : (b : Bool) → first_wrong (suc j) s (s ++ (o ∷ r)) ≡ suc j + feeds s → first_wrong j s (s ++ (o ∷ r)) ≡ j + feeds s → first_wrong (pick b (suc j) j) s (s ++ (o ∷ r)) ≡ j + pick b (suc (feeds s)) (feeds s)
    go true a b = a ∙ omega arith
    go false a b = b

pub wrong_self : (s : List ℕ) (j : ℕ) → first_wrong j s s ≡ 0
unfolding first_wrong
wrong_self [] j = refl
wrong_self (x ∷ s) j = rw (eq-eqb x x refl) (wrong_self s _)

-- a wrong line is none before the first, and as many lines are shared as come before it
wrong_from_lem : (s t : List ℕ) (j : ℕ) → (first_wrong j s t ≡ 0 → ⊥) → j ≤ first_wrong j s t
unfolding first_wrong
wrong_from_lem [] [] j n = absurd (n refl)
wrong_from_lem [] (y ∷ t) j n = omega arith
wrong_from_lem (x ∷ s) [] j n = omega arith
wrong_from_lem (x ∷ s) (y ∷ t) j n = go (eqb x y) (eqb x 10) n (wrong_from_lem s t (suc j)) (wrong_from_lem s t j)
  where
    go : (b c : Bool) → (pick b (first_wrong (pick c (suc j) j) s t) j ≡ 0 → ⊥) → ((first_wrong (suc j) s t ≡ 0 → ⊥) → suc j ≤ first_wrong (suc j) s t) → ((first_wrong j s t ≡ 0 → ⊥) → j ≤ first_wrong j s t)
        → j ≤ pick b (first_wrong (pick c (suc j) j) s t) j
    go true true n f g = omega (arith, f n)
    go true false n f g = g n
    go false c n f g = omega arith

pub wrong_through : (s t : List ℕ) (j k : ℕ) → (first_wrong j s t ≡ 0 → ⊥) → through k s t ≡ leb (j + k) (first_wrong j s t)
unfolding through first_wrong
wrong_through s t j zero n = sym (le-leb (j + 0) (first_wrong j s t) (omega (arith, wrong_from_lem s t j n)))
wrong_through [] [] j (suc k) n = absurd (n refl)
wrong_through [] (y ∷ t) j (suc k) n = sym (lt-leb (j + suc k) j (omega arith))
wrong_through (x ∷ s) [] j (suc k) n = sym (lt-leb (j + suc k) j (omega arith))
wrong_through (x ∷ s) (y ∷ t) j (suc k) n = go (eqb x y) (eqb x 10) n (wrong_through s t (suc j) k) (wrong_through s t j (suc k))
  where
    go : (b c : Bool) → (pick b (first_wrong (pick c (suc j) j) s t) j ≡ 0 → ⊥) → ((first_wrong (suc j) s t ≡ 0 → ⊥) → through k s t ≡ leb (suc j + k) (first_wrong (suc j) s t))
        → ((first_wrong j s t ≡ 0 → ⊥) → through (suc k) s t ≡ leb (j + suc k) (first_wrong j s t))
        → b && pick c (through k s t) (through (suc k) s t) ≡ leb (j + suc k) (pick b (first_wrong (pick c (suc j) j) s t) j)
    go true true n f g = let e : suc j + k ≡ j + suc k = omega arith in f n ∙ ap (λ i. leb i (first_wrong (suc j) s t)) e
    go true false n f g = g n
    go false c n f g = sym (lt-leb (j + suc k) j (omega arith))

-- ---- lines of a text

-- k lines have k line feeds
pub lines_feeds : (p : List ℕ) (k : ℕ) → T (are_lines k p) → feeds p ≡ k
unfolding are_lines feeds
lines_feeds [] zero h = refl
lines_feeds [] (suc k) h = absurd h
lines_feeds (o ∷ p) zero h = absurd h
lines_feeds (o ∷ p) (suc k) h = go (eqb o 10) h (lines_feeds p k) (lines_feeds p (suc k))
  where
    go : (b : Bool) → T (pick b (are_lines k p) (are_lines (suc k) p)) → (T (are_lines k p) → feeds p ≡ k) → (T (are_lines (suc k) p) → feeds p ≡ suc k) → pick b (suc (feeds p)) (feeds p) ≡ suc k
    go true h f g = ap suc (f h)
    go false h f g = g h

-- a text shares all its whole lines with every text of which it is the front
pub front_shared : (t x : List ℕ) → T (through (feeds t) (t ++ x) t)
unfolding feeds through
front_shared [] x = tt
front_shared (o ∷ t) x = go (eqb o 10) refl (front_shared t x)
  where
    go : (b : Bool) → eqb o 10 ≡ b → T (through (feeds t) (t ++ x) t) → T (through (pick b (suc (feeds t)) (feeds t)) (o ∷ (t ++ x)) (o ∷ t))
    go true e h = and_in (eqb o o) _ (subst T (sym (eq-eqb o o refl)) tt) (rw e h)
    go false e h = more (feeds t) h
      where
        more : (k : ℕ) → T (through k (t ++ x) t) → T (through k (o ∷ (t ++ x)) (o ∷ t))
        more zero h = tt
        more (suc k) h = and_in (eqb o o) _ (subst T (sym (eq-eqb o o refl)) tt) (rw e h)
