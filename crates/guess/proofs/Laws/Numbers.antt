-- A line, a number with the lines derived from it, and the numbers of a chain part or a subfield: what is taken agrees as long as what was printed does, and where all of
-- it agrees they are the same.
use Rattle.std.specs.Prelude.{◌≡◌, Bool, true, false, not, ◌&&◌, ℕ, zero, suc, ◌+◌, ◌^◌, ◌≤◌, ◌<◌, T, eqb, leb, ltb, ℤ, pos, negsuc, ◌+ℤ◌}
use Rattle.std.proofs.Math.Path.{refl, ap}
use Rattle.std.proofs.Common.{sym, ap₂, ◌∙◌, subst, arith, eq-eqb, ne_eqb, le-leb, ltb→lt, leb→le, pow_mono}
use mathlib.Core.List.{List, [], ◌∷◌, ◌++◌, append_assoc}
use Rattle.std.proofs.lemmas.Bool.{not-true}
use Rattle.codec.specs.Pick.{pick}
use Rattle.codec.specs.Line.{Kind, Piece, spare, num, in_num, limit, plain, signed, limited, fit_nums, in_limits, count}
use Rattle.codec.specs.Signed.{in_signed}
use Rattle.text.specs.Decimals.{is_digit}
use Rattle.text.specs.Laws.Decimals.{are_digits, all_digits}
use Rattle.codec.proofs.Laws.Tests.{and_in, and_l, and_r, holds}
use Rattle.papers.specs.Names.{text, Key, hidden, shown, angle, pressure}
use Rattle.scope.specs.Angle.{udeg_of, left_of}
use Rattle.scope.specs.Sheet.{key_line, digits_of, decimal, signed_decimal, number_text, numbers_text}
use Rattle.scope.specs.Pressure.{sense_of}
use Rattle.words.specs.Numbers.{signed_in, number_in}
use Rattle.words.specs.Laws.Numbers.{signed_value_lem}
use Rattle.words.specs.Laws.Written.{Signed32, signed_is_number, signed_taken, written_taken}
use Rattle.guess.specs.Lines.{before_octet, behind_octet, until_feed, behind_feed, behind_feeds}
use Rattle.guess.proofs.Laws.Fits.{has_feed, feeds, without, without-append, whole, whole_append, whole_feed, has_append, until_append, feeds-append, Fits, fits_none, fits_open, fits_split, fits_join, fits_then}
use Rattle.guess.specs.Guess.{value_in, fits_piece, piece_in, bounded_in, lines_for, behind_keys, numbers_in, begins, key_text, head_of}

-- ---- a line

-- of a word without the octet x, the octet behind it, and anything
other_octet : (x o : ℕ) (w : List ℕ) → T (without x (o ∷ w)) → eqb o x ≡ false
unfolding without
other_octet x o w h = not-true (eqb o x) (holds (not (eqb o x)) (and_l (not (eqb o x)) _ h))

module _ (x : ℕ) (v : List ℕ) where
  before_word : (w : List ℕ) → T (without x w) → before_octet x (w ++ (x ∷ v)) ≡ w
  unfolding before_octet without
  before_word [] h = rw (eq-eqb x x refl) refl
  before_word (o ∷ w) h = rw (other_octet x o w h) (ap (o ∷◌) (before_word w (and_r (not (eqb o x)) _ h)))

  behind_word : (w : List ℕ) → T (without x w) → behind_octet x (w ++ (x ∷ v)) ≡ v
  unfolding behind_octet without
  behind_word [] h = rw (eq-eqb x x refl) refl
  behind_word (o ∷ w) h = rw (other_octet x o w h) (behind_word w (and_r (not (eqb o x)) _ h))

has_feed_lem : (w : List ℕ) → T (has_feed (w ++ (10 ∷ [])))
unfolding has_feed
has_feed_lem [] = tt
has_feed_lem (o ∷ w) = go (eqb o 10) (has_feed_lem w)
  where
    go : (b : Bool) → T (has_feed (w ++ (10 ∷ []))) → T (pick b true (has_feed (w ++ (10 ∷ []))))
    go true h = tt
    go false h = h

no_feeds : (w : List ℕ) → T (without 10 w) → feeds w ≡ 0
unfolding feeds without
no_feeds [] h = refl
no_feeds (o ∷ w) h = rw (other_octet 10 o w h) (no_feeds w (and_r (not (eqb o 10)) _ h))

line_is : (k v : List ℕ) → key_line k v ≡ (k ++ (61 ∷ v)) ++ (10 ∷ [])
unfolding key_line
line_is k v = sym (append_assoc k (61 ∷ v) (10 ∷ []))

pub line_whole : (k v : List ℕ) → T (whole (key_line k v))
line_whole k v = subst (λ x. T (whole x)) (sym (line_is k v)) (whole_feed (k ++ (61 ∷ v)))

pub line_has : (k v : List ℕ) → T (has_feed (key_line k v))
line_has k v = subst (λ x. T (has_feed x)) (sym (line_is k v)) (has_feed_lem (k ++ (61 ∷ v)))

module _ (k v : List ℕ) (nk : T (without 10 k)) (nv : T (without 10 v)) where
  line_clean : T (without 10 (k ++ (61 ∷ v)))
  unfolding without
  line_clean = without-append 10 k (61 ∷ v) nk nv

  pub line_until : until_feed (key_line k v) ≡ k ++ (61 ∷ v)
  line_until = ap until_feed (line_is k v) ∙ before_word 10 [] (k ++ (61 ∷ v)) line_clean

  pub line_behind : behind_feed (key_line k v) ≡ []
  line_behind = ap behind_feed (line_is k v) ∙ behind_word 10 [] (k ++ (61 ∷ v)) line_clean

  pub line_feeds : feeds (key_line k v) ≡ 1
  unfolding feeds
  line_feeds = ap feeds (line_is k v) ∙ feeds-append (k ++ (61 ∷ v)) (10 ∷ []) ∙ ap (◌+ 1) (no_feeds (k ++ (61 ∷ v)) line_clean)

-- ---- its value

pub value_is : (k v t : List ℕ) → T (without 61 k) → k ++ (61 ∷ v) ≡ until_feed t → value_in t ≡ v
unfolding value_in
value_is k v t n e = ap (behind_octet 61) (sym e) ∙ behind_word 61 v k n

piece_back : (k : Kind) (w : ℕ) (t : List ℕ) (z : ℤ) → Signed32 z → T (fits_piece k w z) → value_in t ≡ signed_decimal z → piece_in k w t ≡ z
unfolding piece_in
piece_back k w t z s f e =
    let v : signed_in (value_in t) ≡ z = ap signed_in e ∙ signed_value_lem (signed_decimal z) (signed_is_number z s) ∙ signed_taken z s in
    rw (v, holds (fits_piece k w z) f) refl

pub bounded_back : (lo hi : ℕ) (t : List ℕ) (n : ℕ) → hi < 2 ^ 64 → lo ≤ n → n ≤ hi → value_in t ≡ decimal n → bounded_in lo hi t ≡ n
unfolding bounded_in
bounded_back lo hi t n h l u e =
    let v : number_in hi (value_in t) ≡ n = ap (number_in hi) e ∙ written_taken hi n u h in
    rw (v, le-leb lo n l, le-leb n hi u) refl

-- what is taken is within bounds, and a number of the piece, whatever the text
pub bounded_in_lem : (lo hi : ℕ) (t : List ℕ) → lo ≤ hi → (lo ≤ bounded_in lo hi t) × (bounded_in lo hi t ≤ hi)
unfolding bounded_in
bounded_in_lem lo hi t h = go (number_in hi (value_in t)) (leb lo (number_in hi (value_in t))) refl (leb (number_in hi (value_in t)) hi) refl
  where
    go : (v : ℕ) (a : Bool) → leb lo v ≡ a → (b : Bool) → leb v hi ≡ b → (lo ≤ pick (a && b) v lo) × (pick (a && b) v lo ≤ hi)
    go v true ea true eb = (leb→le lo v (subst T (sym ea) tt), leb→le v hi (subst T (sym eb) tt))
    go v true ea false eb = (omega arith, h)
    go v false ea b eb = (omega arith, h)

piece_in_lem : (k : Kind) (w : ℕ) (t : List ℕ) → T (fits_piece k w (pos 0)) → T (fits_piece k w (piece_in k w t))
unfolding piece_in
piece_in_lem k w t z = go (fits_piece k w (signed_in (value_in t))) refl
  where
    go : (b : Bool) → fits_piece k w (signed_in (value_in t)) ≡ b → T (fits_piece k w (pick b (signed_in (value_in t)) (pos 0)))
    go true e = subst T (sym e) tt
    go false e = z

-- ---- a decimal has no line feed

digits-clean : (os : List ℕ) → T (are_digits os) → T (without 10 os)
unfolding are_digits is_digit without
digits-clean [] h = tt
digits-clean (o ∷ os) h =
    let d : 47 < o = ltb→lt 47 o (and_l (ltb 47 o) _ (and_l (is_digit o) _ h)) in
    and_in (not (eqb o 10)) _ (subst (λ b. T (not b)) (sym (ne_eqb o 10 (λ e. omega arith))) tt) (digits-clean os (and_r (is_digit o) _ h))

pub decimal-clean : (n : ℕ) → T (without 10 (decimal n))
unfolding decimal
decimal-clean n = digits-clean (digits_of 20 n) (all_digits 20 n)

clean : (z : ℤ) → T (without 10 (signed_decimal z))
unfolding signed_decimal without
clean (pos n) = decimal-clean n
clean (negsuc n) = decimal-clean (suc n)

-- a number of a piece of at most 24 bits has 32
pub small : (k : Kind) (w : ℕ) (z : ℤ) → w ≤ 24 → T (fits_piece k w z) → Signed32 z
unfolding fits_piece in_num in_signed
small plain w (pos n) h f = let p : 2 ^ w ≤ 2 ^ 24 = pow_mono h in omega (arith, p, ltb→lt n (2 ^ w) (and_l (ltb n (2 ^ w)) _ f))
small plain w (negsuc n) h f = absurd f
small signed w (pos n) h f = let p : 2 ^ w ≤ 2 ^ 24 = pow_mono h in omega (arith, p, ltb→lt (n + n) (2 ^ w) (and_l (ltb (n + n) (2 ^ w)) _ f))
small signed w (negsuc n) h f = let p : 2 ^ w ≤ 2 ^ 24 = pow_mono h in omega (arith, p, ltb→lt (suc (n + n)) (2 ^ w) (and_l (ltb (suc (n + n)) (2 ^ w)) _ f))
small (limited lo hi) w (pos n) h f = let p : 2 ^ w ≤ 2 ^ 24 = pow_mono h in omega (arith, p, ltb→lt (n + n) (2 ^ w) (and_l (ltb (n + n) (2 ^ w)) _ f))
small (limited lo hi) w (negsuc n) h f = let p : 2 ^ w ≤ 2 ^ 24 = pow_mono h in omega (arith, p, ltb→lt (suc (n + n)) (2 ^ w) (and_l (ltb (suc (n + n)) (2 ^ w)) _ f))

-- ---- the lines of a number

-- a key that has a line, and no line feed and no `=` in it
unfoldable pub listed_key : Key → Bool
listed_key hidden = false
listed_key (shown k) = without 10 k && without 61 k
listed_key (angle k) = without 10 k && without 61 k
listed_key (pressure k) = without 10 k && without 61 k

key_clean : (key : Key) → T (listed_key key) → T (without 10 (key_text key)) × T (without 61 (key_text key))
unfolding listed_key key_text
key_clean hidden q = absurd q
key_clean (shown k) q = (and_l (without 10 k) _ q, and_r (without 10 k) _ q)
key_clean (angle k) q = (and_l (without 10 k) _ q, and_r (without 10 k) _ q)
key_clean (pressure k) q = (and_l (without 10 k) _ q, and_r (without 10 k) _ q)

three_whole : (k d e v w x : List ℕ) → T (whole (key_line k v ++ (key_line d w ++ key_line e x)))
three_whole k d e v w x = whole_append (key_line k v) _ (line_whole k v) (whole_append (key_line d w) _ (line_whole d w) (line_whole e x))

sense_clean : (z : ℤ) → T (without 10 (sense_of z))
unfolding sense_of without
sense_clean (pos n) = go (eqb n 0) (eqb n 4_095)
  where
    go : (a b : Bool) → T (without 10 (pick a (text "atmost") (pick b (text "atleast") (text "equal"))))
    go true b = tt
    go false true = tt
    go false false = tt
sense_clean (negsuc n) = tt

number_whole : (key : Key) (z : ℤ) → T (whole (number_text key z))
unfolding number_text whole
number_whole hidden z = tt
number_whole (shown k) z = line_whole k (signed_decimal z)
number_whole (angle k) z = three_whole k (k ++ text ".udeg") (k ++ text ".left") (signed_decimal z) (signed_decimal (udeg_of z)) (signed_decimal (left_of z))
number_whole (pressure k) z = three_whole k (k ++ text ".tenths") (k ++ text ".sense") (signed_decimal z) (signed_decimal (pos 8_000 +ℤ z)) (sense_of z)

pub numbers_whole : (ks : List Key) (zs : List ℤ) → T (whole (numbers_text ks zs))
unfolding numbers_text whole
numbers_whole [] zs = tt
numbers_whole (k ∷ ks) [] = tt
numbers_whole (k ∷ ks) (z ∷ zs) = whole_append (number_text k z) _ (number_whole k z) (numbers_whole ks zs)

-- the first line of a number is its own
record First (key : Key) (z : ℤ) (s : List ℕ) : Type 0 where
  has : T (has_feed s)
  until_is : until_feed s ≡ key_text key ++ (61 ∷ signed_decimal z)

first_line : (key : Key) (z : ℤ) → T (listed_key key) → First key z (number_text key z)
unfolding number_text listed_key key_text
first_line hidden z q = absurd q
first_line (shown k) z q = record { has = line_has k (signed_decimal z); until_is = line_until k (signed_decimal z) (and_l (without 10 k) _ q) (clean z) }
first_line (angle k) z q =
    let h : T (has_feed (key_line k (signed_decimal z))) = line_has k (signed_decimal z) in
    record { has = has_append _ (key_line k (signed_decimal z)) h; until_is = until_append _ (key_line k (signed_decimal z)) h ∙ line_until k (signed_decimal z) (and_l (without 10 k) _ q) (clean z) }
first_line (pressure k) z q =
    let h : T (has_feed (key_line k (signed_decimal z))) = line_has k (signed_decimal z) in
    record { has = has_append _ (key_line k (signed_decimal z)) h; until_is = until_append _ (key_line k (signed_decimal z)) h ∙ line_until k (signed_decimal z) (and_l (without 10 k) _ q) (clean z) }

three_lines_lem : (k d e v w x : List ℕ) → T (without 10 k) → T (without 10 d) → T (without 10 e) → T (without 10 v) → T (without 10 w) → T (without 10 x) → feeds (key_line k v ++ (key_line d w ++ key_line e x)) ≡ 3
three_lines_lem k d e v w x nk nd ne nv nw nx =
    feeds-append (key_line k v) (key_line d w ++ key_line e x) ∙ ap₂ ◌+◌ (line_feeds k v nk nv) (feeds-append (key_line d w) (key_line e x) ∙ ap₂ ◌+◌ (line_feeds d w nd nw) (line_feeds e x ne nx))

number_feeds : (key : Key) (z : ℤ) → T (listed_key key) → feeds (number_text key z) ≡ lines_for key
unfolding number_text listed_key lines_for without
number_feeds hidden z q = absurd q
number_feeds (shown k) z q = line_feeds k (signed_decimal z) (and_l (without 10 k) _ q) (clean z)
number_feeds (angle k) z q =
    let n : T (without 10 k) = and_l (without 10 k) _ q in
    three_lines_lem k (k ++ text ".udeg") (k ++ text ".left") (signed_decimal z) (signed_decimal (udeg_of z)) (signed_decimal (left_of z)) n (without-append 10 k (text ".udeg") n tt) (without-append 10 k (text ".left") n tt) (clean z) (clean (udeg_of z)) (clean (left_of z))
number_feeds (pressure k) z q =
    let n : T (without 10 k) = and_l (without 10 k) _ q in
    three_lines_lem k (k ++ text ".tenths") (k ++ text ".sense") (signed_decimal z) (signed_decimal (pos 8_000 +ℤ z)) (sense_of z) n (without-append 10 k (text ".tenths") n tt) (without-append 10 k (text ".sense") n tt) (clean z) (clean (pos 8_000 +ℤ z)) (sense_clean z)

module _ (kind : Kind) (w : ℕ) (z : ℤ) (key : Key) (q : T (listed_key key)) (na : w ≤ 24) (fits : T (fits_piece kind w z)) (t : List ℕ) where
  -- where one line agrees, the number is taken back
  number_back : (n : ℕ) (K : ℕ → List ℕ → Type 0) → Fits (suc n) (number_text key z) t K → piece_in kind w t ≡ z
  number_back n K h =
      let f = first_line key z q in
      piece_back kind w t z (small kind w z na fits) fits (value_is (key_text key) (signed_decimal z) t (key_clean key q).1 (sym f.until_is ∙ (fits_open n (number_text key z) t K f.has h).0))

  keep_number : (n : ℕ) (K K' : ℕ → List ℕ → Type 0) → Fits n (number_text key z) t K
      → (piece_in kind w t ≡ z → (m : ℕ) → K (suc m) (behind_feeds (lines_for key) t) → K' (suc m) (behind_feeds (lines_for key) t)) → Fits n (number_text key (piece_in kind w t)) t K'
  keep_number zero K K' h c = fits_none _ t K'
  keep_number (suc n) K K' h c =
      let e : piece_in kind w t ≡ z = number_back n K h in
      subst (λ y. Fits (suc n) (number_text key y) t K') (sym e)
      (fits_then (suc n) (number_text key z) t K K' (number_whole key z) h
      (subst (λ j. (m : ℕ) → K (suc m) (behind_feeds j t) → K' (suc m) (behind_feeds j t)) (sym (number_feeds key z q)) (c e)))

-- ---- the numbers of a chain part or a subfield

-- one key with a line for each number, none of more than 24 bits, 0 being one of its numbers
unfoldable pub listed : List Key → List Piece → Bool
unfolding listed_key fits_piece
listed [] [] = true
listed (key ∷ ks) [] = false
listed ks (spare w ∷ ps) = listed ks ps
listed [] (num k w ∷ ps) = false
listed (key ∷ ks) (num k w ∷ ps) = (listed_key key && (leb w 24 && fits_piece k w (pos 0))) && listed ks ps

pub keep_numbers : (ks : List Key) (ps : List Piece) (zs : List ℤ) → T (listed ks ps) → T (fit_nums ps zs) → T (in_limits ps zs) → (n : ℕ) (t : List ℕ) (K K' : ℕ → List ℕ → Type 0)
    → Fits n (numbers_text ks zs) t K → (numbers_in ks ps t ≡ zs → (m : ℕ) → K (suc m) (behind_keys ks t) → K' (suc m) (behind_keys ks t)) → Fits n (numbers_text ks (numbers_in ks ps t)) t K'
unfolding numbers_text numbers_in behind_keys listed fit_nums in_limits fits_piece Fits
keep_numbers [] [] [] q f i zero t K K' h c = tt
keep_numbers [] [] [] q f i (suc n) t K K' h c = c refl n h
keep_numbers [] [] (z ∷ zs) q f i n t K K' h c = absurd f
keep_numbers (key ∷ ks) [] zs q f i n t K K' h c = absurd q
keep_numbers [] (spare w ∷ ps) zs q f i n t K K' h c = keep_numbers [] ps zs q f i n t K K' h c
keep_numbers (key ∷ ks) (spare w ∷ ps) zs q f i n t K K' h c = keep_numbers (key ∷ ks) ps zs q f i n t K K' h c
keep_numbers [] (num k w ∷ ps) zs q f i n t K K' h c = absurd q
keep_numbers (key ∷ ks) (num k w ∷ ps) [] q f i n t K K' h c = absurd f
keep_numbers (key ∷ ks) (num k w ∷ ps) (z ∷ zs) q f i n t K K' h c =
    let fz : T (fits_piece k w z) = and_in (in_num k w z) _ (and_l (in_num k w z) _ f) (and_l (limit k z) _ i) in
    let qk : T (listed_key key && (leb w 24 && fits_piece k w (pos 0))) = and_l (listed_key key && (leb w 24 && fits_piece k w (pos 0))) _ q in
    let na : w ≤ 24 = leb→le w 24 (and_l (leb w 24) _ (and_r (listed_key key) _ qk)) in
    let t2 : List ℕ = behind_feeds (lines_for key) t in
    fits_join n (number_text key (piece_in k w t)) (numbers_text ks (numbers_in ks ps t2)) t K' (number_whole key (piece_in k w t))
    (keep_number k w z key (and_l (listed_key key) _ qk) na fz t n (λ m x. Fits m (numbers_text ks zs) x K) (λ m x. Fits m (numbers_text ks (numbers_in ks ps t2)) x K')
    (fits_split n (number_text key z) (numbers_text ks zs) t K (number_whole key z) h)
    (λ e m g. keep_numbers ks ps zs (and_r (listed_key key && (leb w 24 && fits_piece k w (pos 0))) _ q) (and_r (in_num k w z) _ f) (and_r (limit k z) _ i) (suc m) t2 K K' g (λ es. c (ap₂ ◌∷◌ e es))))

-- what is taken fits, whatever the text
pub numbers_fit : (ks : List Key) (ps : List Piece) → T (listed ks ps) → (t : List ℕ) → T (fit_nums ps (numbers_in ks ps t)) × T (in_limits ps (numbers_in ks ps t))
unfolding numbers_in listed fit_nums in_limits fits_piece
numbers_fit [] [] q t = (tt, tt)
numbers_fit (key ∷ ks) [] q t = absurd q
numbers_fit [] (spare w ∷ ps) q t = numbers_fit [] ps q t
numbers_fit (key ∷ ks) (spare w ∷ ps) q t = numbers_fit (key ∷ ks) ps q t
numbers_fit [] (num k w ∷ ps) q t = absurd q
numbers_fit (key ∷ ks) (num k w ∷ ps) q t =
    let qk : T (listed_key key && (leb w 24 && fits_piece k w (pos 0))) = and_l (listed_key key && (leb w 24 && fits_piece k w (pos 0))) _ q in
    let z : ℤ = piece_in k w t in
    let f : T (fits_piece k w z) = piece_in_lem k w t (and_r (leb w 24) _ (and_r (listed_key key) _ qk)) in
    let r = numbers_fit ks ps (and_r (listed_key key && (leb w 24 && fits_piece k w (pos 0))) _ q) (behind_feeds (lines_for key) t) in
    (and_in (in_num k w z) _ (and_l (in_num k w z) _ f) r.0, and_in (limit k z) _ (and_r (in_num k w z) _ f) r.1)

-- ---- how a text begins

begins_front : (w v : List ℕ) → T (begins w (w ++ v))
unfolding begins
begins_front [] v = tt
begins_front (o ∷ w) v = and_in (eqb o o) _ (subst T (sym (eq-eqb o o refl)) tt) (begins_front w v)

-- a word that begins the first line begins the text
line_begins : (w t : List ℕ) → T (begins w (until_feed t)) → T (begins w t)
unfolding begins before_octet
line_begins [] t h = tt
line_begins (o ∷ w) [] h = h
line_begins (o ∷ w) (x ∷ t) h = go (eqb x 10) h (λ g. line_begins w t g)
  where
    go : (b : Bool) → T (begins (o ∷ w) (pick b [] (x ∷ until_feed t))) → (T (begins w (until_feed t)) → T (begins w t)) → T (eqb x o && begins w t)
    go true h k = absurd h
    go false h k = and_in (eqb x o) _ (and_l (eqb x o) _ h) (k (and_r (eqb x o) _ h))

-- a text that has a line with a key in common begins with it
pub key_begins : (k v t : List ℕ) → k ++ (61 ∷ v) ≡ until_feed t → T (begins (k ++ (61 ∷ [])) t)
key_begins k v t e =
    line_begins (k ++ (61 ∷ [])) t (subst (λ x. T (begins (k ++ (61 ∷ [])) x)) (append_assoc k (61 ∷ []) v ∙ e) (begins_front (k ++ (61 ∷ [])) v))

-- so does one that has the first line of a group in common
pub group_begins : (ks : List Key) (ps : List Piece) (zs : List ℤ) → T (listed ks ps) → T (fit_nums ps zs) → T (ltb 0 (count ps)) → (n : ℕ) (t : List ℕ) (K : ℕ → List ℕ → Type 0)
    → Fits (suc n) (numbers_text ks zs) t K → T (begins (head_of ks) t)
unfolding listed fit_nums count numbers_text head_of
group_begins [] [] zs q f p n t K h = absurd p
group_begins (key ∷ ks) [] zs q f p n t K h = absurd p
group_begins [] (spare w ∷ ps) zs q f p n t K h = group_begins [] ps zs q f p n t K h
group_begins (key ∷ ks) (spare w ∷ ps) zs q f p n t K h = group_begins (key ∷ ks) ps zs q f p n t K h
group_begins [] (num k w ∷ ps) zs q f p n t K h = absurd q
group_begins (key ∷ ks) (num k w ∷ ps) [] q f p n t K h = absurd f
group_begins (key ∷ ks) (num k w ∷ ps) (z ∷ zs) q f p n t K h =
    let qk : T (listed_key key) = and_l (listed_key key) _ (and_l (listed_key key && (leb w 24 && fits_piece k w (pos 0))) _ q) in
    let g = first_line key z qk in
    let u = fits_open n (number_text key z) t (λ m x. Fits m (numbers_text ks zs) x K) g.has (fits_split (suc n) (number_text key z) (numbers_text ks zs) t K (number_whole key z) h) in
    key_begins (key_text key) (signed_decimal z) t (sym g.until_is ∙ u.0)
