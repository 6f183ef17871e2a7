-- What is read has as many numbers as its lines have, whatever the octets.
use Rattle.std.specs.Prelude.{◌≡◌, refl, Bool, true, false, List, [], ◌∷◌, ◌++◌, ℕ, suc, ◌+◌, ◌^◌, ◌/◌, ◌<◌, eqb, ℤ, pos, length, drop}
use Rattle.std.proofs.Common.{ap, ap₂, ◌∙◌, subst, mod-lt, arith, pow_pos, length-append}
use Rattle.std.proofs.lemmas.List.{length-replicate}
use Rattle.codec.specs.Pick.{pick}
use Rattle.codec.specs.Codec.{Res, got, bad, map_res, shift, and_then, check, Codec, opt, pair_up}
use Rattle.codec.specs.Line.{Piece, spare, num, Line, Held, widths, count, nums, line}
use Rattle.codec.specs.Item.{Item, chained, single, slots_of, slots, nothing, beside, chain, flagged, subfields, item}
use Rattle.codec.proofs.Laws.Radix.{length_cut}
use Rattle.codec.proofs.Laws.Line.{whole_of, digits_of, line_every}

-- of a value found, by a measure of it
abbrev pub LongBy : {A : Type 0} → (A → ℕ) → ℕ → Res A → Type 0
LongBy len k (got a n) = len a ≡ k
LongBy len k (bad e p) = Unit {0}

abbrev pub many : Held → ℕ
many v = length v.1

-- of the read function alone, so that a use need not say how the codec writes
pub record Long (k : ℕ) (rd : List ℕ → Res Held) : Type 0 where
  pub long : (xs : List ℕ) → LongBy many k (rd xs)

long_map : {A B : Type 0} (f : A → B) (lenA : A → ℕ) (lenB : B → ℕ) (k : ℕ) → ((a : A) → lenB (f a) ≡ lenA a) → (m : Res A) → LongBy lenA k m → LongBy lenB k (map_res f m)
long_map f lenA lenB k same (got a n) h = same a ∙ h
long_map f lenA lenB k same (bad e p) h = tt

long_check : {A : Type 0} (len : A → ℕ) (k e : ℕ) (t : A → Bool) (m : Res A) → LongBy len k m → LongBy len k (check e t m)
long_check {A} len k e t (got a n) h = go (t a)
  where
    go : (b : Bool) → LongBy len k (pick b (got a n) (bad e 0))
    go true = h
    go false = tt
long_check len k e t (bad q p) h = tt

pub long_shift : {A : Type 0} (len : A → ℕ) (k n : ℕ) (m : Res A) → LongBy len k m → LongBy len k (shift n m)
long_shift len k n (got a j) h = h
long_shift len k n (bad e p) h = tt

long_then : (j k : ℕ) (xs : List ℕ) (m : Res Held) (f : Held → List ℕ → Res Held) → LongBy many j m → ((a : Held) (r : List ℕ) → LongBy many k (f a r))
    → LongBy (λ (p : Held × Held). many p.0 + many p.1) (j + k) (and_then xs m (λ a r. map_res (pair_up a) (f a r)))
long_then j k xs (got a n) f h g =
    long_shift (λ (p : Held × Held). many p.0 + many p.1) (j + k) n (map_res (pair_up a) (f a (drop n xs)))
    (by (f a (drop n xs)) (g a (drop n xs)))
  where
    by : (m : Res Held) → LongBy many k m → LongBy (λ (p : Held × Held). many p.0 + many p.1) (j + k) (map_res (pair_up a) m)
    by (got b i) e = ap₂ ◌+◌ h e
    by (bad e p) t = tt
long_then j k xs (bad e p) f h g = tt

-- ---- every level

plus_zero : (n : ℕ) → n ≡ n + 0
plus_zero n = omega arith

nums-length : (ps : List Piece) (ds : List ℕ) → length ds ≡ length (widths ps) → length (nums ps ds) ≡ count ps
unfolding nums widths count
nums-length [] ds e = refl
nums-length (spare w ∷ ps) [] e = absurd (omega arith)
nums-length (spare w ∷ ps) (d ∷ ds) e = nums-length ps ds (omega arith)
nums-length (num k w ∷ ps) [] e = absurd (omega arith)
nums-length (num k w ∷ ps) (d ∷ ds) e = ap suc (nums-length ps ds (omega arith))

pub long_line : (l : Line) → Long (count l.pieces) (line l).read
long_line l = record {
  long = λ xs.
      line_every l xs (LongBy many (count l.pieces)) (λ e. tt) (nums-length l.pieces (digits_of l xs) (length_cut (widths l.pieces) (whole_of l xs / 2 ^ l.fx)));
}

-- and FX of a line is a number of its bits
abbrev pub Under : ℕ → Res Held → Type 0
Under k (got v n) = v.0 < k
Under k (bad e p) = Unit {0}

pub under_line : (l : Line) (xs : List ℕ) → Under (2 ^ l.fx) ((line l).read xs)
under_line l xs = line_every l xs (Under (2 ^ l.fx)) (λ e. tt) (mod-lt (whole_of l xs) (pow_pos l.fx))

pub under_shift : (k n : ℕ) (m : Res Held) → Under k m → Under k (shift n m)
under_shift k n (got v j) h = h
under_shift k n (bad e p) h = h

pub long_opt : (k : ℕ) (b : Bool) (c : Codec Held) → Long k c.read → Long k (opt (nothing k) b c).read
long_opt k true c h = h
long_opt k false c h = record { long = λ xs. length-replicate k (pos 0) }

long_beside : (n j k : ℕ) (c : Codec Held) (d : Held → Codec Held) → Long j c.read → ((a : Held) → Long k (d a).read) → (xs : List ℕ)
    → LongBy (λ (b : (ℕ × ℕ) × List ℤ). length b.1) (j + k) ((beside n c d).read xs)
unfolding beside
long_beside n j k c d h g xs =
    long_map (λ (a : Held × Held). ((a.0.0, a.1.0), a.0.1 ++ a.1.1)) (λ a. many a.0 + many a.1) (λ b. length b.1) (j + k)
    (λ a. length-append a.0.1 a.1.1) (and_then xs (c.read xs) (λ a r. map_res (pair_up a) ((d a).read r)))
    (long_then j k xs (c.read xs) (λ a r. (d a).read r) (h.long xs) (λ a r. (g a).long r))

-- whatever becomes of the two counts
long_joined : (f : ℕ × ℕ → ℕ) (n j k : ℕ) (c : Codec Held) (d : Held → Codec Held) → Long j c.read → ((a : Held) → Long k (d a).read)
    → Long (j + k) (λ xs. map_res (λ a. (f a.0, a.1)) ((beside n c d).read xs))
long_joined f n j k c d h g = record {
  long = λ xs.
      long_map (λ (a : (ℕ × ℕ) × List ℤ). (f a.0, a.1)) (λ b. length b.1) many (j + k) (λ a. refl) ((beside n c d).read xs) (long_beside n j k c d h g xs);
}

pub long_chain : (p : Line) (qs : List Line) → Long (slots_of (p ∷ qs)) (chain p qs).read
unfolding chain slots_of
long_chain p [] = record {
  long = λ xs.
      long_map {A = Held} (λ v. (1, v.1)) many many (slots_of (p ∷ [])) (λ v. refl) (check 7 (λ v. eqb v.0 0) ((line p).read xs))
      (long_check many (slots_of (p ∷ [])) 7 (λ v. eqb v.0 0) ((line p).read xs) (subst (λ j. LongBy many j ((line p).read xs)) (plus_zero (count p.pieces)) ((long_line p).long xs)));
}
long_chain p (q ∷ qs) =
    long_joined (λ c. suc c.1) (count p.pieces) (count p.pieces) (slots_of (q ∷ qs)) (line p) (λ v. opt (nothing (slots_of (q ∷ qs))) (eqb v.0 1) (chain q qs)) (long_line p)
    (λ v. long_opt (slots_of (q ∷ qs)) (eqb v.0 1) (chain q qs) (long_chain q qs))

pub long_subfields : (zs : List ℤ) (ss : List Line) → Long (slots_of ss) (subfields zs ss).read
unfolding subfields slots_of
long_subfields zs [] = record { long = λ xs. refl }
long_subfields zs (s ∷ ss) =
    long_joined (λ c. 0) (count s.pieces) (count s.pieces) (slots_of ss) (opt (nothing (count s.pieces)) (flagged zs s) (line s)) (λ v. subfields zs ss)
    (long_opt (count s.pieces) (flagged zs s) (line s) (long_line s)) (λ v. long_subfields zs ss)

pub long_item : (it : Item) → Long (slots it) (item it).read
unfolding item slots slots_of
long_item (chained p qs ss) =
    long_joined (λ c. c.0) (slots_of (p ∷ qs)) (slots_of (p ∷ qs)) (slots_of ss) (chain p qs) (λ a. subfields a.1 ss) (long_chain p qs) (λ a. long_subfields a.1 ss)
long_item (single l) = record { long = λ xs. subst (λ j. LongBy many j ((line l).read xs)) (plus_zero (count l.pieces)) ((long_line l).long xs) }
