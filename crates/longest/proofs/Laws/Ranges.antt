-- A number stands between the ends of its piece, so its line has no more octets than that of its longer end; likewise its angle and its pressure. What the
-- angle leaves, and the sense of a pressure, have bounds of their own.
use Rattle.std.specs.Prelude.{◌≡◌, refl, Bool, true, false, cond, List, [], ◌∷◌, ◌++◌, ℕ, zero, suc, ◌+◌, ◌-◌, ◌^◌, ◌/◌, ◌≤◌, max, T, ltb, ℤ, pos, negsuc, neg_ℤ, length}
use Rattle.std.proofs.Common.{zero-le, le_trans, arith, ltb-true, ltb-false, leb→le, le→leb, ltb→lt, length-append}
use Rattle.std.proofs.Math.Nat.{le-max_left, le-max_right}
use Rattle.std.proofs.Math.IntN.{sub_ℕ}
use Rattle.std.specs.Int.Signed.{le_z}
use Rattle.codec.specs.Pick.{pick}
use Rattle.codec.specs.Signed.{in_signed}
use Rattle.codec.specs.Line.{Kind, plain, signed, limited, Piece, spare, num, in_num, limit, fit_nums, in_limits}
use Rattle.codec.proofs.Laws.Tests.{and_l, and_r}
use Rattle.papers.specs.Names.{text, Key, hidden, shown, angle, pressure}
use Rattle.scope.specs.Angle.{rounded, udeg_of, left_of}
use Rattle.scope.specs.Pressure.{eq_int, tenths_of, sense_of}
use Rattle.scope.proofs.Laws.Angle.{left_within}
use Rattle.scope.specs.Sheet.{decimal, signed_decimal, key_line, number_text, numbers_text}
use Rattle.text.specs.Laws.Decimals.{decimal-longer}

-- ---- a number between two others

-- the octets of the longer of two numbers
unfoldable pub longer : ℤ → ℤ → ℕ
longer lo hi = max (length (signed_decimal lo)) (length (signed_decimal hi))

-- a number between them has no more
between_longer : (lo z hi : ℤ) → T (le_z lo z) → T (le_z z hi) → length (signed_decimal z) ≤ longer lo hi
unfolding longer signed_decimal
between_longer lo (pos n) (pos m) h k = le_trans (decimal-longer n m (leb→le n m k)) (le-max_right (length (signed_decimal lo)) (length (decimal m)))
between_longer lo (pos n) (negsuc m) h k = absurd k
between_longer (pos m) (negsuc n) hi h k = absurd h
between_longer (negsuc m) (negsuc n) hi h k =
    let l : length (decimal (suc n)) ≤ length (decimal (suc m)) = decimal-longer (suc n) (suc m) (omega (arith, leb→le n m h)) in
    le_trans (omega arith) (le-max_left (length (signed_decimal (negsuc m))) (length (signed_decimal hi)))

-- ---- a larger number has no smaller angle

-- minus a number is not above 0
negated_below : (k m : ℕ) → T (le_z (neg_ℤ (pos k)) (pos m))
negated_below zero m = le→leb 0 m zero-le
negated_below (suc k) m = tt

-- minus a larger number is no larger
negated_falls : (j k : ℕ) → j ≤ k → T (le_z (neg_ℤ (pos k)) (neg_ℤ (pos j)))
negated_falls zero k h = negated_below k 0
negated_falls (suc j) zero h = absurd (omega arith)
negated_falls (suc j) (suc k) h = le→leb j k (omega arith)

angle_rises : (y z : ℤ) → T (le_z y z) → T (le_z (udeg_of y) (udeg_of z))
unfolding udeg_of
angle_rises (pos m) (pos n) h = le→leb (rounded m) (rounded n) (omega (arith, leb→le m n h))
angle_rises (pos m) (negsuc n) h = absurd h
angle_rises (negsuc m) (pos n) h = negated_below (rounded (suc m)) (rounded n)
angle_rises (negsuc m) (negsuc n) h = negated_falls (rounded (suc n)) (rounded (suc m)) (omega (arith, leb→le n m h))

-- ---- what the angle leaves does not rise with the number: its line is bounded by half a step to either side, and not by the ends

abbrev longest_left : ℕ
longest_left = longer (negsuc 16_383) (pos 16_384)

left_most : (z : ℤ) → length (signed_decimal (left_of z)) ≤ longest_left
left_most z = let w = left_within z in between_longer (negsuc 16_383) (left_of z) (pos 16_384) w.low w.high

-- ---- a larger number has no smaller pressure

-- what is left of a number is not above it
minus_below : (k a n : ℕ) → k ≤ n → T (le_z (sub_ℕ k a) (pos n))
minus_below k a n h = go (ltb k a)
  where
    go : (t : Bool) → T (le_z (cond t (negsuc (a - suc k)) (pos (k - a))) (pos n))
    go true = tt
    go false = le→leb (k - a) n (omega arith)

-- where more is taken, no more is left
minus-falls : (k a b : ℕ) → b ≤ a → T (le_z (sub_ℕ k a) (sub_ℕ k b))
minus-falls k a b h = go (ltb k a) (ltb k b) refl refl
  where
    go : (t u : Bool) → ltb k a ≡ t → ltb k b ≡ u → T (le_z (cond t (negsuc (a - suc k)) (pos (k - a))) (cond u (negsuc (b - suc k)) (pos (k - b))))
    go true true e f = le→leb (b - suc k) (a - suc k) (omega arith)
    go true false e f = tt
    go false true e f = absurd (omega (arith, ltb-false k a e, ltb-true k b f))
    go false false e f = le→leb (k - a) (k - b) (omega arith)

pressure_rises : (y z : ℤ) → T (le_z y z) → T (le_z (tenths_of y) (tenths_of z))
pressure_rises (pos m) (pos n) h = le→leb (8_000 + m) (8_000 + n) (omega (arith, leb→le m n h))
pressure_rises (pos m) (negsuc n) h = absurd h
pressure_rises (negsuc m) (pos n) h = minus_below 8_000 (suc m) (8_000 + n) (omega arith)
pressure_rises (negsuc m) (negsuc n) h = minus-falls 8_000 (suc m) (suc n) (omega (arith, leb→le n m h))

-- ---- its sense is no number: which word it is says nothing of the ends, and none is longer than the longest of the three

abbrev longest_sense : ℕ
longest_sense = length (text "atleast")

sense_most : (z : ℤ) → length (sense_of z) ≤ longest_sense
unfolding sense_of
sense_most z = go (eq_int z (pos 0)) (eq_int z (pos 4_095))
  where
    go : (a b : Bool) → length (pick a (text "atmost") (pick b (text "atleast") (text "equal"))) ≤ longest_sense
    go true b = omega arith
    go false true = omega arith
    go false false = omega arith

-- ---- the ends of a number of w bits

-- the lowest number: 0, the lowest of two's complement, or the lower limit
unfoldable pub lowest : Kind → ℕ → ℤ
lowest plain w = pos 0
lowest signed w = negsuc ((2 ^ w - 1) / 2)
lowest (limited lo hi) w = lo

-- the highest number: all bits set, the highest of two's complement, or the upper limit
unfoldable pub highest : Kind → ℕ → ℤ
highest plain w = pos (2 ^ w - 1)
highest signed w = pos ((2 ^ w - 1) / 2)
highest (limited lo hi) w = hi

-- every number of a piece stands between them
in_ends : (d : Kind) (w : ℕ) (z : ℤ) → T (in_num d w z) → T (limit d z) → T (le_z (lowest d w) z) × T (le_z z (highest d w))
unfolding lowest highest in_num in_signed limit
in_ends plain w (pos n) h k = (le→leb 0 n zero-le, le→leb n _ (omega (arith, ltb→lt n (2 ^ w) h)))
in_ends plain w (negsuc n) h k = absurd h
in_ends signed w (pos n) h k = (tt, le→leb n _ (omega (arith, ltb→lt (n + n) (2 ^ w) h)))
in_ends signed w (negsuc n) h k = (le→leb n _ (omega (arith, ltb→lt (suc (n + n)) (2 ^ w) h)), tt)
in_ends (limited lo hi) w z h k = (and_l (le_z lo z) _ k, and_r (le_z lo z) _ k)

-- ---- the most octets of a number's lines

-- a line with a value of n octets: its key, `=`, the value, a line feed
abbrev pub most_line : List ℕ → ℕ → ℕ
most_line key n = length key + (n + 2)

-- the lines of a number between two ends, as its key has them
unfoldable pub most_number : Key → ℤ → ℤ → ℕ
unfolding longer
most_number hidden lo hi = 0
most_number (shown k) lo hi = most_line k (longer lo hi)
most_number (angle k) lo hi = most_line k (longer lo hi) + (most_line (k ++ text ".udeg") (longer (udeg_of lo) (udeg_of hi)) + most_line (k ++ text ".left") longest_left)
most_number (pressure k) lo hi = most_line k (longer lo hi) + (most_line (k ++ text ".tenths") (longer (tenths_of lo) (tenths_of hi)) + most_line (k ++ text ".sense") longest_sense)

-- the lines of all numbers of some pieces; a spare piece has no key
unfoldable pub most_numbers : List Key → List Piece → ℕ
unfolding most_number lowest highest
most_numbers [] ps = 0
most_numbers (k ∷ ks) [] = 0
most_numbers (k ∷ ks) (spare w ∷ ps) = most_numbers (k ∷ ks) ps
most_numbers (k ∷ ks) (num d w ∷ ps) = most_number k (lowest d w) (highest d w) + most_numbers ks ps

-- ---- none has more

pub append_most : (xs ys : List ℕ) {m n : ℕ} → length xs ≤ m → length ys ≤ n → length (xs ++ ys) ≤ m + n
append_most xs ys h k = rw length-append (omega arith)

pub line_most : (key value : List ℕ) {n : ℕ} → length value ≤ n → length (key_line key value) ≤ most_line key n
unfolding key_line
line_most key value h = omega (arith, length-append key (61 ∷ value ++ (10 ∷ [])), length-append value (10 ∷ []))

signed_line : (key : List ℕ) (lo z hi : ℤ) → T (le_z lo z) → T (le_z z hi) → length (key_line key (signed_decimal z)) ≤ most_line key (longer lo hi)
signed_line key lo z hi h k = line_most key (signed_decimal z) (between_longer lo z hi h k)

number_most : (key : Key) (lo z hi : ℤ) → T (le_z lo z) → T (le_z z hi) → length (number_text key z) ≤ most_number key lo hi
unfolding number_text most_number
number_most hidden lo z hi h k = zero-le
number_most (shown key) lo z hi h k = signed_line key lo z hi h k
number_most (angle key) lo z hi h k =
    append_most (key_line key (signed_decimal z)) _ (signed_line key lo z hi h k)
    (append_most (key_line (key ++ text ".udeg") (signed_decimal (udeg_of z))) _
    (signed_line (key ++ text ".udeg") (udeg_of lo) (udeg_of z) (udeg_of hi) (angle_rises lo z h) (angle_rises z hi k))
    (line_most (key ++ text ".left") (signed_decimal (left_of z)) (left_most z)))
number_most (pressure key) lo z hi h k =
    append_most (key_line key (signed_decimal z)) _ (signed_line key lo z hi h k)
    (append_most (key_line (key ++ text ".tenths") (signed_decimal (tenths_of z))) _
    (signed_line (key ++ text ".tenths") (tenths_of lo) (tenths_of z) (tenths_of hi) (pressure_rises lo z h) (pressure_rises z hi k))
    (line_most (key ++ text ".sense") (sense_of z) (sense_most z)))

pub numbers_most : (ks : List Key) (ps : List Piece) (zs : List ℤ) → T (fit_nums ps zs) → T (in_limits ps zs) → length (numbers_text ks zs) ≤ most_numbers ks ps
unfolding numbers_text most_numbers fit_nums in_limits
numbers_most [] ps zs h k = zero-le
numbers_most (key ∷ ks) [] [] h k = zero-le
numbers_most (key ∷ ks) [] (z ∷ zs) h k = absurd h
numbers_most (key ∷ ks) (spare w ∷ ps) zs h k = numbers_most (key ∷ ks) ps zs h k
numbers_most (key ∷ ks) (num d w ∷ ps) [] h k = zero-le
numbers_most (key ∷ ks) (num d w ∷ ps) (z ∷ zs) h k =
    let e = in_ends d w z (and_l (in_num d w z) _ h) (and_l (limit d z) _ k) in
    append_most (number_text key z) _ (number_most key (lowest d w) z (highest d w) e.0 e.1)
    (numbers_most ks ps zs (and_r (in_num d w z) _ h) (and_r (limit d z) _ k))
