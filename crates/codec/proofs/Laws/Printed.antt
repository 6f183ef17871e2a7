-- The bits as a paper numbers them are the digits into which a line's codec cuts its octets, so a line is read exactly where it is one, with its numbers.
use Rattle.std.specs.Prelude.{◌≡◌, refl, Bool, true, false, ℕ, zero, suc, ◌+◌, ◌-◌, ◌*◌, ◌^◌, ◌/◌, ◌%◌, ◌≤◌, ◌<◌, ltb, leb, eqb, ℤ, pos, negsuc, ◌-ℤ◌, length, take}
use Rattle.std.proofs.Common.{sym, ap, ap₂, ◌∙◌, subst, mod-lt, mod-eq_of_lt, pow-suc, arith, length-append, take_at, length-take-le, pow_pos, shr-shr, ltb-true, ltb-false, leb-true, leb-false}
use mathlib.Core.List.{List, [], ◌∷◌, ◌++◌}
use Rattle.std.proofs.Math.Nat.{div-eq_of_lt}
use Rattle.std.proofs.Math.Dec.{T, ltb→lt, leb→le, eqb→eq, eqb_refl}
use Rattle.std.specs.Int.Signed.{le_z}
use Rattle.std.proofs.Math.Pow.{high, field, mod-mod-pow}
use Rattle.codec.specs.Signed.{to_signed}
use Rattle.codec.specs.Radix.{total, cut, join, eights}
use Rattle.codec.specs.Codec.{Octets, got}
use Rattle.codec.specs.Line.{Kind, plain, signed, limited, Piece, Line, to_num, limit, widths, clear, nums, in_limits, Held, line, fills}
use Rattle.codec.specs.Printed.{Run, spares, number, Structure, top, bottom, adjacent}
use Rattle.codec.specs.Made.{piece_of, pieces_of, line_of}
use Rattle.codec.specs.Meaning.{big_endian, bits_of, twos, meant, value_of, Clear, Inside, Within, numbers_of, IsLine}
use Rattle.codec.proofs.Laws.Tests.{and_in, and_l, and_r, holds}
use Rattle.codec.proofs.Laws.Signed.{minus, signed_low, signed_high}
use Rattle.codec.proofs.Laws.Radix.{join_lt, total-eights}
use Rattle.codec.proofs.Laws.Codec.{bad≢got, octets_take, octets_digits}
use Rattle.codec.proofs.Laws.Line.{whole_of, digits_of, line_short, line_spare, line_limit, line_there}

-- ---- runs that follow each other, from bit hi down to the bit above those below

module _ (hi below : ℕ) (r : Run) (rs : List Run) (h : T (adjacent hi below (r ∷ rs))) where
  pub first_top : top r ≡ hi
  unfolding adjacent
  first_top = eqb→eq (top r) hi (and_l (eqb (top r) hi) _ h)

  pub first_order : bottom r ≤ top r
  unfolding adjacent
  first_order = leb→le (bottom r) (top r) (search (and_l, and_r))

  pub first_above : below < bottom r
  unfolding adjacent
  first_above = ltb→lt below (bottom r) (search (and_l, and_r))

  pub others_adjacent : T (adjacent (bottom r - 1) below rs)
  unfolding adjacent
  others_adjacent = search (and_l, and_r)

width_is : (r : Run) (ps : List Piece) → widths (piece_of r ∷ ps) ≡ (suc (top r) - bottom r) ∷ widths ps
unfolding widths
width_is (spares hi lo) ps = refl
width_is (number k hi lo s) ps = refl

pub total_runs : (hi below : ℕ) (rs : List Run) → T (adjacent hi below rs) → total (widths (pieces_of rs)) + below ≡ hi
unfolding total widths adjacent
total_runs hi below [] h = let e : hi ≡ below = eqb→eq hi below h in omega arith
total_runs hi below (r ∷ rs) h =
    let e : total (widths (pieces_of rs)) + below ≡ bottom r - 1 = total_runs (bottom r - 1) below rs (others_adjacent hi below r rs h) in
    let a : top r ≡ hi = first_top hi below r rs h in
    let b : bottom r ≤ top r = first_order hi below r rs h in
    let c : below < bottom r = first_above hi below r rs h in
    ap (λ ws. total ws + below) (width_is r (pieces_of rs)) ∙ omega arith

-- so they fill the octets
pub runs_fill : (fx flag : ℕ) (s : Structure) → T (adjacent (8 * s.octets) fx s.runs) → T (fills (line_of fx flag s))
unfolding fills
runs_fill fx flag s h =
    subst (λ x. T (eqb x (total (widths (pieces_of s.runs)) + fx))) (total_runs (8 * s.octets) fx s.runs h ∙ sym (total-eights s.octets))
    (eqb_refl (total (widths (pieces_of s.runs)) + fx))

-- the bits of each run
unfoldable pub run_bits : ℕ → List Run → List ℕ
run_bits n [] = []
run_bits n (r ∷ rs) = bits_of n (top r) (bottom r) ∷ run_bits n rs

pub cut_runs : (n hi below : ℕ) (rs : List Run) → T (adjacent hi below rs) → cut (widths (pieces_of rs)) (n % 2 ^ hi / 2 ^ below) ≡ run_bits n rs
unfolding cut run_bits widths bits_of
cut_runs n hi below [] h = refl
cut_runs n hi below (r ∷ rs) h =
    let t : ℕ = total (widths (pieces_of rs)) in
    let l : ℕ = bottom r - 1 in
    let w : ℕ = suc (top r) - bottom r in
    let e : t + below ≡ l = total_runs (bottom r - 1) below rs (others_adjacent hi below r rs h) in
    let a : top r ≡ hi = first_top hi below r rs h in
    let b : bottom r ≤ top r = first_order hi below r rs h in
    let c : below < bottom r = first_above hi below r rs h in
    let eh : hi ≡ w + l = omega arith in
    let el : below + t ≡ l = omega arith in
    let head : n % 2 ^ hi / 2 ^ below / 2 ^ t ≡ n / 2 ^ l % 2 ^ w
    = shr-shr (n % 2 ^ hi) below t ∙ ap₂ (λ x y. n % 2 ^ x / 2 ^ y) eh el ∙ field n w l in
    let rest : n % 2 ^ hi / 2 ^ below % 2 ^ t ≡ n % 2 ^ l / 2 ^ below
    = sym (field (n % 2 ^ hi) t below) ∙ ap₂ (λ x y. n % 2 ^ x % 2 ^ y / 2 ^ below) eh e ∙ ap (λ x. x / 2 ^ below) (mod-mod-pow n w l) in
    ap (λ ws. cut ws (n % 2 ^ hi / 2 ^ below)) (width_is r (pieces_of rs))
    ∙ ap₂ ◌∷◌ head (ap (cut (widths (pieces_of rs))) rest ∙ cut_runs n l below rs (others_adjacent hi below r rs h))

-- ---- the numbers

-- two's complement: the codec's is the weight of the highest bit
twos_low : (v d : ℕ) → d < 2 ^ v → twos (suc v) d ≡ pos d
unfolding twos
twos_low v d h =
    let e : d / 2 ^ (suc v - 1) ≡ 0 = ap (λ x. d / 2 ^ x) (omega arith) ∙ div-eq_of_lt h in
    let z : 2 ^ suc v * 0 ≡ 0 = omega arith in
    let p : d + 0 ≡ d = omega arith in
    ap (λ x. pos d -ℤ pos (2 ^ suc v * x)) e ∙ ap (λ x. pos d -ℤ pos x) z ∙ ap pos p

twos_high : (v d : ℕ) → 2 ^ v ≤ d → d < 2 ^ suc v → twos (suc v) d ≡ negsuc (2 ^ suc v - suc d)
unfolding twos
twos_high v d h k =
    let q : 2 ^ suc v ≡ 2 ^ v * 2 = pow-suc 2 v in
    let s : d ≡ 1 * 2 ^ v + (d - 2 ^ v) = omega arith in
    let lo : d - 2 ^ v < 2 ^ v = omega arith in
    let e : d / 2 ^ (suc v - 1) ≡ 1 = ap (λ x. d / 2 ^ x) (omega arith) ∙ ap (λ x. x / 2 ^ v) s ∙ high 1 v lo in
    let z : 2 ^ suc v * 1 ≡ 2 ^ suc v = omega arith in
    ap (λ x. pos d -ℤ pos (2 ^ suc v * x)) e ∙ ap (λ x. pos d -ℤ pos x) z ∙ minus d (2 ^ suc v) k

twos_is : (w d : ℕ) → 1 ≤ w → d < 2 ^ w → to_signed (2 ^ w) d ≡ twos w d
twos_is zero d h k = absurd (omega arith)
twos_is (suc v) d h k = go (ltb (d + d) (2 ^ suc v)) refl
  where
    go : (b : Bool) → ltb (d + d) (2 ^ suc v) ≡ b → to_signed (2 ^ suc v) d ≡ twos (suc v) d
    go true e =
        let q : 2 ^ suc v ≡ 2 ^ v * 2 = pow-suc 2 v in
        let a : d + d < 2 ^ suc v = ltb-true _ _ e in
        signed_low (2 ^ suc v) d a ∙ sym (twos_low v d (omega arith))
    go false e =
        let q : 2 ^ suc v ≡ 2 ^ v * 2 = pow-suc 2 v in
        let a : 2 ^ suc v ≤ d + d = ltb-false _ _ e in
        signed_high (2 ^ suc v) d a ∙ sym (twos_high v d (omega arith) k)

meant_is : (k : Kind) (w d : ℕ) → 1 ≤ w → d < 2 ^ w → to_num k w d ≡ meant k w d
unfolding to_num meant
meant_is plain w d h l = refl
meant_is signed w d h l = twos_is w d h l
meant_is (limited least most) w d h l = twos_is w d h l

bits_lt : (n hi lo : ℕ) → bits_of n hi lo < 2 ^ (suc hi - lo)
unfolding bits_of
bits_lt n hi lo = mod-lt (n / 2 ^ (lo - 1)) (pow_pos (suc hi - lo))

pub nums_runs : (n hi below : ℕ) (rs : List Run) → T (adjacent hi below rs) → nums (pieces_of rs) (run_bits n rs) ≡ numbers_of n rs
unfolding nums run_bits numbers_of
nums_runs n hi below [] h = refl
nums_runs n hi below (spares a b ∷ rs) h = nums_runs n (b - 1) below rs (others_adjacent hi below (spares a b) rs h)
nums_runs n hi below (number k a b s ∷ rs) h =
    let o : b ≤ a = first_order hi below (number k a b s) rs h in
    ap₂ ◌∷◌ (meant_is k (suc a - b) (bits_of n a b) (omega arith) (bits_lt n a b)) (nums_runs n (b - 1) below rs (others_adjacent hi below (number k a b s) rs h))

-- ---- spare bits and limits

module _ (n : ℕ) where
  pub clear_tested : (rs : List Run) → Clear n rs → T (clear (pieces_of rs) (run_bits n rs))
  unfolding Clear clear run_bits
  clear_tested [] q = tt
  clear_tested (spares a b ∷ rs) q = and_in (eqb (bits_of n a b) 0) _ (subst (λ x. T (eqb x 0)) (sym q.0) tt) (clear_tested rs q.1)
  clear_tested (number k a b s ∷ rs) q = clear_tested rs q

  pub tested_clear : (rs : List Run) → T (clear (pieces_of rs) (run_bits n rs)) → Clear n rs
  unfolding Clear clear run_bits
  tested_clear [] t = tt
  tested_clear (spares a b ∷ rs) t = (eqb→eq (bits_of n a b) 0 (and_l (eqb (bits_of n a b) 0) _ t), tested_clear rs (and_r (eqb (bits_of n a b) 0) _ t))
  tested_clear (number k a b s ∷ rs) t = tested_clear rs t

  inside-tested : (k : Kind) (z : ℤ) → Inside k z → T (limit k z)
  unfolding limit
  inside-tested plain z q = tt
  inside-tested signed z q = tt
  inside-tested (limited x y) z q = and_in (le_z x z) _ q.0 q.1

  tested-inside : (k : Kind) (z : ℤ) → T (limit k z) → Inside k z
  unfolding limit
  tested-inside plain z t = tt
  tested-inside signed z t = tt
  tested-inside (limited x y) z t = (and_l (le_z x z) _ t, and_r (le_z x z) _ t)

  pub within_tested : (rs : List Run) → Within n rs → T (in_limits (pieces_of rs) (numbers_of n rs))
  unfolding Within in_limits numbers_of
  within_tested [] q = tt
  within_tested (spares a b ∷ rs) q = within_tested rs q
  within_tested (number k a b s ∷ rs) q = and_in (limit k (value_of n k a b)) _ (inside-tested k (value_of n k a b) q.0) (within_tested rs q.1)

  pub tested_within : (rs : List Run) → T (in_limits (pieces_of rs) (numbers_of n rs)) → Within n rs
  unfolding Within in_limits numbers_of
  tested_within [] t = tt
  tested_within (spares a b ∷ rs) t = tested_within rs t
  tested_within (number k a b s ∷ rs) t =
      (tested-inside k (value_of n k a b) (and_l (limit k (value_of n k a b)) _ t), tested_within rs (and_r (limit k (value_of n k a b)) _ t))

-- ---- the octets as one number

pub join_big : (os : List ℕ) → join (eights (length os)) os ≡ big_endian os
unfolding join big_endian
join_big [] = refl
join_big (o ∷ os) = ap₂ (λ x y. o * 2 ^ x + y) (total-eights (length os)) (join_big os)

pub big_lt : (os : List ℕ) → Octets os → big_endian os < 2 ^ (8 * length os)
big_lt os o =
    subst (◌< 2 ^ (8 * length os)) (join_big os)
    (subst (λ x. join (eights (length os)) os < 2 ^ x) (total-eights (length os)) (join_lt (eights (length os)) os (octets_digits os o)))

-- ---- a line that was read passed every test

line_found {ℓ} : {X : Type ℓ} (l : Line) (xs : List ℕ) (v : Held) (n : ℕ) → (line l).read xs ≡ got v n
    → (l.octets ≤ length xs → clear l.pieces (digits_of l xs) ≡ true → in_limits l.pieces (nums l.pieces (digits_of l xs)) ≡ true
    → v ≡ (whole_of l xs % 2 ^ l.fx, nums l.pieces (digits_of l xs)) → n ≡ l.octets → X)
    → X
line_found {X = X} l xs v n e k = short (leb l.octets (length xs)) refl
  where
    limits : l.octets ≤ length xs → clear l.pieces (digits_of l xs) ≡ true → (b : Bool) → in_limits l.pieces (nums l.pieces (digits_of l xs)) ≡ b → X
    limits h c true q =
        let g : got v n ≡ got (whole_of l xs % 2 ^ l.fx, nums l.pieces (digits_of l xs)) l.octets = sym e ∙ line_there l xs h c q in
        let ev : v ≡ (whole_of l xs % 2 ^ l.fx, nums l.pieces (digits_of l xs)) = cc in
        let en : n ≡ l.octets = cc in
        k h c q ev en
    limits h c false q = bad≢got (sym (line_limit l xs h c q) ∙ e)

    spare_bits : l.octets ≤ length xs → (b : Bool) → clear l.pieces (digits_of l xs) ≡ b → X
    spare_bits h true q = limits h q (in_limits l.pieces (nums l.pieces (digits_of l xs))) refl
    spare_bits h false q = bad≢got (sym (line_spare l xs h q) ∙ e)

    short : (b : Bool) → leb l.octets (length xs) ≡ b → X
    short true q = spare_bits (leb-true l.octets (length xs) q) (clear l.pieces (digits_of l xs)) refl
    short false q = bad≢got (sym (line_short l xs (leb-false l.octets (length xs) q)) ∙ e)

-- ---- a line as printed is read exactly where it is one

pub record LineRead (fx : ℕ) (s : Structure) (xs : List ℕ) (v : Held) (n : ℕ) : Type 0 where
  pub within : n ≤ length xs
  pub is : IsLine s (take n xs) v.1
  pub below : v.0 ≡ big_endian (take n xs) % 2 ^ fx

module _ (fx flag : ℕ) (s : Structure) (h : T (adjacent (8 * s.octets) fx s.runs)) where
  -- the digits and the numbers of its octets
  module _ (os : List ℕ) (o : Octets os) (e : length os ≡ s.octets) where
    whole_is : join (eights s.octets) os ≡ big_endian os
    whole_is = ap (λ k. join (eights k) os) (sym e) ∙ join_big os

    pub digits_are : cut (widths (pieces_of s.runs)) (join (eights s.octets) os / 2 ^ fx) ≡ run_bits (big_endian os) s.runs
    digits_are =
        let lt : big_endian os < 2 ^ (8 * s.octets) = subst (λ k. big_endian os < 2 ^ (8 * k)) e (big_lt os o) in
        ap (λ x. cut (widths (pieces_of s.runs)) (x / 2 ^ fx)) (whole_is ∙ sym (mod-eq_of_lt lt)) ∙ cut_runs (big_endian os) (8 * s.octets) fx s.runs h

    pub numbers_are : nums (pieces_of s.runs) (cut (widths (pieces_of s.runs)) (join (eights s.octets) os / 2 ^ fx)) ≡ numbers_of (big_endian os) s.runs
    numbers_are = ap (nums (pieces_of s.runs)) digits_are ∙ nums_runs (big_endian os) (8 * s.octets) fx s.runs h

  pub line_is : (xs : List ℕ) → Octets xs → (v : Held) (n : ℕ) → (line (line_of fx flag s)).read xs ≡ got v n → LineRead fx s xs v n
  line_is xs o v n e =
      line_found (line_of fx flag s) xs v n e λ long c q ev en.
      let os : List ℕ = take s.octets xs in
      let oo : Octets os = octets_take s.octets xs o in
      let l : length os ≡ s.octets = length-take-le s.octets xs long in
      let c1 : T (clear (pieces_of s.runs) (run_bits (big_endian os) s.runs)) = subst (λ ds. T (clear (pieces_of s.runs) ds)) (digits_are os oo l) (subst T (sym c) tt) in
      let q1 : T (in_limits (pieces_of s.runs) (numbers_of (big_endian os) s.runs)) = subst (λ zs. T (in_limits (pieces_of s.runs) zs)) (numbers_are os oo l) (subst T (sym q) tt) in
      subst (λ m. LineRead fx s xs v m) (sym en) (record {
        within = long;
        is = record { long = l; clear = tested_clear (big_endian os) s.runs c1; within = tested_within (big_endian os) s.runs q1; numbers = ap (λ (x : Held). x.1) ev ∙ numbers_are os oo l };
        below = ap (λ (x : Held). x.0) ev ∙ ap (λ x. x % 2 ^ fx) (whole_is os oo l);
      })

  pub is_line : (os : List ℕ) → Octets os → (zs : List ℤ) → IsLine s os zs → (rest : List ℕ)
      → (line (line_of fx flag s)).read (os ++ rest) ≡ got (big_endian os % 2 ^ fx, zs) (length os)
  is_line os o zs i rest =
      let l : Line = line_of fx flag s in
      let e : take s.octets (os ++ rest) ≡ os = take_at os rest s.octets i.long in
      let long : s.octets ≤ length (os ++ rest) = subst (◌≤ length (os ++ rest)) i.long (rw length-append (omega arith)) in
      let d : digits_of l (os ++ rest) ≡ run_bits (big_endian os) s.runs = ap (λ x. cut (widths (pieces_of s.runs)) (join (eights s.octets) x / 2 ^ fx)) e ∙ digits_are os o i.long in
      let z : nums (pieces_of s.runs) (digits_of l (os ++ rest)) ≡ numbers_of (big_endian os) s.runs
      = ap (nums (pieces_of s.runs)) d ∙ nums_runs (big_endian os) (8 * s.octets) fx s.runs h in
      let w : whole_of l (os ++ rest) % 2 ^ fx ≡ big_endian os % 2 ^ fx = ap (λ x. join (eights s.octets) x % 2 ^ fx) e ∙ ap (λ x. x % 2 ^ fx) (whole_is os o i.long) in
      let c : clear l.pieces (digits_of l (os ++ rest)) ≡ true = ap (clear l.pieces) d ∙ holds _ (clear_tested (big_endian os) s.runs i.clear) in
      let q : in_limits l.pieces (nums l.pieces (digits_of l (os ++ rest))) ≡ true = ap (in_limits l.pieces) z ∙ holds _ (within_tested (big_endian os) s.runs i.within) in
      let f : nums l.pieces (digits_of l (os ++ rest)) ≡ zs = z ∙ sym i.numbers in
      line_there l (os ++ rest) long c q ∙ (λ j. got (w j, f j) (sym i.long j))
