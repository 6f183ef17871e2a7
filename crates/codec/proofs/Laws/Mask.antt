-- The spare test of a line is one test by its mask, and that is the paper's.
use Rattle.std.specs.Prelude.{◌≡◌, refl, Bool, true, false, ◌&&◌, ℕ, zero, suc, ◌+◌, ◌-◌, ◌*◌, ◌^◌, ◌/◌, ◌%◌, ◌≤◌, ◌<◌, T}
use Rattle.std.proofs.Common.{sym, ap₂, ◌∙◌, subst, zero-mul, mul_comm, mul-one, mul_assoc, add-mul, mod-lt, mod-eq_of_lt, arith, pow_pos, pow-add, shr_lt}
use Rattle.std.proofs.Math.Path.{ap}
use mathlib.Core.List.{List, [], ◌∷◌}
use Rattle.std.proofs.Math.Nat.{mul-sub}
use Rattle.std.proofs.Math.Dec.{eqb, eqb-suc-zero}
use Rattle.std.proofs.Math.Pow.{split, ones_lt}
use Rattle.std.proofs.Math.Arith.{digits_lt}
use Rattle.std.specs.Int.Bits.{bit_and, and_zero_r}
use Rattle.std.proofs.lemmas.Nat.{and_block, and_mask}
use Rattle.codec.specs.Radix.{total, cut}
use Rattle.codec.specs.Line.{Piece, Line, spare, num, widths, clear}
use Rattle.codec.specs.Printed.{Run, spares, number, Structure, adjacent}
use Rattle.codec.specs.Made.{pieces_of, line_of}
use Rattle.codec.specs.Meaning.{Clear}
use Rattle.codec.proofs.Laws.Tests.{holds}
use Rattle.codec.proofs.Laws.Printed.{first_order, first_above, others_adjacent, total_runs, run_bits, cut_runs, clear_tested, tested_clear}
use Rattle.codec.specs.Mask.{spares_of, mask_of, spare_mask}

mask_lt : (ps : List Piece) → mask_of ps < 2 ^ total (widths ps)
unfolding mask_of total widths
mask_lt [] = omega arith
mask_lt (spare w ∷ ps) = rw (pow-add 2 w (total (widths ps))) (digits_lt (ones_lt w) (mask_lt ps))
mask_lt (num k w ∷ ps) =
    let h : mask_of ps < 2 ^ total (widths ps) = mask_lt ps in
    let e : 0 * 2 ^ total (widths ps) + mask_of ps ≡ mask_of ps = omega arith in
    rw (pow-add 2 w (total (widths ps)), ← e) (digits_lt (pow_pos w) h)

-- a sum is 0 if both parts are
eqb-sum : (a p b : ℕ) → 0 < p → eqb (a * p + b) 0 ≡ eqb a 0 && eqb b 0
eqb-sum zero p b h = let e : 0 * p + b ≡ b = omega arith in ap (λ x. eqb x 0) e
eqb-sum (suc a) zero b h = absurd (omega arith)
eqb-sum (suc a) (suc p) b h = ap (λ x. eqb x 0) e ∙ eqb-suc-zero (a * suc p + p + b) ∙ sym (ap (λ x. x && eqb b 0) (eqb-suc-zero a))
  where
    e : suc a * suc p + b ≡ suc (a * suc p + p + b)
    e = omega arith

mask_step : (n k m r : ℕ) → r < 2 ^ k → eqb (bit_and n (m * 2 ^ k + r)) 0 ≡ eqb (bit_and (n / 2 ^ k) m) 0 && eqb (bit_and (n % 2 ^ k) r) 0
mask_step n k m r h =
    ap (λ x. eqb (bit_and x (m * 2 ^ k + r)) 0) (sym (split n k)) ∙ ap (λ x. eqb x 0) (and_block k (n / 2 ^ k) m (n % 2 ^ k) r (mod-lt n (pow_pos k)) h)
    ∙ eqb-sum (bit_and (n / 2 ^ k) m) (2 ^ k) (bit_and (n % 2 ^ k) r) (pow_pos k)

-- one test by the mask is the test of every spare piece
mask_clear : (ps : List Piece) (n : ℕ) → n < 2 ^ total (widths ps) → eqb (bit_and n (mask_of ps)) 0 ≡ clear ps (cut (widths ps) n)
unfolding mask_of clear cut widths total
mask_clear [] n h = ap (λ x. eqb x 0) (and_zero_r n)
mask_clear (spare w ∷ ps) n h =
    let k : ℕ = total (widths ps) in
    mask_step n k (2 ^ w - 1) (mask_of ps) (mask_lt ps)
    ∙ ap₂ ◌&&◌ (ap (λ x. eqb x 0) (and_mask (n / 2 ^ k) w ∙ mod-eq_of_lt (shr_lt w k h))) (mask_clear ps (n % 2 ^ k) (mod-lt n (pow_pos k)))
mask_clear (num _ w ∷ ps) n h =
    let k : ℕ = total (widths ps) in
    let e : mask_of ps ≡ 0 * 2 ^ k + mask_of ps = omega arith in
    ap (λ x. eqb (bit_and n x) 0) e ∙ mask_step n k 0 (mask_of ps) (mask_lt ps)
    ∙ ap₂ ◌&&◌ (ap (λ x. eqb x 0) (and_zero_r (n / 2 ^ k))) (mask_clear ps (n % 2 ^ k) (mod-lt n (pow_pos k)))

-- the mask of a line stands above its FX bit
pub spare_test : (l : Line) (n : ℕ) → n / 2 ^ l.fx < 2 ^ total (widths l.pieces) → eqb (bit_and n (spare_mask l)) 0 ≡ clear l.pieces (cut (widths l.pieces) (n / 2 ^ l.fx))
unfolding spare_mask
spare_test l n h =
    let e : mask_of l.pieces * 2 ^ l.fx ≡ mask_of l.pieces * 2 ^ l.fx + 0 = omega arith in
    ap (λ x. eqb (bit_and n x) 0) e ∙ mask_step n l.fx (mask_of l.pieces) 0 (pow_pos l.fx)
    ∙ ap₂ ◌&&◌ (mask_clear l.pieces (n / 2 ^ l.fx) h) (ap (λ x. eqb x 0) (and_zero_r (n % 2 ^ l.fx)))
    ∙ and_true (clear l.pieces (cut (widths l.pieces) (n / 2 ^ l.fx)))
  where
    and_true : (b : Bool) → b && true ≡ b
    and_true true = refl
    and_true false = refl

-- ---- in the papers' words

less_one : (a p : ℕ) → (a - 1) * p ≡ a * p - p
less_one a p = mul_comm (a - 1) p ∙ mul-sub p a 1 ∙ ap₂ ◌-◌ (mul_comm p a) (mul-one p)

-- the mask of the pieces, above the bits below them, is the bits that the runs call spare
pub printed_mask : (hi below : ℕ) (rs : List Run) → T (adjacent hi below rs) → mask_of (pieces_of rs) * 2 ^ below ≡ spares_of rs
unfolding mask_of spares_of
printed_mask hi below [] h = zero-mul (2 ^ below)
printed_mask hi below (number k a b q ∷ rs) h = printed_mask (b - 1) below rs (others_adjacent hi below (number k a b q) rs h)
printed_mask hi below (spares a b ∷ rs) h =
    let others : T (adjacent (b - 1) below rs) = others_adjacent hi below (spares a b) rs h in
    let t : ℕ = total (widths (pieces_of rs)) in
    let w : ℕ = suc a - b in
    let o : b ≤ a = first_order hi below (spares a b) rs h in
    let u : below < b = first_above hi below (spares a b) rs h in
    let e : a ≡ w + (b - 1) = omega arith in
    let high : 2 ^ a ≡ 2 ^ w * 2 ^ (b - 1) = ap (2 ^◌) e ∙ pow-add 2 w (b - 1) in
    let low : 2 ^ t * 2 ^ below ≡ 2 ^ (b - 1) = sym (pow-add 2 t below) ∙ ap (2 ^◌) (total_runs (b - 1) below rs others) in
    add-mul ((2 ^ w - 1) * 2 ^ t) (mask_of (pieces_of rs)) (2 ^ below)
    ∙ ap₂ ◌+◌ (mul_assoc (2 ^ w - 1) (2 ^ t) (2 ^ below) ∙ ap ((2 ^ w - 1) *◌) low ∙ less_one (2 ^ w) (2 ^ (b - 1)) ∙ ap (◌- 2 ^ (b - 1)) (sym high))
    (printed_mask (b - 1) below rs others)

-- so one test by the mask is the paper's: every bit that it calls spare is 0
module _ (fx : ℕ) (s : Structure) (h : T (adjacent (8 * s.octets) fx s.runs)) (n : ℕ) (lt : n < 2 ^ (8 * s.octets)) where
  mask_tests : eqb (bit_and n (spares_of s.runs)) 0 ≡ clear (pieces_of s.runs) (run_bits n s.runs)
  unfolding spare_mask
  mask_tests =
      let ps : List Piece = pieces_of s.runs in
      let e : total (widths ps) + fx ≡ 8 * s.octets = total_runs (8 * s.octets) fx s.runs h in
      ap (λ m. eqb (bit_and n m) 0) (sym (printed_mask (8 * s.octets) fx s.runs h))
      ∙ spare_test (line_of fx 0 s) n (shr_lt (total (widths ps)) fx (subst (λ k. n < 2 ^ k) (sym e) lt))
      ∙ ap (λ x. clear ps (cut (widths ps) (x / 2 ^ fx))) (sym (mod-eq_of_lt lt))
      ∙ ap (clear ps) (cut_runs n (8 * s.octets) fx s.runs h)

  pub mask_clears : eqb (bit_and n (spares_of s.runs)) 0 ≡ true → Clear n s.runs
  mask_clears e = tested_clear n s.runs (subst T (sym (sym mask_tests ∙ e)) tt)

  pub clear_masks : Clear n s.runs → eqb (bit_and n (spares_of s.runs)) 0 ≡ true
  clear_masks q = mask_tests ∙ holds _ (clear_tested n s.runs q)
