-- The digits of a line's pieces, as the code takes them from the slots of the record, and as one number.
use Rattle.std.specs.Prelude.{◌≡◌, Bool, List, [], ◌∷◌, T, ltb, ℤ, pos, negsuc}
use Rattle.std.proofs.Math.Path.{refl, sym, ap, ap₂}
use Rattle.std.proofs.Common.{◌∙◌, subst, mod-lt, mod-eq_of_lt, ltb→lt, lt→ltb, pow_pos, eqb-true}
use Rattle.std.proofs.Math.Bool.{true, false}
use Prim.Native.Nat.{ℕ, suc, ◌+◌, ◌-◌, ◌*◌, ◌^◌, ◌/◌, ◌%◌, ◌≤◌, ◌<◌}
use native.Mathlib.Omega.{arith}
use Rattle.std.proofs.Math.Dec.{eqb}
use Rattle.std.proofs.lemmas.Bool.{eqb-false}
use Rattle.codec.specs.Signed.{of_signed, in_signed}
use Rattle.codec.specs.Radix.{total, join, digits}
use Rattle.codec.specs.Line.{Kind, plain, signed, limited, Piece, spare, num, of_num, in_num, widths, unnums, fit_nums}
use Rattle.codec.proofs.Laws.Tests.{and_in, and_l, and_r}
use Rattle.codec.proofs.Laws.Radix.{join_lt}
use Rattle.layout.specs.Record.{number_at}
use Rattle.layout.specs.Laws.Slots.{Holds, holds_drop}
use Rattle.lengths.specs.Lines.{pieces_from}
use Rattle.lengths.specs.Laws.Formats.{more_spare, more_num}
use Rattle.writer.specs.Digits.{low_bits, digits_at, gathered}

pub low_lt : (w : ℕ) (z : ℤ) → low_bits w z < 2 ^ w
unfolding low_bits
low_lt w (pos n) = mod-lt n (pow_pos w)
low_lt w (negsuc n) = omega (arith, pow_pos w)

-- of a number that fits they are its digit
low_signed : (w : ℕ) (z : ℤ) → T (in_signed (2 ^ w) z) → low_bits w z ≡ of_signed (2 ^ w) z
unfolding low_bits in_signed of_signed
low_signed w (pos n) t =
    let h : n + n < 2 ^ w = ltb→lt (n + n) (2 ^ w) t in
    mod-eq_of_lt (omega arith)
low_signed w (negsuc n) t =
    let h : suc (n + n) < 2 ^ w = ltb→lt (suc (n + n)) (2 ^ w) t in
    let e : n % 2 ^ w ≡ n = mod-eq_of_lt (omega arith) in
    ap (2 ^ w - 1 -◌) e ∙ omega arith

low_of : (k : Kind) (w : ℕ) (z : ℤ) → T (in_num k w z) → low_bits w z ≡ of_num k w z
unfolding low_bits in_num of_num
low_of plain w (pos n) t = mod-eq_of_lt (ltb→lt n (2 ^ w) t)
low_of plain w (negsuc n) t = absurd t
low_of signed w z t = low_signed w z t
low_of (limited lo hi) w z t = low_signed w z t

digits_at_lem : (ps : List Piece) (l : List ℤ) (slot : ℕ) → T (digits (widths ps) (digits_at ps l slot))
unfolding digits widths digits_at
digits_at_lem [] l slot = tt
digits_at_lem (spare w ∷ ps) l slot = and_in (ltb 0 (2 ^ w)) _ (lt→ltb 0 (2 ^ w) (pow_pos w)) (digits_at_lem ps l slot)
digits_at_lem (num k w ∷ ps) l slot =
    let z : ℤ = number_at l slot in
    and_in (ltb (low_bits w z) (2 ^ w)) _ (lt→ltb (low_bits w z) (2 ^ w) (low_lt w z)) (digits_at_lem ps l (slot + 1))

-- of numbers that fit they are the ones that the codec writes
pub digits_are : (ps : List Piece) (l : List ℤ) (slot : ℕ) (zs : List ℤ) → Holds l slot zs → T (fit_nums ps zs) → digits_at ps l slot ≡ unnums ps zs
unfolding digits_at unnums fit_nums
digits_are [] l slot [] h t = refl
digits_are [] l slot (z ∷ zs) h t = absurd t
digits_are (spare w ∷ ps) l slot zs h t = ap (0 ∷◌) (digits_are ps l slot zs h t)
digits_are (num k w ∷ ps) l slot [] h t = absurd t
digits_are (num k w ∷ ps) l slot (z ∷ zs) h t =
    let e : slot + 0 ≡ slot = omega arith in
    let first : number_at l slot ≡ z = ap (number_at l) (sym e) ∙ h.number 0 (omega arith) in
    ap₂ ◌∷◌ (ap (low_bits w) first ∙ low_of k w z (and_l (in_num k w z) _ t))
    (digits_are ps l (slot + 1) zs (holds_drop {zs = z ∷ zs} 1 refl h) (and_r (in_num k w z) _ t))

pub gathered_lt : (ps : List Piece) (l : List ℤ) (slot : ℕ) → gathered ps l slot < 2 ^ total (widths ps)
unfolding gathered
gathered_lt ps l slot = join_lt (widths ps) (digits_at ps l slot) (digits_at_lem ps l slot)

pub gathered_are : (ps : List Piece) (l : List ℤ) (slot : ℕ) (zs : List ℤ) → Holds l slot zs → T (fit_nums ps zs) → gathered ps l slot ≡ join (widths ps) (unnums ps zs)
unfolding gathered
gathered_are ps l slot zs h t = ap (join (widths ps)) (digits_are ps l slot zs h t)

-- ---- the ways out of `gather`

pub gather_none : (code left : ℕ) (l : List ℤ) (slot : ℕ) → left ≡ 0 → 0 ≡ gathered (pieces_from left code) l slot
unfolding gathered pieces_from digits_at widths join
gather_none code left l slot e = rw e

-- the first piece has w bits, and qs are the pieces behind it
module _ (code left : ℕ) (some : left ≡ 0 → ⊥) (l : List ℤ) (slot : ℕ) {bits : ℕ} (eb : bits ≡ total (widths (pieces_from left code))) where
  abbrev w : ℕ
  w = code % 256 % 32

  abbrev qs : List Piece
  qs = pieces_from (left - 1) (code / 256)

  pub first_bits : (w ≤ bits) × (bits - w ≡ total (widths qs))
  unfolding widths total
  first_bits = go (eqb (code % 256 / 32) 0) refl
    where
      go : (b : Bool) → eqb (code % 256 / 32) 0 ≡ b → (w ≤ bits) × (bits - w ≡ total (widths qs))
      go true e =
          let f : bits ≡ w + total (widths qs) = eb ∙ ap (λ ps. total (widths ps)) (more_spare code left some (eqb-true (code % 256 / 32) 0 e)) in
          (omega arith, omega arith)
      go false e =
          let f : bits ≡ w + total (widths qs) = eb ∙ ap (λ ps. total (widths ps)) (more_num code left some (eqb-false (code % 256 / 32) 0 e)) in
          (omega arith, omega arith)

  pub gather_spare : code % 256 / 32 ≡ 0 → {r : ℕ} → r ≡ gathered qs l slot → r ≡ gathered (pieces_from left code) l slot
  unfolding gathered widths digits_at join
  gather_spare z er =
      let e : join (widths qs) (digits_at qs l slot) ≡ 0 * 2 ^ total (widths qs) + join (widths qs) (digits_at qs l slot) = omega arith in
      er ∙ e ∙ sym (ap (λ ps. gathered ps l slot) (more_spare code left some z))

  module _ (z : code % 256 / 32 ≡ 0 → ⊥) {d p : ℕ} (ed : d ≡ low_bits w (number_at l slot)) (ef : p ≡ 2 ^ (bits - w)) where
    pub gather_on : {r after : ℕ} → after ≡ slot + 1 → r ≡ gathered qs l after → d * p + r ≡ gathered (pieces_from left code) l slot
    unfolding gathered widths digits_at join
    gather_on ea er =
        ap₂ ◌+◌ (ap₂ ◌*◌ ed (ef ∙ ap (2 ^◌) first_bits.1)) (er ∙ ap (gathered qs l) ea) ∙ sym (ap (λ ps. gathered ps l slot) (more_num code left some z))

    -- nothing runs over
    pub gather_sum : {r after : ℕ} → after ≡ slot + 1 → r ≡ gathered qs l after → d * p + r < 2 ^ bits
    gather_sum ea er =
        subst (λ x. x < 2 ^ bits) (sym (gather_on ea er)) (subst (λ n. gathered (pieces_from left code) l slot < 2 ^ n) (sym eb) (gathered_lt (pieces_from left code) l slot))

    pub gather_product : d * p < 2 ^ bits
    gather_product = let s : d * p + gathered qs l (slot + 1) < 2 ^ bits = gather_sum refl refl in omega arith
