-- The numbers of a line's pieces, as the code takes them from the line's octets as one number.
use Rattle.std.specs.Prelude.{◌≡◌, refl, true, List, [], ◌∷◌, ℕ, zero, suc, ◌+◌, ◌-◌, ◌^◌, ◌/◌, ◌%◌, ◌≤◌, ◌<◌, ℤ, pos, negsuc, length}
use Rattle.std.proofs.Common.{sym, ap, ap₂, ◌∙◌, arith, shr-shr}
use Rattle.std.proofs.Math.Pow.{field, mod-mod-pow}
use Rattle.codec.specs.Signed.{to_signed}
use Rattle.codec.specs.Radix.{total, cut}
use Rattle.codec.specs.Line.{Piece, spare, num, to_num, limit, widths, count, nums}
use Rattle.lengths.specs.Lines.{kind_of}
use Rattle.reader.specs.Numbers.{nums_at, inside}

-- ---- they are the numbers of the digits above FX

pub nums_at_lem : (ps : List Piece) (n fx : ℕ) → nums_at ps n (total (widths ps) + fx) ≡ nums ps (cut (widths ps) (n / 2 ^ fx % 2 ^ total (widths ps)))
unfolding nums_at nums cut widths total
nums_at_lem [] n fx = refl
nums_at_lem (spare w ∷ ps) n fx =
    let e : w + total (widths ps) + fx - w ≡ total (widths ps) + fx = omega arith in
    ap (nums_at ps n) e ∙ nums_at_lem ps n fx ∙ ap (λ m. nums ps (cut (widths ps) m)) (sym (mod-mod-pow (n / 2 ^ fx) w (total (widths ps))))
nums_at_lem (num k w ∷ ps) n fx =
    let t : ℕ = total (widths ps) in
    let e : w + t + fx - w ≡ fx + t = omega arith in
    let c : fx + t ≡ t + fx = omega arith in
    ap₂ ◌∷◌ (ap (λ m. to_num k w (n / 2 ^ m % 2 ^ w)) e ∙ ap (λ x. to_num k w (x % 2 ^ w)) (sym (shr-shr n fx t)) ∙ ap (to_num k w) (sym (field (n / 2 ^ fx) w t)))
    (ap (nums_at ps n) (e ∙ c) ∙ nums_at_lem ps n fx ∙ ap (λ m. nums ps (cut (widths ps) m)) (sym (mod-mod-pow (n / 2 ^ fx) w t)))

pub length-nums_at : (ps : List Piece) (n shift : ℕ) → length (nums_at ps n shift) ≡ count ps
unfolding nums_at count
length-nums_at [] n shift = refl
length-nums_at (spare w ∷ ps) n shift = length-nums_at ps n (shift - w)
length-nums_at (num k w ∷ ps) n shift = ap suc (length-nums_at ps n (shift - w))

-- ---- one number

-- how a number is read and limited goes by the code of its kind
pub plain_is : (k w d : ℕ) → k < 2 → pos d ≡ to_num (kind_of k) w d
unfolding kind_of to_num
plain_is zero w d h = refl
plain_is (suc zero) w d h = refl
plain_is (suc (suc k)) w d h = absurd (omega arith)

pub signed_is : (k w d : ℕ) → 2 ≤ k → to_signed (2 ^ w) d ≡ to_num (kind_of k) w d
unfolding kind_of to_num
signed_is zero w d h = absurd (omega arith)
signed_is (suc zero) w d h = absurd (omega arith)
signed_is (suc (suc zero)) w d h = refl
signed_is (suc (suc (suc zero))) w d h = refl
signed_is (suc (suc (suc (suc k)))) w d h = refl

pub limit_none : (k : ℕ) (z : ℤ) → k < 3 → true ≡ limit (kind_of k) z
unfolding kind_of limit
limit_none zero z h = refl
limit_none (suc zero) z h = refl
limit_none (suc (suc zero)) z h = refl
limit_none (suc (suc (suc k))) z h = absurd (omega arith)

pub limit_lat : (k : ℕ) (z : ℤ) → k ≡ 3 → inside (negsuc 4_194_303) (pos 4_194_304) z ≡ limit (kind_of k) z
unfolding kind_of limit
limit_lat k z e = rw e refl

pub limit_ga : (k : ℕ) (z : ℤ) → 3 ≤ k → (k ≡ 3 → ⊥) → inside (negsuc 39) (pos 8_191) z ≡ limit (kind_of k) z
unfolding kind_of limit
limit_ga zero z h x = absurd (omega arith)
limit_ga (suc zero) z h x = absurd (omega arith)
limit_ga (suc (suc zero)) z h x = absurd (omega arith)
limit_ga (suc (suc (suc zero))) z h x = absurd (x refl)
limit_ga (suc (suc (suc (suc k)))) z h x = refl

pub by_zero : {A : Type 0} (k : ℕ) → (k ≡ 0 → A) → ((k ≡ 0 → ⊥) → A) → A
by_zero zero f g = f refl
by_zero (suc k) f g = g (λ e. omega (arith, e))
