-- Mixed radix: cutting and joining undo each other, over any widths.
use Rattle.std.specs.Prelude.{◌≡◌, refl, List, [], ◌∷◌, ℕ, zero, suc, ◌+◌, ◌*◌, ◌^◌, ◌/◌, ◌%◌, ◌<◌, T, ltb, length, get_or, take, set, replicate}
use Rattle.std.proofs.Common.{sym, ap, ap₂, ◌∙◌, subst, mod-lt, not-suc-le-zero, le_of_suc-le-suc, arith, ltb→lt, lt→ltb, pow_pos, pow-add, shr_lt}
use Rattle.std.proofs.Math.Pow.{split, high, low}
use Rattle.std.proofs.Math.Arith.{digits_lt, lt-one}
use Rattle.codec.specs.Radix.{total, cut, join, digits, eights}
use Rattle.codec.proofs.Laws.Tests.{and_in, and_l, and_r}

pub join_lt : (ws ds : List ℕ) → T (digits ws ds) → join ws ds < 2 ^ total ws
unfolding digits join total
join_lt [] [] t = omega arith
join_lt [] (d ∷ ds) t = absurd t
join_lt (w ∷ ws) [] t = absurd t
join_lt (w ∷ ws) (d ∷ ds) t =
    rw (pow-add 2 w (total ws))
    (digits_lt (ltb→lt d (2 ^ w) (and_l (ltb d (2 ^ w)) _ t)) (join_lt ws ds (and_r (ltb d (2 ^ w)) _ t)))

pub cut-join : (ws ds : List ℕ) → T (digits ws ds) → cut ws (join ws ds) ≡ ds
unfolding digits join cut
cut-join [] [] t = refl
cut-join [] (d ∷ ds) t = absurd t
cut-join (w ∷ ws) [] t = absurd t
cut-join (w ∷ ws) (d ∷ ds) t =
    let h : T (digits ws ds) = and_r (ltb d (2 ^ w)) _ t in
    let k : join ws ds < 2 ^ total ws = join_lt ws ds h in
    ap₂ ◌∷◌ (high d (total ws) k) (ap (cut ws) (low d (total ws) k) ∙ cut-join ws ds h)

pub join-cut : (ws : List ℕ) (n : ℕ) → n < 2 ^ total ws → join ws (cut ws n) ≡ n
unfolding join cut total
join-cut [] n h = sym (lt-one h)
join-cut (w ∷ ws) n h = rw (join-cut ws (n % 2 ^ total ws) (mod-lt n (pow_pos (total ws)))) (split n (total ws))

pub cut-digits : (ws : List ℕ) (n : ℕ) → n < 2 ^ total ws → T (digits ws (cut ws n))
unfolding digits cut total
cut-digits [] n h = tt
cut-digits (w ∷ ws) n h =
    and_in (ltb (n / 2 ^ total ws) (2 ^ w)) _ (lt→ltb _ _ (shr_lt w (total ws) h))
    (cut-digits ws (n % 2 ^ total ws) (mod-lt n (pow_pos (total ws))))

pub length_cut : (ws : List ℕ) (n : ℕ) → length (cut ws n) ≡ length ws
unfolding cut
length_cut [] n = refl
length_cut (w ∷ ws) n = ap suc (length_cut ws _)

-- one octet is its own digit
pub cut_one : (n : ℕ) → cut (8 ∷ []) n ≡ n ∷ []
unfolding cut total
cut_one n = ap (◌∷ []) (omega arith)

-- one digit exchanged for another of its width w
pub digits-set : (ws ds : List ℕ) (i d w : ℕ) → T (digits ws ds) → get_or ws i 0 ≡ w → i < length ws → d < 2 ^ w → T (digits ws (set ds i d))
unfolding digits
digits-set [] ds i d w t e b h = absurd (not-suc-le-zero b)
digits-set (u ∷ ws) [] i d w t e b h = absurd t
digits-set (u ∷ ws) (x ∷ ds) zero d w t e b h =
    and_in (ltb d (2 ^ u)) _ (lt→ltb d (2 ^ u) (subst (λ m. d < 2 ^ m) (sym e) h)) (and_r (ltb x (2 ^ u)) _ t)
digits-set (u ∷ ws) (x ∷ ds) (suc i) d w t e b h =
    and_in (ltb x (2 ^ u)) _ (and_l (ltb x (2 ^ u)) _ t) (digits-set ws ds i d w (and_r (ltb x (2 ^ u)) _ t) e (le_of_suc-le-suc b) h)

-- a digit of one bit is 0 or 1
pub digit_bit : (k : ℕ) (ds : List ℕ) (i : ℕ) → T (digits (replicate k 1) ds) → get_or ds i 0 < 2
unfolding digits
digit_bit zero [] i t = omega arith
digit_bit zero (d ∷ ds) i t = absurd t
digit_bit (suc k) [] i t = absurd t
digit_bit (suc k) (d ∷ ds) zero t = ltb→lt d 2 (and_l (ltb d 2) _ t)
digit_bit (suc k) (d ∷ ds) (suc i) t = digit_bit k ds i (and_r (ltb d 2) _ t)

pub total-eights : (k : ℕ) → total (eights k) ≡ 8 * k
unfolding total
total-eights zero = refl
total-eights (suc k) = ap (8 +◌) (total-eights k) ∙ omega arith

-- one octet more
pub join-take : (xs : List ℕ) (i : ℕ) → i < length xs → join (eights (suc i)) (take (suc i) xs) ≡ join (eights i) (take i xs) * 256 + get_or xs i 0
unfolding join total
join-take [] i h = absurd (not-suc-le-zero h)
join-take (x ∷ xs) zero h = omega arith
join-take (x ∷ xs) (suc i) h =
    let e : 2 ^ (8 + total (eights i)) ≡ 256 * 2 ^ total (eights i) = pow-add 2 8 (total (eights i)) in
    let ih : join (eights (suc i)) (take (suc i) xs) ≡ join (eights i) (take i xs) * 256 + get_or xs i 0 = join-take xs i (le_of_suc-le-suc h) in
    rw (ih, e) (omega arith)
