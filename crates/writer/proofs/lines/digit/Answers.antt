-- `writer::lines::digit` meets its contract: below zero, two's complement counts down from the width. Assumes nothing.
use Rattle.std.proofs.Common.{◌≡◌, refl, sym, ap, ◌∙◌, arith, ℕ, suc, ◌+◌, ◌-◌, ◌*◌, ◌/◌, ◌%◌, ◌^◌, ◌<◌, ◌≤◌}
use Rattle.std.proofs.Math.Nat.{mod-lt, mul-sub, mul_comm, mul-le-mul_left, div-add-mod, div-lt_iff_lt-mul}
use Rattle.std.proofs.lemmas.Nat.{mod-mul-add}
use lib.IntN.{ℤ, pos, negsuc}
use lib.Pow.{pow_pos, pow-add}
use mir.Syntax.{w32}
use mir.Val.{SFits, of_z}
use mir.Facts.{to_z-of_z}
use Rattle.writer.specs.Digits.{low_bits}
use Rattle.writer.proofs.lines.digit.Goals as goal

complement : (w n : ℕ) → w < 32 → n < 2_147_483_648 → (4_294_967_295 - n) % 2 ^ w ≡ 2 ^ w - 1 - n % 2 ^ w
complement w n h k =
    let p : ℕ = 2 ^ w in
    let q : ℕ = 2 ^ (32 - w) in
    let d : ℕ = n / p in
    let some : 0 < p = pow_pos w in
    let less : n % p < p = mod-lt n some in
    let whole : p * q ≡ 4_294_967_296 = sym (pow-add 2 w (32 - w)) ∙ ap (2 ^◌) (let z : w + (32 - w) ≡ 32 = omega arith in z) in
    let parts : p * d + n % p ≡ n = div-add-mod n p in
    let below : d < q = (div-lt_iff_lt-mul some).1 (omega (arith, mul_comm p q)) in
    let room : p * (d + 1) ≤ p * q = mul-le-mul_left p (omega arith) in
    let one : p * (q - (d + 1)) ≡ p * q - p * (d + 1) = mul-sub p q (d + 1) in
    let next : p * (d + 1) ≡ p * d + p = omega arith in
    let e : 4_294_967_295 - n ≡ (q - (d + 1)) * p + (p - 1 - n % p) = omega (arith, mul_comm p (q - (d + 1))) in
    ap (λ x. x % p) e ∙ mod-mul-add (q - (d + 1)) p (p - 1 - n % p) (omega arith)

low : (w : ℕ) (z : ℤ) → w < 32 → SFits w32 z → of_z w32 z % 2 ^ w ≡ low_bits w z
unfolding low_bits
low w (pos n) h f = refl
low w (negsuc n) h f =
    let e : 4_294_967_296 - suc n ≡ 4_294_967_295 - n = omega arith in
    ap (λ x. x % 2 ^ w) e ∙ complement w n h f.sfits

pub returns : goal.returns
returns c =
    let f = c.ranges.z in
    rw (c.from.ensures, c.cast_unsigned.ensures, to_z-of_z f, c.power.ensures) (low c.args.w c.args.z c.requires f)
