-- The marks: what an octet that is one means, and that no other is.
use Rattle.std.specs.Prelude.{◌≡◌, refl, Bool, true, false, ◌&&◌, ℕ, T, ltb}
use Rattle.std.proofs.Common.{sym, ap, arith, ltb-true}
use Rattle.codec.proofs.Laws.Tests.{holds}
use Rattle.sheet.specs.Keys.{mark_is, meant, slots_in}
use Rattle.sheet.specs.declared.numbers.Mark.{Mark}
use Rattle.sheet.specs.declared.numbers.Mark.TheVariants.{Position, Altitude, Offset, Pressure, Hidden, Alone}
use Rattle.sheet.specs.Marks.{octet_of, Alike}
use Rattle.sheet.specs.Laws.Numbers.{slots_one as one_of_octet}

alike_same : {o : ℕ} (m : ℕ) → o ≡ m → Alike m o
alike_same m e = record { keys = λ w. ap (λ x. meant x w) (sym e); slots = ap slots_in (sym e) }

pub mark_as : {o : ℕ} (m : ℕ) → o ≡ m → T (mark_is m) → (mark_is o ≡ true) × Alike m o
mark_as m e t = (rw e (holds (mark_is m) t), alike_same m e)

-- 59 and 61 mean one number alike
pub mark_alone : {o : ℕ} → o ≡ 59 → (mark_is o ≡ true) × Alike 61 o
unfolding mark_is meant slots_in
mark_alone e = rw e (refl, record { keys = λ w. refl; slots = refl })

-- of the six marks; any other octet stands for one number too
pub slots_one : (m : Mark) → (m ≡ Position → ⊥) → (m ≡ Altitude → ⊥) → 1 ≡ slots_in (octet_of m)
slots_one Position p a = absurd (p refl)
slots_one Altitude p a = absurd (a refl)
slots_one Offset p a = one_of_octet 60 (λ e. omega arith) (λ e. omega arith)
slots_one Pressure p a = one_of_octet 63 (λ e. omega arith) (λ e. omega arith)
slots_one Hidden p a = one_of_octet 58 (λ e. omega arith) (λ e. omega arith)
slots_one Alone p a = one_of_octet 61 (λ e. omega arith) (λ e. omega arith)

pub not_mark : (o : ℕ) → (o ≡ 58 → ⊥) → (o ≡ 59 → ⊥) → (o ≡ 60 → ⊥) → (o ≡ 61 → ⊥) → (o ≡ 62 → ⊥) → (o ≡ 63 → ⊥) → (o ≡ 64 → ⊥) → mark_is o ≡ false
unfolding mark_is
not_mark o a b c d e f g = go (ltb 57 o) refl (ltb o 65) refl
  where
    go : (x : Bool) → ltb 57 o ≡ x → (y : Bool) → ltb o 65 ≡ y → x && y ≡ false
    go true ex true ey = absurd (omega (arith, ltb-true 57 o ex, ltb-true o 65 ey, a, b, c, d, e, f, g))
    go true ex false ey = refl
    go false ex y ey = refl
