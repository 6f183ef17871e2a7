-- `taken::piece` meets its contract: the numbers of each kind lie between two ends. Assumes nothing.
use mathlib.Core.Path.{◌≡◌, refl, ap, ◌∙◌, subst}
use Prim.Native.Nat.{ℕ, zero, suc, ◌-◌, ◌^◌, ◌≤◌, ◌<◌}
use native.Mathlib.Omega.{arith}
use borrow.Author.Rules.{sfits_of}
use lib.Dec.{T, leb→le}
use lib.IntN.{ℤ, pos, negsuc}
use mir.Facts.{to_z-of_z}
use mir.Syntax.{w32}
use mir.Val.{to_z, of_z}
use Rattle.codec.specs.Line.{plain, signed, limited}
use Rattle.lengths.specs.Lines.{kind_of}
use Rattle.longest.proofs.Laws.Ranges.{lowest, highest}
use Rattle.walk.specs.Ranges.{ends_right}
use Rattle.taken.specs.Laws.Numbers.{top_most, half_top, piece_between}
use Rattle.taken.proofs.piece.Goals as goal

-- not n
flipped : (z : ℤ) (n : ℕ) → z ≡ pos n → n < 2147483648 → to_z w32 (4294967295 - of_z w32 z) ≡ negsuc n
flipped z n e h =
    let f : 4294967295 - n ≡ 4294967296 - suc n = omega arith in
    ap (λ x. to_z w32 (4294967295 - of_z w32 x)) e ∙ ap (to_z w32) f ∙ to_z-of_z {w = w32} {z = negsuc n} (record { sfits = h })

kind_plain : (kind : ℕ) → kind < 2 → kind_of kind ≡ plain
unfolding kind_of
kind_plain zero h = refl
kind_plain (suc zero) h = refl
kind_plain (suc (suc k)) h = absurd (omega arith)

some_bits : (kind w : ℕ) → kind ≡ 2 → T (ends_right (kind_of kind) w) → 1 ≤ w
unfolding ends_right kind_of
some_bits kind w e h = leb→le 1 w (subst (λ k. T (ends_right (kind_of k) w)) e h)

kind_last : (kind : ℕ) → 2 ≤ kind → (kind ≡ 2 → ⊥) → (kind ≡ 3 → ⊥) → kind_of kind ≡ limited (negsuc 39) (pos 8191)
unfolding kind_of
kind_last zero h a b = absurd (omega arith)
kind_last (suc zero) h a b = absurd (omega arith)
kind_last (suc (suc zero)) h a b = absurd (a refl)
kind_last (suc (suc (suc zero))) h a b = absurd (b refl)
kind_last (suc (suc (suc (suc k)))) h a b = refl

pub returns-then-kind-lt2 : goal.returns-then-kind-lt2
unfolding lowest highest
returns-then-kind-lt2 c =
    let a = c.args in
    let ft = sfits_of {w = w32} {z = c.top.result} c.top.type_inv in
    rw (to_z-of_z (sfits_of {w = w32} {z = c.ranged.result} c.ranged.type_inv))
    (piece_between a.kind a.w a.t.now plain (kind_plain a.kind c.if-kind-lt2.true) c.requires.0 c.requires.1 refl c.top.ensures (rw (to_z-of_z ft) at c.ranged.ensures))

pub overflow_sub-w : goal.overflow_sub-w
overflow_sub-w c =
    some_bits c.args.kind c.args.w c.if-kind-eq2.true c.requires.1

pub returns-then-kind-eq2 : goal.returns-then-kind-eq2
unfolding lowest highest kind_of
returns-then-kind-eq2 c =
    let a = c.args in
    let w = a.w in
    let one : 1 ≤ w = some_bits a.kind w c.if-kind-eq2.true c.requires.1 in
    let ft = sfits_of {w = w32} {z = c.top-high.result} c.top-high.type_inv in
    let few : 2 ^ (w - 1) - 1 < 2147483648 = omega (arith, top_most (w - 1) (omega (arith, c.requires.0))) in
    rw (to_z-of_z (sfits_of {w = w32} {z = c.ranged-then-kind-eq2.result} c.ranged-then-kind-eq2.type_inv))
    (piece_between a.kind w a.t.now signed (ap kind_of c.if-kind-eq2.true) c.requires.0 c.requires.1 (flipped c.top-high.result (2 ^ (w - 1) - 1) c.top-high.ensures few ∙ ap negsuc (half_top w one)) (c.top-high.ensures ∙ ap pos (half_top w one)) (rw (to_z-of_z ft) at c.ranged-then-kind-eq2.ensures))

pub returns-then-kind-eq3 : goal.returns-then-kind-eq3
unfolding lowest highest kind_of
returns-then-kind-eq3 c =
    let a = c.args in
    rw (to_z-of_z (sfits_of {w = w32} {z = c.ranged-then-kind-eq3.result} c.ranged-then-kind-eq3.type_inv))
    (piece_between a.kind a.w a.t.now (limited (negsuc 4194303) (pos 4194304)) (ap kind_of c.if-kind-eq3.true) c.requires.0 c.requires.1 refl refl c.ranged-then-kind-eq3.ensures)

pub returns : goal.returns
unfolding lowest highest
returns c =
    let a = c.args in
    rw (to_z-of_z (sfits_of {w = w32} {z = c.ranged-2.result} c.ranged-2.type_inv))
    (piece_between a.kind a.w a.t.now (limited (negsuc 39) (pos 8191)) (kind_last a.kind c.if-kind-lt2.false c.if-kind-eq2.false c.if-kind-eq3.false) c.requires.0 c.requires.1 refl refl c.ranged-2.ensures)
