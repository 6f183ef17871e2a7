-- `pressure::sense` meets its contract: no number below 0 has the bits of an end. Assumes nothing.
use mathlib.Core.Path.{◌≡◌, refl, sym}
use Prim.Native.Nat.{ℕ, suc, ◌-◌, ◌≤◌, ◌<◌}
use native.Mathlib.Omega.{arith}
use borrow.Author.Tests.{eq-eqb, ne_eqb}
use borrow.Author.Rules.{rules}
use lib.Dec.{eqb}
use lib.IntN.{ℤ, pos, negsuc}
use mir.Syntax.{w64}
use mir.Val.{SFits, of_z}
use Rattle.papers.specs.Names.{text}
use Rattle.scope.specs.Pressure.{eq_int, sense_of}
use Rattle.pressure.proofs.sense.Goals as goal

-- a number is k exactly if it has the bits of k
bits : (z : ℤ) → SFits w64 z → (k : ℕ) → k ≤ 4_095 → eqb (of_z w64 z) k ≡ eq_int z (pos k)
unfolding eq_int
bits (pos n) f k h = refl
bits (negsuc n) f k h = let g : n < 9_223_372_036_854_775_808 = f.sfits in ne_eqb (18_446_744_073_709_551_616 - suc n) k (λ e. omega arith)

module _ (z : ℤ) (f : SFits w64 z) where
  at_lowest : eqb (of_z w64 z) 0 ≡ eq_int z (pos 0)
  at_lowest = bits z f 0 (omega arith)

  at_highest : eqb (of_z w64 z) 4_095 ≡ eq_int z (pos 4_095)
  at_highest = bits z f 4_095 (omega arith)

  lowest : of_z w64 z ≡ 0 → text "atmost" ≡ sense_of z
  unfolding sense_of
  lowest e = rw (sym at_lowest, eq-eqb (of_z w64 z) 0 e) refl

  highest : of_z w64 z ≡ 4_095 → text "atleast" ≡ sense_of z
  unfolding sense_of
  highest e = rw (sym at_lowest, sym at_highest, eq-eqb (of_z w64 z) 4_095 e, ne_eqb (of_z w64 z) 0 (λ x. omega arith)) refl

  between : (of_z w64 z ≡ 0 → ⊥) → (of_z w64 z ≡ 4_095 → ⊥) → text "equal" ≡ sense_of z
  unfolding sense_of
  between a b = rw (sym at_lowest, sym at_highest, ne_eqb (of_z w64 z) 0 a, ne_eqb (of_z w64 z) 4_095 b) refl

pub returns-in-0 : goal.returns-in-0
returns-in-0 c = lowest c.args.n c.ranges.n (search rules)

pub returns-in-4095 : goal.returns-in-4095
returns-in-4095 c = highest c.args.n c.ranges.n (search rules)

pub returns-in_default : goal.returns-in_default
returns-in_default c =
    between c.args.n c.ranges.n (search rules) (search rules)
