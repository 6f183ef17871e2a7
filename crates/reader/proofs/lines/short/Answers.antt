-- `reader::lines::short` meets its contract. Assumes nothing.
use mathlib.Core.Path.{sym}
use native.Mathlib.Omega.{arith}
use borrow.Author.Tests.{le-ltb}
use mathlib.Core.Path.{refl, ◌≡◌}
use mathlib.Core.Bool.{Bool, true, false}
use Prim.Native.Nat.{ℕ, ◌+◌, ◌-◌, ◌<◌}
use lib.Dec.{ltb}
use borrow.Author.Tests.{ltb-true, ltb-false, lt-ltb}
use Rattle.reader.proofs.lines.short.Goals as goal

-- so it is tested, where k is not 0
by-sum : (len at k : ℕ) → (k ≡ 0 → ⊥) → ltb len (at + k) ≡ ltb (len - at) k
by-sum len at k h = go (ltb len (at + k)) refl
  where
    go : (b : Bool) → ltb len (at + k) ≡ b → b ≡ ltb (len - at) k
    go true e = sym (lt-ltb (len - at) k (let g : len < at + k = ltb-true len (at + k) e in omega (arith, h, g)))
    go false e = sym (le-ltb (len - at) k (let g = ltb-false len (at + k) e in omega (arith, g)))

pub returns-then-k-eq0 : goal.returns-then-k-eq0
returns-then-k-eq0 c = let a = c.args in sym (le-ltb (a.len - a.at) a.k (omega (arith, c.if-k-eq0.true)))

pub returns : goal.returns
returns c = let a = c.args in by-sum a.len a.at a.k c.if-k-eq0.false
