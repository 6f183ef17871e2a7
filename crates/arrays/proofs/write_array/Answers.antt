-- `arrays::write_array` meets its contract: one law at each way out. Assumes nothing.
use mir.Syntax.{w32}
use mathlib.Core.Path.{◌≡◌, sym, ap, ◌∙◌}
use mathlib.Core.Bool.{Bool, false, and-false}
use mathlib.Core.List.{List, [], ◌∷◌}
use native.Mathlib.Omega.{arith}
use lib.ListN.{take, drop}
use borrow.Author.Rules.{sfits_of}
use lib.IntN.{ℤ}
use Prim.Native.Nat.{ℕ, zero, suc, ◌+◌, ◌≤◌}
use mir.Val.{SFits, to_z, of_z}
use mir.Facts.{to_z-of_z}
use Rattle.papers.specs.Papers.{known}
use Rattle.interface.specs.Arrays.{is_octet, are_octets, octet_of}
use Rattle.interface.proofs.Laws.Arrays.{array_length, array_unknown, array_parts, array_written}
use Rattle.arrays.proofs.write_array.Goals as goal

-- the category that is tested is the array's, as the machine has it
tested : {z : ℤ} {o : ℕ} {b t : Bool} → SFits w32 z → o ≡ octet_of (to_z w32 (of_z w32 z)) → t ≡ known o → t ≡ b → known (octet_of z) ≡ b
tested f eo et h = sym (et ∙ ap known (eo ∙ ap octet_of (to_z-of_z {w = w32} f))) ∙ h

-- where the last of some numbers are not all octets, those numbers are not
among : (k n m : ℕ) (zs : List ℤ) → k + n ≡ m → are_octets (take n (drop k zs)) ≡ false → are_octets (take m zs) ≡ false
unfolding are_octets
among zero n m zs e h = let p : n ≡ m = omega arith in rw p at h
among (suc k) n zero zs e h = absurd (omega arith)
among (suc k) zero (suc m) [] e h = h
among (suc k) (suc n) (suc m) [] e h = h
among (suc k) n (suc m) (z ∷ zs) e h = rw (among k n m zs (omega arith) h) (and-false (is_octet z))

-- and so it is with the nine behind an array's first number, of whichever of them the last were tried
behind_first : (k n : ℕ) (a : List ℤ) {b : Bool} → b ≡ are_octets (take n (drop k a)) → b ≡ false → 1 ≤ k → k + n ≡ 10 → are_octets (take 9 (drop 1 a)) ≡ false
unfolding are_octets
behind_first zero n a g h l e = absurd (omega arith)
behind_first (suc k) zero [] g h l e = sym g ∙ h
behind_first (suc k) (suc n) [] g h l e = sym g ∙ h
behind_first (suc k) n (z ∷ zs) g h l e = among k n 9 zs (omega arith) (sym g ∙ h)

pub returns-then-a-ne-PLACES : goal.returns-then-a-ne-PLACES
returns-then-a-ne-PLACES c = rw c.at.ensures (array_length c.args.a.now c.args.out.now c.if-a-ne-PLACES.true)

pub returns-then-not-is_known : goal.returns-then-not-is_known
returns-then-not-is_known c =
    let a = c.args in
    rw c.at-then-not-is_known.ensures (array_unknown a.a.now a.out.now c.if-a-ne-PLACES.false (tested (sfits_of c.octet-arg-1.given) c.octet.ensures c.is_known.ensures c.if-not-is_known.true))

pub returns-then-not-are_octets : goal.returns-then-not-are_octets
unfolding are_octets
returns-then-not-are_octets c =
    let a = c.args in
    rw c.at-then-not-are_octets.ensures (array_parts a.a.now a.out.now c.if-a-ne-PLACES.false (tested (sfits_of c.octet-arg-1.given) c.octet.ensures c.is_known.ensures c.if-not-is_known.false) (search (arith, behind_first, c.are_octets.ensures, c.if-not-are_octets.true)))

pub returns : goal.returns
returns c =
    let a = c.args in
    array_written a.a.now a.out.now c.if-a-ne-PLACES.false (tested (sfits_of c.octet-arg-1.given) c.octet.ensures c.is_known.ensures c.if-not-is_known.false)
    (sym c.are_octets.ensures ∙ c.if-not-are_octets.false) c.record_of.ensures c.write.ensures
