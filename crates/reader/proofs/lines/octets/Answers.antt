-- `reader::lines::octets` meets its contract. The loop has the number of the octets passed.
-- Assumes nothing.
use mathlib.Core.Path.{◌≡◌, sym, ap, ap₂, ◌∙◌, subst}
use mathlib.Core.List.{List}
use Prim.Native.Nat.{ℕ, ◌≤◌, ◌<◌, ◌-◌, ◌*◌, ◌^◌, ◌+◌}
use native.Mathlib.Omega.{arith}
use native.Mathlib.Nat.{lt_of_lt_of_le}
use native.Mathlib.Numerals.{add-one}
use borrow.Author.Rules.{rules}
use lib.ListN.{length, take, drop, length-drop, get_or}
use lib.Seq.{get_or-drop}
use lib.Pow.{pow_mono, pow-add}
use mir.Facts.{Fits-of_lt}
use Rattle.codec.specs.Radix.{join, eights}
use Rattle.codec.proofs.Laws.Radix.{join-take}
use Rattle.reader.proofs.lines.octets.Goals as goal

-- at most five octets so far: less than 2 ^ 40
under5 : (n i : ℕ) → i ≤ 5 → n < 2 ^ (8 * i) → n < 2 ^ 40
under5 n i h k = lt_of_lt_of_le k (pow_mono {i = 8 * i} {j = 40} (omega arith))

pow8 : (i : ℕ) → 2 ^ (8 * (i + 1)) ≡ 256 * 2 ^ (8 * i)
pow8 i = ap (2 ^◌) (omega arith) ∙ pow-add 2 8 (8 * i)

one_more : (xs : List ℕ) (at i n x : ℕ) → i < length xs - at → n ≡ join (eights i) (take i (drop at xs)) → x ≡ get_or xs (at + i) 0
    → n * 256 + x ≡ join (eights (i + 1)) (take (i + 1) (drop at xs))
one_more xs at i n x h e g =
    let l : i < length (drop at xs) = subst (i <◌) (sym (length-drop at xs)) h in
    ap₂ (λ a b. a * 256 + b) e (g ∙ sym (get_or-drop at xs i 0)) ∙ sym (join-take (drop at xs) i l) ∙ ap (λ m. join (eights m) (take m (drop at xs))) (sym (add-one i))

pub loop-i-init : goal.loop-i-init
unfolding join
loop-i-init c = let e : c.args.at - c.args.at ≡ 0 = omega arith in rw e (search rules)

pub overflow_mul-n : goal.overflow_mul-n
overflow_mul-n c = Fits-of_lt (omega (arith, under5 c.loop-i.n (c.loop-i.i - c.args.at) (omega arith) c.loop-i.invariant.1))

pub overflow_add-n : goal.overflow_add-n
overflow_add-n c =
    Fits-of_lt (omega (arith, under5 c.loop-i.n (c.loop-i.i - c.args.at) (omega arith) c.loop-i.invariant.1, c.wide64.ensures.1))

pub loop-i-preserved : goal.loop-i-preserved
loop-i-preserved c =
    let a = c.args in
    let j : ℕ = c.loop-i.i - a.at in
    let e : c.loop-i.i + 1 - a.at ≡ j + 1 = omega arith in
    let at : a.at + j ≡ c.loop-i.i = omega arith in
    let p : 2 ^ (8 * (j + 1)) ≡ 256 * 2 ^ (8 * j) = pow8 j in
    rw e (
      one_more a.s.now a.at j c.loop-i.n _ (omega arith) c.loop-i.invariant.0 (c.wide64.ensures.0 ∙ ap (λ i. get_or a.s.now i 0) (sym at)),
      omega (arith, c.wide64.ensures.1, c.loop-i.invariant.1),
    )
