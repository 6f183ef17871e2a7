-- Readings by place, one after the other, and the slots they fill.
use Rattle.std.specs.Prelude.{◌≡◌, refl, List, [], ◌∷◌, ◌++◌, ℕ, zero, suc, ◌+◌, ◌≤◌, ◌<◌, ℤ, pos, length, get_or, drop, set, replicate}
use Rattle.std.proofs.Common.{sym, ◌∙◌, subst, arith, not-suc-le-zero, length-set, drop-drop, get_or-set_other, get_or-set_same}
use Rattle.std.proofs.Math.Path.{ap}
use Rattle.std.proofs.lemmas.List.Edits.{sets}
use Rattle.std.proofs.lemmas.List.{set-get_or}
use Rattle.std.proofs.Math.Seq.{length-sets}
use Rattle.codec.specs.Codec.{Res, got, bad, shift, map_res, and_then, Codec, pair_up}
use Rattle.codec.specs.Line.{Held}
use Rattle.codec.specs.Item.{beside}
use Rattle.reader.specs.Steps.{run}
use Rattle.reader.specs.Slots.{Ready}

-- ---- readings by place

abbrev pub then_at : {A B : Type 0} → Res A → (A → ℕ → Res B) → Res B
then_at (got a n) f = f a n
then_at (bad e p) f = bad e p

shift-map : {A B : Type 0} (f : A → B) (n : ℕ) (m : Res A) → shift n (map_res f m) ≡ map_res f (shift n m)
shift-map f n (got a k) = refl
shift-map f n (bad e p) = refl

shift-shift : {A : Type 0} (n k : ℕ) (m : Res A) → shift n (shift k m) ≡ shift (n + k) m
shift-shift n k (got a j) = ap (got a) (omega arith)
shift-shift n k (bad e p) = ap (bad e) (omega arith)

pub map-map : {A B C : Type 0} (f : A → B) (g : B → C) (m : Res A) → map_res g (map_res f m) ≡ map_res (λ a. g (f a)) m
map-map f g (got a n) = refl
map-map f g (bad e p) = refl

pub run-map : {A B : Type 0} (f : A → B) (rd : List ℕ → Res A) (xs : List ℕ) (at : ℕ) → run (λ ys. map_res f (rd ys)) xs at ≡ map_res f (run rd xs at)
run-map f rd xs at = shift-map f at (rd (drop at xs))

-- one after the other: the second begins where the first ended
pub run-then : {A B : Type 0} (rd : List ℕ → Res A) (d : A → List ℕ → Res B) (xs : List ℕ) (at : ℕ)
    → run (λ ys. and_then ys (rd ys) (λ a r. map_res (pair_up a) (d a r))) xs at ≡ then_at (run rd xs at) (λ a n. map_res (pair_up a) (run (d a) xs n))
run-then {A = A} rd d xs at = by (rd (drop at xs))
  where
    by : (m : Res A) → shift at (and_then (drop at xs) m (λ a r. map_res (pair_up a) (d a r))) ≡ then_at (shift at m) (λ a n. map_res (pair_up a) (run (d a) xs n))
    by (bad e p) = refl
    by (got a k) =
        shift-shift at k (map_res (pair_up a) (d a (drop k (drop at xs)))) ∙ shift-map (pair_up a) (at + k) (d a (drop k (drop at xs)))
        ∙ ap (λ ys. map_res (pair_up a) (shift (at + k) (d a ys))) (drop-drop k at xs)

-- what the first holds and what the second holds, side by side
module _ (n : ℕ) (c : Codec Held) (d : Held → Codec Held) (xs : List ℕ) (at : ℕ) where
  beside-run : run (beside n c d).read xs at
      ≡ map_res {A = Held × Held} (λ a. ((a.0.0, a.1.0), a.0.1 ++ a.1.1)) (then_at (run c.read xs at) (λ a m. map_res (pair_up a) (run (d a).read xs m)))
  unfolding beside
  beside-run =
      run-map (λ (a : Held × Held). ((a.0.0, a.1.0), a.0.1 ++ a.1.1)) (λ ys. and_then ys (c.read ys) (λ a r. map_res (pair_up a) ((d a).read r))) xs at
      ∙ ap (map_res (λ (a : Held × Held). ((a.0.0, a.1.0), a.0.1 ++ a.1.1))) (run-then c.read (λ a. (d a).read) xs at)

  pub beside_bad : {e p : ℕ} → run c.read xs at ≡ bad e p → run (beside n c d).read xs at ≡ bad e p
  beside_bad h = beside-run ∙ rw h refl

  pub beside_got : {a : Held} {m : ℕ} → run c.read xs at ≡ got a m
      → run (beside n c d).read xs at ≡ map_res {A = Held} (λ b. ((a.0, b.0), a.1 ++ b.1)) (run (d a).read xs m)
  beside_got {a} {m} h = beside-run ∙ rw h (map-map (pair_up a) (λ (q : Held × Held). ((q.0.0, q.1.0), q.0.1 ++ q.1.1)) (run (d a).read xs m))

-- ---- slots

-- zeros put where zeros are
pub sets_zeros : (n : ℕ) (l : List ℤ) (slot : ℕ) → ((j : ℕ) → slot ≤ j → get_or l j (pos 0) ≡ pos 0) → sets l slot (replicate n (pos 0)) ≡ l
sets_zeros zero l slot h = refl
sets_zeros (suc n) l slot h =
    let e : set l slot (pos 0) ≡ l = ap (set l slot) (sym (h slot (omega arith))) ∙ set-get_or l slot (pos 0) in
    ap (λ x. sets x (suc slot) (replicate n (pos 0))) e ∙ sets_zeros n l (suc slot) (λ j g. h j (omega arith))

pub get_or-sets_under : (l : List ℤ) (slot : ℕ) (v : List ℤ) (j : ℕ) → j < slot → get_or (sets l slot v) j (pos 0) ≡ get_or l j (pos 0)
get_or-sets_under l slot [] j h = refl
get_or-sets_under l slot (a ∷ v) j h = get_or-sets_under (set l slot a) (suc slot) v j (omega arith) ∙ get_or-set_other l slot j a (pos 0) (λ e. omega arith)

pub get_or-sets_over : (l : List ℤ) (slot : ℕ) (v : List ℤ) (j : ℕ) → slot + length v ≤ j → get_or (sets l slot v) j (pos 0) ≡ get_or l j (pos 0)
get_or-sets_over l slot [] j h = refl
get_or-sets_over l slot (a ∷ v) j h = get_or-sets_over (set l slot a) (suc slot) v j (omega arith) ∙ get_or-set_other l slot j a (pos 0) (λ e. omega arith)

pub get_or-sets_at : (l : List ℤ) (slot : ℕ) (v : List ℤ) (i : ℕ) → i < length v → slot + length v ≤ length l → get_or (sets l slot v) (slot + i) (pos 0) ≡ get_or v i (pos 0)
get_or-sets_at l slot [] i h g = absurd (not-suc-le-zero h)
get_or-sets_at l slot (a ∷ v) zero h g =
    let z : slot + 0 ≡ slot = omega arith in
    rw z (get_or-sets_under (set l slot a) (suc slot) v slot (omega arith) ∙ get_or-set_same l slot a (pos 0) (omega arith))
get_or-sets_at l slot (a ∷ v) (suc i) h g =
    let z : slot + suc i ≡ suc slot + i = omega arith in
    rw z (get_or-sets_at (set l slot a) (suc slot) v i (omega arith) (rw (length-set l slot a) (omega arith)))

pub ready_after : {l : List ℤ} {slot : ℕ} → Ready l slot → (v : List ℤ) {m : List ℤ} {next : ℕ} → m ≡ sets l slot v → next ≡ slot + length v → Ready m next
ready_after {l} {slot} r v em en = record {
  len = ap length em ∙ length-sets l slot v ∙ r.len;
  zeros = λ j h. ap (λ x. get_or x j (pos 0)) em ∙ get_or-sets_over l slot v j (subst (◌≤ j) en h) ∙ r.zeros j (omega arith);
}
