-- Octets or numbers put one behind the other into an array.
use Rattle.std.specs.Prelude.{◌≡◌, refl, List, [], ◌∷◌, ◌++◌, ℕ, zero, suc, ◌+◌, ◌-◌, ◌≤◌, length, set, drop, replicate}
use Rattle.std.proofs.Common.{sym, ap, ap₂, ◌∙◌, arith, length-append}
use Rattle.std.proofs.lemmas.List.{length-replicate}
use Rattle.std.proofs.lemmas.List.Edits.{sets, sets-eq}

pub sets_append : {A : Type 0} (l : List A) (slot : ℕ) (v w : List A) → sets l slot (v ++ w) ≡ sets (sets l slot v) (slot + length v) w
sets_append l slot [] w = ap (λ k. sets l k w) (omega arith)
sets_append l slot (a ∷ v) w = sets_append (set l slot a) (suc slot) v w ∙ ap (λ k. sets (sets (set l slot a) (suc slot) v) k w) (omega arith)

-- the octets xs were put into l at a place, which gives m and the next place
pub record Put (xs l : List ℕ) (at : ℕ) (m : List ℕ) (next : ℕ) : Type 0 where
  pub octets : m ≡ sets l at xs
  pub place : next ≡ at + length xs

pub put_behind : {xs ys l m q : List ℕ} {at next last : ℕ} → Put xs l at m next → Put ys m next q last → Put (xs ++ ys) l at q last
put_behind {xs} {ys} {l} {m} {q} {at} {next} {last} a b = record {
  octets = b.octets ∙ ap₂ (λ x j. sets x j ys) a.octets a.place ∙ sym (sets_append l at xs ys);
  place =
      let e : length (xs ++ ys) ≡ length xs + length ys = length-append xs ys in
      let f : next ≡ at + length xs = a.place in
      let g : last ≡ next + length ys = b.place in
      omega arith;
}

-- nothing is put
pub put_none : (l : List ℕ) (at : ℕ) → Put [] l at l at
put_none l at = record { octets = refl; place = omega arith }

-- ---- into zeros, or any one value

pub drop-replicate : {A : Type 0} (z : A) (i n : ℕ) → drop i (replicate n z) ≡ replicate (n - i) z
drop-replicate z zero n = let q : n ≡ n - 0 = omega arith in ap (λ j. replicate j z) q
drop-replicate z (suc i) zero = let q : 0 ≡ 0 - suc i = omega arith in ap (λ j. replicate j z) q
drop-replicate z (suc i) (suc n) = let q : n - i ≡ suc n - suc i = omega arith in drop-replicate z i n ∙ ap (λ j. replicate j z) q

pub set_front : {A : Type 0} (z : A) (n : ℕ) (v : List A) (k : ℕ) → length v ≡ k → k ≤ n → sets (replicate n z) 0 v ≡ v ++ replicate (n - k) z
set_front z n v k e h =
    let g : 0 + length v ≤ length (replicate n z) = rw (length-replicate n z) (omega arith) in
    let q : 0 + length v ≡ length v = omega arith in
    sets-eq v (replicate n z) 0 g ∙ ap (v ++◌) (ap (λ j. drop j (replicate n z)) q ∙ drop-replicate z (length v) n ∙ ap (λ j. replicate (n - j) z) e)
