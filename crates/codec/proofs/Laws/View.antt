-- Where each item stands: the texts lie behind each other, none over another, and together they are all of the field behind the indicator.
use Rattle.std.specs.Prelude.{◌≡◌, refl, List, [], ◌∷◌, ◌++◌, ℕ, zero, suc, ◌+◌, ◌≤◌, ◌<◌, length, get_or, take, drop}
use Rattle.std.proofs.Common.{sym, ap, ◌∙◌, append_assoc, not-suc-le-zero, le_of_suc-le-suc, arith, length-append}
use Rattle.std.proofs.Math.Seq.{take-append_seam, take-append-add, drop-append-add}
use Rattle.codec.specs.Field.{flat, before}

-- the part of its length at its place is the text, whatever follows
pub view_flat : (ts : List (List ℕ)) (rest : List ℕ) (i : ℕ) → i < length ts → take (length (get_or ts i [])) (drop (before ts i) (flat ts ++ rest)) ≡ get_or ts i []
unfolding before flat
view_flat [] rest i h = absurd (not-suc-le-zero h)
view_flat (t ∷ ts) rest zero h = ap (take (length t)) (append_assoc t (flat ts) rest) ∙ take-append_seam t (flat ts ++ rest)
view_flat (t ∷ ts) rest (suc i) h =
    ap (λ x. take (length (get_or ts i [])) (drop (length t + before ts i) x)) (append_assoc t (flat ts) rest)
    ∙ ap (take (length (get_or ts i []))) (drop-append-add t (flat ts ++ rest) (before ts i))
    ∙ view_flat ts rest i (le_of_suc-le-suc h)

-- the first begins at 0, the next where this one ends, and the last ends where all end
pub before_first : (ts : List (List ℕ)) → before ts 0 ≡ 0
unfolding before
before_first [] = refl
before_first (t ∷ ts) = refl

pub before_next : (ts : List (List ℕ)) (i : ℕ) → i < length ts → before ts (suc i) ≡ before ts i + length (get_or ts i [])
unfolding before
before_next [] i h = absurd (not-suc-le-zero h)
before_next (t ∷ []) zero h = omega arith
before_next (t ∷ u ∷ ts) zero h = omega arith
before_next (t ∷ ts) (suc i) h = let ih : before ts (suc i) ≡ before ts i + length (get_or ts i []) = before_next ts i (le_of_suc-le-suc h) in omega arith

pub before_all : (ts : List (List ℕ)) → before ts (length ts) ≡ length (flat ts)
unfolding before flat
before_all [] = refl
before_all (t ∷ ts) = ap (length t +◌) (before_all ts) ∙ sym (length-append t (flat ts))

-- an earlier text ends before a later one begins
pub before_mono : (ts : List (List ℕ)) (i j : ℕ) → i < j → i < length ts → before ts i + length (get_or ts i []) ≤ before ts j
unfolding before
before_mono [] i j h k = absurd (not-suc-le-zero k)
before_mono (t ∷ ts) i zero h k = absurd (not-suc-le-zero h)
before_mono (t ∷ ts) zero (suc j) h k = omega arith
before_mono (t ∷ ts) (suc i) (suc j) h k =
    let ih : before ts i + length (get_or ts i []) ≤ before ts j = before_mono ts i j (le_of_suc-le-suc h) (le_of_suc-le-suc k) in omega arith

pub before_most : (ts : List (List ℕ)) (i : ℕ) → i < length ts → before ts i + length (get_or ts i []) ≤ length (flat ts)
unfolding before flat
before_most [] i h = absurd (not-suc-le-zero h)
before_most (t ∷ ts) zero h = rw length-append (omega arith)
before_most (t ∷ ts) (suc i) h =
    let ih : before ts i + length (get_or ts i []) ≤ length (flat ts) = before_most ts i (le_of_suc-le-suc h) in rw length-append (omega arith)

-- what stands before a text, and from it on
pub front_flat : (ts : List (List ℕ)) (i : ℕ) → take (before ts i) (flat ts) ≡ flat (take i ts)
unfolding before flat
front_flat [] zero = refl
front_flat [] (suc i) = refl
front_flat (t ∷ ts) zero = refl
front_flat (t ∷ ts) (suc i) = take-append-add t (flat ts) (before ts i) ∙ ap (t ++◌) (front_flat ts i)

pub back_flat : (ts : List (List ℕ)) (i : ℕ) → drop (before ts i) (flat ts) ≡ flat (drop i ts)
unfolding before flat
back_flat [] zero = refl
back_flat [] (suc i) = refl
back_flat (t ∷ ts) zero = refl
back_flat (t ∷ ts) (suc i) = drop-append-add t (flat ts) (before ts i) ∙ back_flat ts i
