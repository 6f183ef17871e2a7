-- Chains, subfields and items keep the round trips, and hold as many numbers as their lines have. Facts on chains are over the parts, whatever they are.
use Rattle.std.specs.Prelude.{◌≡◌, Bool, true, false, ℕ, zero, suc, ◌+◌, ◌-◌, ◌^◌, ◌<◌, T, ltb, eqb, ℤ, pos, negsuc, replicate}
use Rattle.std.proofs.Math.Path.{refl}
use Rattle.std.proofs.Common.{sym, ap, ap₂, ◌∙◌, subst, arith, ltb→lt, lt→ltb, eqb→eq, length-append, lt-ltb, le-ltb, eqb-true}
use mathlib.Core.List.{List, [], ◌∷◌, ◌++◌}
use Rattle.std.proofs.Math.ListN.{length, take, drop, take-append-drop}
use Rattle.std.proofs.lemmas.List.{length-replicate}
use Rattle.std.proofs.Math.Seq.{take_at, drop_at}
use Rattle.codec.specs.Codec.{got, bad, Codec, Lawful, opt}
use Rattle.codec.specs.Line.{Line, Held, count, line, fills}
use Rattle.codec.specs.Item.{Item, chained, single, slots_of, slots, is_zero, zeros, nothing, beside, fx_of, chain, flagged, subfields, item, good_lines, good_item}
use Rattle.codec.proofs.Laws.Tests.{and_l, and_r, not_one}
use Rattle.codec.proofs.Laws.Codec.{Only, lawful_via, lawful_guard, lawful_absent, lawful_opt, lawful_seq}
use Rattle.codec.proofs.Laws.Line.{lawful_line, line_count, line_fx}

-- ---- what is absent

is_zero_lem : (z : ℤ) → T (is_zero z) → z ≡ pos 0
unfolding is_zero
is_zero_lem (pos n) t = ap pos (eqb→eq n 0 t)
is_zero_lem (negsuc n) t = absurd t

pub zeros_are : (n : ℕ) (zs : List ℤ) → T (zeros n zs) → zs ≡ replicate n (pos 0)
unfolding zeros
zeros_are zero [] t = refl
zeros_are zero (z ∷ zs) t = absurd t
zeros_are (suc n) [] t = absurd t
zeros_are (suc n) (z ∷ zs) t = ap₂ ◌∷◌ (is_zero_lem z (and_l (is_zero z) _ t)) (zeros_are n zs (and_r (is_zero z) _ t))

pub zeros_yes : (n : ℕ) → T (zeros n (replicate n (pos 0)))
unfolding zeros is_zero
zeros_yes zero = tt
zeros_yes (suc n) = zeros_yes n

pub only-nothing : (n : ℕ) → Only (nothing n)
only-nothing n = record {
  is = λ v t. λ i. (eqb→eq v.0 0 (and_l (eqb v.0 0) _ t) i, zeros_are n v.1 (and_r (eqb v.0 0) _ t) i);
  yes = zeros_yes n;
}

module _ (n : ℕ) (v : Held) (t : T ((nothing n).test v)) where
  pub nothing_count : v.0 ≡ 0
  nothing_count = eqb→eq v.0 0 (and_l (eqb v.0 0) _ t)

  pub nothing-length : length v.1 ≡ n
  nothing-length = ap length (zeros_are n v.1 (and_r (eqb v.0 0) _ t)) ∙ length-replicate n (pos 0)

-- ---- one behind the other

module _ (n : ℕ) (c : Codec Held) (d : Held → Codec Held) (many : (v : Held) → T (c.okay v) → length v.1 ≡ n) where
  pub lawful_beside : Lawful c → ((a : Held) → Lawful (d a)) → Lawful (beside n c d)
  unfolding beside
  lawful_beside L M =
      lawful_via (λ a. ((a.0.0, a.1.0), a.0.1 ++ a.1.1)) (λ b. ((b.0.0, take n b.1), (b.0.1, drop n b.1))) (λ b. true) (lawful_seq L M)
      (λ a t.
      let e : length a.0.1 ≡ n = many a.0 (and_l (c.okay a.0) _ t) in
      ((λ i. ((a.0.0, take_at a.0.1 a.1.1 n e i), (a.1.0, drop_at a.0.1 a.1.1 n e i))), tt))
      (λ b _ _. λ i. (b.0, take-append-drop n b.1 i))

  -- its two values, and how many numbers they have together
  module _ (b : (ℕ × ℕ) × List ℤ) (t : T ((beside n c d).okay b)) where
    pub beside_first : T (c.okay (b.0.0, take n b.1))
    unfolding beside
    beside_first = and_l (c.okay (b.0.0, take n b.1)) _ t

    pub beside-second : T ((d (b.0.0, take n b.1)).okay (b.0.1, drop n b.1))
    unfolding beside
    beside-second = and_r (c.okay (b.0.0, take n b.1)) _ t

    pub beside-length : (m : ℕ) → ((a v : Held) → T ((d a).okay v) → length v.1 ≡ m) → length b.1 ≡ n + m
    beside-length m more =
        ap length (sym (take-append-drop n b.1)) ∙ length-append (take n b.1) (drop n b.1)
        ∙ ap₂ ◌+◌ (many (b.0.0, take n b.1) beside_first) (more (b.0.0, take n b.1) (b.0.1, drop n b.1) beside-second)

-- ---- chains

pub chain_parts : (p : Line) (qs : List Line) (v : Held) → T ((chain p qs).okay v) → 0 < v.0
unfolding chain
chain_parts p [] v t = let e : v.0 ≡ 1 = eqb→eq v.0 1 (and_l (eqb v.0 1) _ t) in omega arith
chain_parts p (q ∷ qs) v t = ltb→lt 0 v.0 (and_l (ltb 0 v.0) _ t)

-- where something may be absent, it has its count of numbers either way
pub opt-length : (n : ℕ) (b : Bool) (c : Codec Held) → ((v : Held) → T (c.okay v) → length v.1 ≡ n) → (v : Held) → T ((opt (nothing n) b c).okay v) → length v.1 ≡ n
opt-length n true c many v t = many v t
opt-length n false c many v t = nothing-length n v t

pub chain_length : (p : Line) (qs : List Line) (v : Held) → T ((chain p qs).okay v) → length v.1 ≡ slots_of (p ∷ qs)
unfolding chain slots_of
chain_length p [] v t = line_count p (0, v.1) (and_l ((line p).okay (0, v.1)) true (and_r (eqb v.0 1) _ t)) ∙ omega arith
chain_length p (q ∷ qs) v t =
    beside-length (count p.pieces) (line p) _ (line_count p) ((fx_of v.0, v.0 - 1), v.1) (and_r (ltb 0 v.0) _ t) (slots_of (q ∷ qs))
    (λ a w s. opt-length (slots_of (q ∷ qs)) (eqb a.0 1) (chain q qs) (chain_length q qs) w s)

-- FX of a part says whether the rest of the chain is there
chain_fx : (q : Line) (qs : List Line) (n x : ℕ) → x < 2 → (v : Held) → T ((opt (nothing n) (eqb x 1) (chain q qs)).okay v) → fx_of (suc v.0) ≡ x
unfolding fx_of
chain_fx q qs n x h v t = go (eqb x 1) refl t
  where
    go : (b : Bool) → eqb x 1 ≡ b → T ((opt (nothing n) b (chain q qs)).okay v) → fx_of (suc v.0) ≡ x
    go true e s = let k : 0 < v.0 = chain_parts q qs v s in rw (lt-ltb 1 (suc v.0) (omega arith)) (sym (eqb-true x 1 e))
    go false e s = let k : v.0 ≡ 0 = nothing_count n v s in rw (le-ltb 1 (suc v.0) (omega arith)) (sym (not_one x h e))

pub lawful_chain : (p : Line) (qs : List Line) → T (good_lines 1 (p ∷ qs)) → Lawful (chain p qs)
unfolding chain good_lines
lawful_chain p [] h =
    lawful_via (λ v. (1, v.1)) (λ b. (0, b.1)) (λ b. eqb b.0 1)
    (lawful_guard 7 (λ v. eqb v.0 0) (lawful_line p (and_l (fills p) _ (and_r (eqb p.fx 1) _ h))))
    (λ v t. ((λ i. (sym (eqb→eq v.0 0 (and_r ((line p).okay v) _ t)) i, v.1)), tt))
    (λ b t _. λ i. (sym (eqb→eq b.0 1 t) i, b.1))
lawful_chain p (q ∷ qs) h =
    let n : ℕ = count p.pieces in
    let rest : Held → Codec Held = λ v. opt (nothing (slots_of (q ∷ qs))) (eqb v.0 1) (chain q qs) in
    lawful_via (λ a. (suc a.0.1, a.1)) (λ b. ((fx_of b.0, b.0 - 1), b.1)) (λ b. ltb 0 b.0)
    (lawful_beside n (line p) rest (line_count p) (lawful_line p (and_l (fills p) _ (and_r (eqb p.fx 1) _ h)))
    (λ v. lawful_opt (only-nothing (slots_of (q ∷ qs))) (eqb v.0 1) (lawful_chain q qs (and_r (fills p) _ (and_r (eqb p.fx 1) _ h)))))
    (λ a t.
    let x : a.0.0 < 2 = subst (λ m. a.0.0 < 2 ^ m) (eqb→eq p.fx 1 (and_l (eqb p.fx 1) _ h)) (line_fx p (a.0.0, take n a.1) (beside_first n (line p) rest (line_count p) a t)) in
    let fx : fx_of (suc a.0.1) ≡ a.0.0 = chain_fx q qs (slots_of (q ∷ qs)) a.0.0 x (a.0.1, drop n a.1) (beside-second n (line p) rest (line_count p) a t) in
    let less : suc a.0.1 - 1 ≡ a.0.1 = omega arith in
    ((λ i. ((fx i, less i), a.1)), lt→ltb 0 (suc a.0.1) (omega arith)))
    (λ b t _.
    let k : 0 < b.0 = ltb→lt 0 b.0 t in
    let m : suc (b.0 - 1) ≡ b.0 = omega arith in
    λ i. (m i, b.1))

-- ---- what reading a chain answers after a part: its refusal, 7 at the part where no further part is defined, the end, or the rest

module _ (p : Line) (xs : List ℕ) where
  pub chain_bad : (qs : List Line) {e a : ℕ} → (line p).read xs ≡ bad e a → (chain p qs).read xs ≡ bad e a
  unfolding chain beside
  chain_bad [] h = rw h refl
  chain_bad (q ∷ qs) h = rw h refl

  pub chain_over : {zs : List ℤ} {n : ℕ} → (line p).read xs ≡ got (1, zs) n → (chain p []).read xs ≡ bad 7 0
  unfolding chain
  chain_over h = rw h refl

  pub chain_last : {zs : List ℤ} {n : ℕ} → (line p).read xs ≡ got (0, zs) n → (chain p []).read xs ≡ got (1, zs) n
  unfolding chain
  chain_last h = rw h refl

-- ---- subfields

pub subfields_count : (zs : List ℤ) (ss : List Line) (v : Held) → T ((subfields zs ss).okay v) → v.0 ≡ 0
unfolding subfields
subfields_count zs [] v t = nothing_count 0 v t
subfields_count zs (s ∷ ss) v t = eqb→eq v.0 0 (and_l (eqb v.0 0) _ t)

pub subfields-length : (zs : List ℤ) (ss : List Line) (v : Held) → T ((subfields zs ss).okay v) → length v.1 ≡ slots_of ss
unfolding subfields slots_of
subfields-length zs [] v t = nothing-length 0 v t
subfields-length zs (s ∷ ss) v t =
    beside-length (count s.pieces) _ (λ v. subfields zs ss) (opt-length (count s.pieces) (flagged zs s) (line s) (line_count s)) ((0, 0), v.1) (and_r (eqb v.0 0) _ t) (slots_of ss)
    (λ a w u. subfields-length zs ss w u)

-- a subfield that may be there counts nothing
subfield_count : (s : Line) → s.fx ≡ 0 → (b : Bool) (v : Held) → T ((opt (nothing (count s.pieces)) b (line s)).okay v) → v.0 ≡ 0
subfield_count s e true v t = let h : v.0 < 2 ^ 0 = subst (λ m. v.0 < 2 ^ m) e (line_fx s v t) in omega arith
subfield_count s e false v t = nothing_count (count s.pieces) v t

pub lawful_subfields : (zs : List ℤ) (ss : List Line) → T (good_lines 0 ss) → Lawful (subfields zs ss)
unfolding subfields good_lines
lawful_subfields zs [] h = lawful_absent (only-nothing 0)
lawful_subfields zs (s ∷ ss) h =
    let n : ℕ = count s.pieces in
    let c : Codec Held = opt (nothing n) (flagged zs s) (line s) in
    let many : (v : Held) → T (c.okay v) → length v.1 ≡ n = opt-length n (flagged zs s) (line s) (line_count s) in
    let fx : s.fx ≡ 0 = eqb→eq s.fx 0 (and_l (eqb s.fx 0) _ h) in
    lawful_via (λ a. (0, a.1)) (λ b. ((0, 0), b.1)) (λ b. eqb b.0 0)
    (lawful_beside n c (λ v. subfields zs ss) many (lawful_opt (only-nothing n) (flagged zs s) (lawful_line s (and_l (fills s) _ (and_r (eqb s.fx 0) _ h))))
    (λ v. lawful_subfields zs ss (and_r (fills s) _ (and_r (eqb s.fx 0) _ h))))
    (λ a t.
    let e0 : a.0.0 ≡ 0 = subfield_count s fx (flagged zs s) (a.0.0, take n a.1) (beside_first n c (λ v. subfields zs ss) many a t) in
    let e1 : a.0.1 ≡ 0 = subfields_count zs ss (a.0.1, drop n a.1) (beside-second n c (λ v. subfields zs ss) many a t) in
    ((λ i. ((sym e0 i, sym e1 i), a.1)), tt))
    (λ b t _. λ i. (sym (eqb→eq b.0 0 t) i, b.1))

-- ---- an item

pub item_length : (it : Item) (v : Held) → T ((item it).okay v) → length v.1 ≡ slots it
unfolding item slots slots_of
item_length (chained p qs ss) v t =
    beside-length (slots_of (p ∷ qs)) (chain p qs) (λ a. subfields a.1 ss) (chain_length p qs) ((v.0, 0), v.1) t (slots_of ss) (λ a w u. subfields-length a.1 ss w u)
item_length (single l) v t = line_count l v t ∙ omega arith

pub lawful_item : (it : Item) → T (good_item it) → Lawful (item it)
unfolding item good_item good_lines
lawful_item (chained p qs ss) h =
    let rest : Held → Codec Held = λ a. subfields a.1 ss in
    lawful_via (λ a. (a.0.0, a.1)) (λ b. ((b.0, 0), b.1)) (λ b. true)
    (lawful_beside (slots_of (p ∷ qs)) (chain p qs) rest (chain_length p qs) (lawful_chain p qs (and_l (good_lines 1 (p ∷ qs)) _ h)) (λ a. lawful_subfields a.1 ss (and_r (good_lines 1 (p ∷ qs)) _ h)))
    (λ a t.
    let e : a.0.1 ≡ 0 = subfields_count (take (slots_of (p ∷ qs)) a.1) ss (a.0.1, drop (slots_of (p ∷ qs)) a.1) (beside-second (slots_of (p ∷ qs)) (chain p qs) rest (chain_length p qs) a t) in
    ((λ i. ((a.0.0, sym e i), a.1)), tt))
    (λ b _ _. refl)
lawful_item (single l) h = lawful_line l (and_l (fills l) _ (and_r (eqb l.fx 0) _ h))
