-- Each way of putting codecs together keeps the two round trips.
use Rattle.std.specs.Prelude.{◌≡◌, refl, Bool, true, false, List, [], ◌∷◌, ◌++◌, ℕ, zero, suc, ◌+◌, ◌-◌, ◌^◌, ◌≤◌, ◌<◌, length, get_or, take, drop, T, ltb, leb}
use Rattle.std.proofs.Common.{sym, ap, ap₂, ◌∙◌, subst, subst₂, append_assoc, arith, length-append, length-drop, take-append-drop, take-add, take_at, length-take-le, ltb→lt, lt→ltb, leb→le, le→leb, le-leb}
use Rattle.std.proofs.Math.Seq.{drop-append_seam}
use Rattle.std.proofs.Math.Pow.{are_bytes}
use Rattle.codec.specs.Pick.{pick}
use Rattle.codec.specs.Radix.{total, cut, join, digits, eights}
use Rattle.codec.specs.Codec.{Octets, Res, got, bad, map_res, shift, and_then, check, Codec, Was, Lawful, raw, via, number, guard, Blank, absent, opt, pair_up, seq}
use Rattle.codec.proofs.Laws.Tests.{and_in, and_l, and_r, pick_yes}
use Rattle.codec.proofs.Laws.Radix.{join_lt, cut-join, join-cut, cut-digits}

-- ---- octets

pub octets_cons : (x : ℕ) (xs : List ℕ) → x < 256 → Octets xs → Octets (x ∷ xs)
octets_cons x xs h p = and_in (ltb x 256) (are_bytes xs) (lt→ltb x 256 h) p

pub octets_++ : (xs ys : List ℕ) → Octets xs → Octets ys → Octets (xs ++ ys)
octets_++ [] ys p q = q
octets_++ (x ∷ xs) ys p q = and_in (ltb x 256) (are_bytes (xs ++ ys)) (and_l (ltb x 256) _ p) (octets_++ xs ys (and_r (ltb x 256) _ p) q)

pub octets_rest : (xs ys : List ℕ) → Octets (xs ++ ys) → Octets ys
octets_rest [] ys p = p
octets_rest (x ∷ xs) ys p = octets_rest xs ys (and_r (ltb x 256) _ p)

pub octets_front : (xs ys : List ℕ) → Octets (xs ++ ys) → Octets xs
octets_front [] ys p = tt
octets_front (x ∷ xs) ys p = and_in (ltb x 256) (are_bytes xs) (and_l (ltb x 256) _ p) (octets_front xs ys (and_r (ltb x 256) _ p))

pub octets_drop : (n : ℕ) (xs : List ℕ) → Octets xs → Octets (drop n xs)
octets_drop n xs o = octets_rest (take n xs) (drop n xs) (subst Octets (sym (take-append-drop n xs)) o)

pub octets_take : (n : ℕ) (xs : List ℕ) → Octets xs → Octets (take n xs)
octets_take n xs o = octets_front (take n xs) (drop n xs) (subst Octets (sym (take-append-drop n xs)) o)

-- ---- what lies behind a reading that found something

abbrev IsGot : {A : Type 0} → Res A → Type 0
IsGot (got a n) = Unit {0}
IsGot (bad e p) = ⊥

pub bad≢got {ℓ} : {X : Type ℓ} {A : Type 0} {e p n : ℕ} {a : A} → bad e p ≡ got a n → X
bad≢got q = absurd (subst IsGot (sym q) tt)

pub found_map {ℓ} : {A B : Type 0} {X : Type ℓ} (f : A → B) (m : Res A) {b : B} {n : ℕ} → map_res f m ≡ got b n → ((a : A) → m ≡ got a n → f a ≡ b → X) → X
found_map f (got a k) {b} {n} e h = let e1 : f a ≡ b = cc in let e2 : k ≡ n = cc in h a (ap (got a) e2) e1
found_map f (bad q p) e h = bad≢got e

pub found-check {ℓ} : {A : Type 0} {X : Type ℓ} (q : ℕ) (t : A → Bool) (m : Res A) {b : A} {n : ℕ} → check q t m ≡ got b n → (m ≡ got b n → T (t b) → X) → X
found-check {X = X} q t (got a k) {b} {n} e h = go (t a) refl e
  where
    go : (v : Bool) → t a ≡ v → pick v (got a k) (bad q 0) ≡ got b n → X
    go true e1 e2 = let ea : a ≡ b = cc in h e2 (subst (λ x. T (t x)) ea (subst T (sym e1) tt))
    go false e1 e2 = bad≢got e2
found-check q t (bad r p) e h = bad≢got e

pub found-then {ℓ} : {A B : Type 0} {X : Type ℓ} (xs : List ℕ) (m : Res A) (f : A → List ℕ → Res B) {b : B} {n : ℕ} → and_then xs m f ≡ got b n
    → ((a : A) (k j : ℕ) → m ≡ got a k → f a (drop k xs) ≡ got b j → k + j ≡ n → X) → X
found-then xs (bad q p) f e h = bad≢got e
found-then {B = B} {X = X} xs (got a k) f {b} {n} e h = go (f a (drop k xs)) refl e
  where
    go : (r : Res B) → f a (drop k xs) ≡ r → shift k r ≡ got b n → X
    go (got c j) e1 e2 = let eb : c ≡ b = cc in let en : k + j ≡ n = cc in h a k j refl (e1 ∙ ap (λ x. got x j) eb) en
    go (bad q p) e1 e2 = bad≢got e2

picked {ℓ} : {A : Type 0} {X : Type ℓ} (t : Bool) (m : Res A) (q p : ℕ) {b : A} {n : ℕ} → pick t m (bad q p) ≡ got b n → (T t → m ≡ got b n → X) → X
picked true m q p e h = h tt e
picked false m q p e h = bad≢got e

-- ---- k octets

digits-length : (k : ℕ) (v : List ℕ) → T (digits (eights k) v) → length v ≡ k
unfolding digits
digits-length zero [] h = refl
digits-length zero (x ∷ v) h = absurd h
digits-length (suc k) [] h = absurd h
digits-length (suc k) (x ∷ v) h = ap suc (digits-length k v (and_r (ltb x 256) _ h))

digits_octets : (k : ℕ) (v : List ℕ) → T (digits (eights k) v) → Octets v
unfolding digits
digits_octets zero [] h = tt
digits_octets zero (x ∷ v) h = absurd h
digits_octets (suc k) [] h = absurd h
digits_octets (suc k) (x ∷ v) h = and_in (ltb x 256) (are_bytes v) (and_l (ltb x 256) _ h) (digits_octets k v (and_r (ltb x 256) _ h))

pub octets_digits : (v : List ℕ) → Octets v → T (digits (eights (length v)) v)
unfolding digits
octets_digits [] h = tt
octets_digits (x ∷ v) h = and_in (ltb x 256) _ (and_l (ltb x 256) _ h) (octets_digits v (and_r (ltb x 256) _ h))

pub lawful_raw : (k : ℕ) → Lawful (raw k)
lawful_raw k = record {
  back = λ xs o a n e.
      picked (leb k (length xs)) (got (take k xs) k) 5 0 e λ t e1.
      let ea : take k xs ≡ a = cc in
      let en : k ≡ n = cc in
      let h : k ≤ length xs = leb→le k (length xs) t in
      subst₂ (λ q m. Was (raw k) xs q m) ea en (record {
        took = refl;
        within = h;
        okay = subst (λ m. T (digits (eights m) (take k xs))) (length-take-le k xs h) (octets_digits (take k xs) (octets_take k xs o));
      });
  forth = λ a h s.
      let n : length a ≡ k = digits-length k a h in
      let m : k ≤ length (a ++ s) = rw length-append (omega arith) in
      pick_yes (leb k (length (a ++ s))) _ _ (le→leb k (length (a ++ s)) m) ∙ ap₂ got (take_at a s k n) (sym n);
  octets = λ a h. digits_octets k a h;
}

-- ---- the same octets seen as another type

module _ {A B : Type 0} (f : A → B) (g : B → A) (fits : B → Bool) where
  pub lawful_via : {c : Codec A} → Lawful c
      → ((a : A) → T (c.okay a) → (g (f a) ≡ a) × T (fits (f a))) → ((b : B) → T (fits b) → T (c.okay (g b)) → f (g b) ≡ b) → Lawful (via f g fits c)
  lawful_via {c} L to from = record {
    back = λ xs o b n e.
        found_map f (c.read xs) e λ a e1 eb.
        let u = L.back xs o a n e1 in
        let t = to a u.okay in
        subst (λ q. Was (via f g fits c) xs q n) eb (record {
          took = u.took ∙ ap c.write (sym t.0);
          within = u.within;
          okay = and_in (fits (f a)) _ t.1 (subst (λ q. T (c.okay q)) (sym t.0) u.okay);
        });
    forth = λ b k s.
        rw (L.forth (g b) (and_r (fits b) _ k) s)
        (ap (λ q. got q (length (c.write (g b)))) (from b (and_l (fits b) _ k) (and_r (fits b) _ k)));
    octets = λ b k. L.octets (g b) (and_r (fits b) _ k);
  }

pub lawful_number : (k : ℕ) → Lawful (number k)
unfolding number
lawful_number k =
    lawful_via (join (eights k)) (cut (eights k)) (λ n. ltb n (2 ^ total (eights k))) (lawful_raw k)
    (λ v h. (cut-join (eights k) v h, lt→ltb (join (eights k) v) (2 ^ total (eights k)) (join_lt (eights k) v h)))
    (λ n h _. join-cut (eights k) n (ltb→lt n (2 ^ total (eights k)) h))

pub number_okay : (k n : ℕ) → n < 2 ^ total (eights k) → T ((number k).okay n)
unfolding number
number_okay k n h = and_in (ltb n (2 ^ total (eights k))) _ (lt→ltb n (2 ^ total (eights k)) h) (cut-digits (eights k) n h)

pub number_under : (k n : ℕ) → T ((number k).okay n) → n < 2 ^ total (eights k)
unfolding number
number_under k n t = ltb→lt n (2 ^ total (eights k)) (and_l (ltb n (2 ^ total (eights k))) _ t)

-- one octet is its own number
join_one : (n : ℕ) → join (eights 1) (n ∷ []) ≡ n
unfolding join total
join_one n = omega arith

pub number_one : (n : ℕ) (t : List ℕ) → (number 1).read (n ∷ t) ≡ got n 1
unfolding number
number_one n t = rw (le-leb 1 (suc (length t)) (omega arith)) (ap (λ x. got x 1) (join_one n))

-- ---- a further test

pub lawful_guard : {A : Type 0} (n : ℕ) (test : A → Bool) {c : Codec A} → Lawful c → Lawful (guard n test c)
lawful_guard n test {c} L = record {
  back = λ xs o a k e.
      found-check n test (c.read xs) e λ e1 t.
      let w = L.back xs o a k e1 in
      record { took = w.took; within = w.within; okay = and_in (c.okay a) (test a) w.okay t };
  forth = λ a k r. rw (L.forth a (and_l (c.okay a) (test a) k) r) (pick_yes (test a) _ _ (and_r (c.okay a) (test a) k));
  octets = λ a k. L.octets a (and_l (c.okay a) (test a) k);
}

-- ---- there or not: the test of a blank passes at its value and at no other

pub record Only {A : Type 0} (z : Blank A) : Type 0 where
  pub is : (a : A) → T (z.test a) → a ≡ z.value
  pub yes : T (z.test z.value)

pub lawful_absent : {A : Type 0} {z : Blank A} → Only z → Lawful (absent z)
lawful_absent {z} u = record {
  back = λ xs o a n e.
      let ea : z.value ≡ a = cc in
      let en : 0 ≡ n = cc in
      record { took = ap (λ m. take m xs) (sym en); within = omega arith; okay = subst (λ x. T (z.test x)) ea u.yes };
  forth = λ a k r. ap (λ x. got x 0) (sym (u.is a k));
  octets = λ a k. tt;
}

pub lawful_opt : {A : Type 0} {z : Blank A} → Only z → (b : Bool) {c : Codec A} → Lawful c → Lawful (opt z b c)
lawful_opt u true L = L
lawful_opt u false L = lawful_absent u

-- ---- one after the other

pub lawful_seq : {A B : Type 0} {c : Codec A} {d : A → Codec B} → Lawful c → ((a : A) → Lawful (d a)) → Lawful (seq c d)
lawful_seq {c} {d} L M = record {
  back = λ xs o p n e.
      found-then xs (c.read xs) (λ a r. map_res (pair_up a) ((d a).read r)) e λ a k j e1 e2 en.
      found_map (pair_up a) ((d a).read (drop k xs)) e2 λ b e3 ep.
      let u = L.back xs o a k e1 in
      let v = (M a).back (drop k xs) (octets_drop k xs o) b j e3 in
      let h : j ≤ length xs - k = subst (j ≤◌) (length-drop k xs) v.within in
      let hk : k ≤ length xs = u.within in
      subst (λ q. Was (seq c d) xs q n) ep (record {
        took = ap (λ m. take m xs) (sym en) ∙ take-add k j xs ∙ ap₂ ◌++◌ u.took v.took;
        within = omega arith;
        okay = and_in (c.okay a) _ u.okay v.okay;
      });
  forth = λ p k r.
      let w : List ℕ = c.write p.0 in
      let x : List ℕ = (d p.0).write p.1 in
      rw (append_assoc w x r, L.forth p.0 (and_l (c.okay p.0) _ k) (x ++ r), drop-append_seam w (x ++ r), (M p.0).forth p.1 (and_r (c.okay p.0) _ k) r, length-append w x);
  octets = λ p k.
      octets_++ (c.write p.0) ((d p.0).write p.1) (L.octets p.0 (and_l (c.okay p.0) _ k))
      ((M p.0).octets p.1 (and_r (c.okay p.0) _ k));
}

-- octets, one by one
pub octets_all : (xs : List ℕ) → ((i : ℕ) → get_or xs i 0 < 256) → Octets xs
octets_all [] h = tt
octets_all (x ∷ xs) h = and_in (ltb x 256) _ (lt→ltb x 256 (h 0)) (octets_all xs (λ i. h (suc i)))
