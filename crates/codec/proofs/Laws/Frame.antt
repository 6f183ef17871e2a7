-- LEN around a lawful codec: both round trips of a field, and acceptance exactly of what is laid out.
use Rattle.std.specs.Prelude.{◌≡◌, Bool, true, false, T, ltb, leb, eqb}
use Rattle.std.proofs.Math.Path.{refl, sym, ap, ap₂, subst}
use Rattle.std.proofs.Common.{◌∙◌, le_of_eq, lt→ltb, le→leb}
use mathlib.Core.List.{List, [], ◌∷◌, ◌++◌, append-nil, head-eq_of_cons-eq, tail-eq_of_cons-eq}
use Prim.Native.Nat.{ℕ, suc, ◌-◌, ◌≤◌, ◌<◌}
use native.Mathlib.Omega.{arith}
use Rattle.std.proofs.Math.Dec.{ltb→lt, leb→le}
use Rattle.std.proofs.Math.ListN.{length, take, drop, take-append-drop, length-append, drop_of_length-le}
use Rattle.std.proofs.Math.Seq.{take_at, take_all, length-take-le}
use borrow.Author.Tests.{lt-ltb, le-ltb, ltb-false, eqb-true, eq-eqb, ne_eqb}
use Rattle.codec.specs.Pick.{pick}
use Rattle.codec.specs.Codec.{Octets, Res, got, bad, map_res, Codec, Lawful, via}
use Rattle.codec.specs.Frame.{Outcome, accepted, refused, settle, read_frame, write_frame, okay_frame}
use Rattle.codec.specs.Meaning.{len_of}
use Rattle.codec.proofs.Laws.Tests.{and_in, and_l, and_r}
use Rattle.codec.proofs.Laws.Codec.{octets_take}

IsAccepted : {A : Type 0} → Outcome A → Type 0
IsAccepted (accepted r) = Unit {0}
IsAccepted (refused n p) = ⊥

pub refused≢accepted {ℓ} : {X : Type ℓ} {A : Type 0} {n p : ℕ} {r : A} → refused n p ≡ accepted r → X
unfolding IsAccepted
refused≢accepted e = absurd (subst IsAccepted (sym e) tt)

-- a test that refuses did not
pub not_refused {ℓ} : {X : Type ℓ} {A : Type 0} (b : Bool) (n p : ℕ) (m : Outcome A) {r : A} → pick b (refused n p) m ≡ accepted r
    → (b ≡ false → m ≡ accepted r → X) → X
not_refused true n p m e k = refused≢accepted e
not_refused false n p m e k = k refl e

pub settled : {A : Type 0} (m : ℕ) (x : Res A) (r : A) → settle m x ≡ accepted r → x ≡ got r m
unfolding settle
settled m (got q n) r e = go (eqb n m) refl e
  where
    go : (b : Bool) → eqb n m ≡ b → pick b (accepted q) (refused 9 (suc n)) ≡ accepted r → got q n ≡ got r m
    go true e1 e2 = let e3 : q ≡ r = cc in ap₂ got e3 (eqb-true n m e1)
    go false e1 e2 = refused≢accepted e2
settled m (bad n s) r e = refused≢accepted e

pub record Front {A : Type 0} (c : Codec A) (s : List ℕ) (r : A) : Type 0 where
  pub front : take (len_of s) s ≡ write_frame c r
  pub len_is : length (write_frame c r) ≡ len_of s
  pub okay : T (okay_frame c r)

module _ {A : Type 0} {c : Codec A} (L : Lawful c) where
  -- what was read is written again, up to LEN
  pub written_again : (len : ℕ) (t : List ℕ) → Octets (len ∷ t) → (r : A) → read_frame c (len ∷ t) ≡ accepted r
      → (write_frame c r ++ drop (len - 1) t ≡ len ∷ t) × T (okay_frame c r)
  unfolding read_frame write_frame okay_frame
  written_again len t o r e =
      not_refused (ltb len 2) 3 0 _ e λ b1 e1.
      not_refused (ltb (suc (length t)) len) 2 0 _ e1 λ b2 e2.
      let h1 : 2 ≤ len = ltb-false len 2 b1 in
      let h2 : len ≤ suc (length t) = ltb-false (suc (length t)) len b2 in
      let h3 : len < 256 = ltb→lt len 256 (and_l (ltb len 256) _ o) in
      let x : List ℕ = take (len - 1) t in
      let n : length x ≡ len - 1 = length-take-le (len - 1) t (omega arith) in
      let u = L.back x (octets_take (len - 1) t (and_r (ltb len 256) _ o)) r (len - 1) (settled (len - 1) (c.read x) r e2) in
      let w : c.write r ≡ x = sym u.took ∙ take_all (len - 1) x (le_of_eq n) in
      let l : length (c.write r) ≡ len - 1 = ap length w ∙ n in
      let l1 : suc (length (c.write r)) ≡ len = omega arith in (
        ap₂ ◌∷◌ l1 (ap (◌++ drop (len - 1) t) w ∙ take-append-drop (len - 1) t),
        and_in (c.okay r) _ u.okay (and_in (leb 1 (length (c.write r))) _ (le→leb 1 (length (c.write r)) (omega arith)) (le→leb (length (c.write r)) 254 (omega arith))),
      )

  -- what was written is read, whatever follows
  pub read_again : (r : A) → T (okay_frame c r) → (rest : List ℕ) → read_frame c (write_frame c r ++ rest) ≡ accepted r
  unfolding read_frame write_frame okay_frame settle
  read_again r k rest =
      let y : List ℕ = c.write r in
      let h1 : 1 ≤ length y = leb→le 1 (length y) (search (and_l, and_r)) in
      let n : length y ≡ suc (length y) - 1 = omega arith in
      let e : c.read y ≡ got r (length y) = subst (λ z. c.read z ≡ got r (length y)) (append-nil y) (L.forth r (and_l (c.okay r) _ k) []) in
      rw (le-ltb (suc (length y)) 2 (omega arith), le-ltb (suc (length (y ++ rest))) (suc (length y)) (rw length-append (omega arith)), take_at y rest (suc (length y) - 1) n, e, eq-eqb (length y) (suc (length y) - 1) n)

  -- a field with nothing behind it
  pub written_whole : (t : List ℕ) → Octets (suc (length t) ∷ t) → (r : A) → read_frame c (suc (length t) ∷ t) ≡ accepted r → (c.write r ≡ t) × T (c.okay r)
  unfolding write_frame okay_frame
  written_whole t o r e =
      let w = written_again (suc (length t)) t o r e in
      let d : drop (suc (length t) - 1) t ≡ [] = drop_of_length-le t {i = suc (length t) - 1} (omega arith) in
      (sym (append-nil (c.write r)) ∙ ap (c.write r ++◌) (sym d) ∙ tail-eq_of_cons-eq w.0, and_l (c.okay r) _ w.1)

  -- a field is accepted exactly if its first LEN octets are what the codec writes
  pub accepted_front : (s : List ℕ) → Octets s → (r : A) → read_frame c s ≡ accepted r → Front c s r
  unfolding read_frame len_of write_frame
  accepted_front [] o r e = refused≢accepted e
  accepted_front (len ∷ t) o r e =
      let w = written_again len t o r e in
      let l : length (write_frame c r) ≡ len = head-eq_of_cons-eq w.0 in
      record { front = ap (take len) (sym w.0) ∙ take_at (write_frame c r) (drop (len - 1) t) len l; len_is = l; okay = w.1 }

  pub front_accepted : (s : List ℕ) (r : A) → T (okay_frame c r) → take (len_of s) s ≡ write_frame c r → read_frame c s ≡ accepted r
  front_accepted s r k e =
      subst (λ x. read_frame c x ≡ accepted r) (ap (◌++ drop (len_of s) s) (sym e) ∙ take-append-drop (len_of s) s) (read_again r k (drop (len_of s) s))

  pub frame_injective : (a b : A) → T (okay_frame c a) → T (okay_frame c b) → write_frame c a ≡ write_frame c b → a ≡ b
  frame_injective a b h k e =
      let p : read_frame c (write_frame c a ++ []) ≡ accepted a = read_again a h [] in
      let q : read_frame c (write_frame c b ++ []) ≡ accepted b = read_again b k [] in
      let s : read_frame c (write_frame c a ++ []) ≡ read_frame c (write_frame c b ++ []) = ap (λ y. read_frame c (y ++ [])) e in
      cc

  -- what is written are octets
  pub frame_octets : (r : A) → T (okay_frame c r) → Octets (write_frame c r)
  unfolding okay_frame write_frame
  frame_octets r k =
      let h : length (c.write r) ≤ 254 = leb→le (length (c.write r)) 254 (search (and_l, and_r)) in
      and_in (ltb (suc (length (c.write r))) 256) _ (lt→ltb (suc (length (c.write r))) 256 (omega arith)) (L.octets r (and_l (c.okay r) _ k))

-- ---- a field seen as another type

abbrev pub map_outcome : {A B : Type 0} → (A → B) → Outcome A → Outcome B
map_outcome f (accepted a) = accepted (f a)
map_outcome f (refused n p) = refused n p

map_pick : {A B : Type 0} (f : A → B) (b : Bool) (x y : Outcome A) → map_outcome f (pick b x y) ≡ pick b (map_outcome f x) (map_outcome f y)
map_pick f true x y = refl
map_pick f false x y = refl

settle-map : {A B : Type 0} (f : A → B) (m : ℕ) (x : Res A) → settle m (map_res f x) ≡ map_outcome f (settle m x)
unfolding settle
settle-map f m (got r n) = sym (map_pick f (eqb n m) (accepted r) (refused 9 (suc n)))
settle-map f m (bad e p) = refl

pub frame-via : {A B : Type 0} (f : A → B) (g : B → A) (fits : B → Bool) (c : Codec A) (s : List ℕ) → read_frame (via f g fits c) s ≡ map_outcome f (read_frame c s)
unfolding read_frame
frame-via f g fits c [] = refl
frame-via f g fits c (len ∷ t) =
    ap (λ x. pick (ltb len 2) (refused 3 0) (pick (ltb (suc (length t)) len) (refused 2 0) x)) (settle-map f (len - 1) (c.read (take (len - 1) t)))
    ∙ ap (pick (ltb len 2) (refused 3 0)) (sym (map_pick f (ltb (suc (length t)) len) (refused 2 0) (settle (len - 1) (c.read (take (len - 1) t)))))
    ∙ sym (map_pick f (ltb len 2) (refused 3 0) (pick (ltb (suc (length t)) len) (refused 2 0) (settle (len - 1) (c.read (take (len - 1) t)))))

-- ---- what reading a field answers, by the tests in their order: 2 for nothing, 3, 2 for too little, what is refused behind LEN, 9

module _ {A : Type 0} (c : Codec A) where
  pub frame_empty : read_frame c [] ≡ refused 2 0
  unfolding read_frame
  frame_empty = refl

  module _ (len : ℕ) (t : List ℕ) where
    pub frame_small : len < 2 → read_frame c (len ∷ t) ≡ refused 3 0
    unfolding read_frame
    frame_small h = rw (lt-ltb len 2 h) refl

    module _ (h : 2 ≤ len) where
      pub frame_short : suc (length t) < len → read_frame c (len ∷ t) ≡ refused 2 0
      unfolding read_frame
      frame_short k = rw (le-ltb len 2 h, lt-ltb (suc (length t)) len k) refl

      module _ (k : len ≤ suc (length t)) where
        pub frame_whole : read_frame c (len ∷ t) ≡ settle (len - 1) (c.read (take (len - 1) t))
        unfolding read_frame
        frame_whole = rw (le-ltb len 2 h, le-ltb (suc (length t)) len k) refl

        pub frame_bad : {e p : ℕ} → c.read (take (len - 1) t) ≡ bad e p → read_frame c (len ∷ t) ≡ refused e (suc p)
        unfolding settle
        frame_bad e = frame_whole ∙ rw e refl

        pub frame_left : {r : A} {n : ℕ} → c.read (take (len - 1) t) ≡ got r n → (n ≡ len - 1 → ⊥) → read_frame c (len ∷ t) ≡ refused 9 (suc n)
        unfolding settle
        frame_left {n = n} e x = frame_whole ∙ rw (e, ne_eqb n (len - 1) x) refl
