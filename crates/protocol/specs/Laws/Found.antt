-- What the parser's answer says: a line that is a request has its name and, behind it, exactly the words of its form, each of its kind.
use Rattle.std.specs.Prelude.{◌≡◌, refl, Bool, true, false, List, [], ◌∷◌, ℕ, zero, suc, ◌+◌, ◌-◌, ◌≤◌, ◌<◌, eqb, length, get_or, drop}
use Rattle.std.proofs.Common.{ap, arith, eqb-true}
use Rattle.codec.specs.Pick.{pick}
use Rattle.protocol.specs.Line.{nth, same}
use Rattle.protocol.specs.Forms.{fits, Form, first_wrong, judged_as, judged_by, Judged, Asks, Wrong}

-- words that are right one by one
pub record Right (ks : List ℕ) (ws : List (List ℕ)) : Type 0 where
  pub count : length ws ≡ length ks
  pub each : (k : ℕ) → k < length ks → fits (get_or ks k 0) (nth ws k) ≡ true

pub none_wrong : (ks : List ℕ) (ws : List (List ℕ)) (n : ℕ) → 1 ≤ n → first_wrong ks ws n ≡ 0 → Right ks ws
unfolding first_wrong
none_wrong [] [] n h e = record { count = refl; each = λ k l. absurd (omega arith) }
none_wrong [] (w ∷ ws) n h e = absurd (omega arith)
none_wrong (k ∷ ks) [] n h e = absurd (omega arith)
none_wrong (k ∷ ks) (w ∷ ws) n h e = by_kind (fits k w) refl e (none_wrong ks ws (n + 1) (omega arith))
  where
    by_kind : (b : Bool) → fits k w ≡ b → pick b (first_wrong ks ws (n + 1)) n ≡ 0 → (first_wrong ks ws (n + 1) ≡ 0 → Right ks ws) → Right (k ∷ ks) (w ∷ ws)
    by_kind true t f rest = let r = rest f in record { count = ap suc r.count; each = at r }
      where
        at : Right ks ws → (i : ℕ) → i < length (k ∷ ks) → fits (get_or (k ∷ ks) i 0) (nth (w ∷ ws) i) ≡ true
        at r zero l = t
        at r (suc i) l = r.each i (omega arith)
    by_kind false t f rest = absurd (omega arith)

-- a request of a form
pub record IsOf (f : Form) (ws : List (List ℕ)) : Type 0 where
  pub named : same (nth ws 0) f.name ≡ true
  pub right : Right f.kinds (drop 1 ws)

abbrev no_form : Form
no_form = record { name = []; kinds = [] }

number_of : Judged → ℕ
number_of (Asks q) = q
number_of (Wrong n) = n

pub found : (q : ℕ) (fs : List Form) (ws : List (List ℕ)) (r : ℕ) → judged_by q fs ws ≡ Asks r → (q ≤ r) × IsOf (get_or fs (r - q) no_form) ws
unfolding judged_by judged_as number_of
found q [] ws r e = let z : ◌≡◌ {A = ℕ} 0 1 = cc in absurd (omega arith)
found q (f ∷ fs) ws r e = by_name (same (nth ws 0) f.name) refl e (found (q + 1) fs ws r)
  where
    here : same (nth ws 0) f.name ≡ true → (b : Bool) → eqb (first_wrong f.kinds (drop 1 ws) 2) 0 ≡ b → pick b (Asks q) (Wrong (first_wrong f.kinds (drop 1 ws) 2)) ≡ Asks r
        → (q ≤ r) × IsOf (get_or (f ∷ fs) (r - q) no_form) ws
    here t true u g =
        let h : q ≡ r = ap number_of g in
        let z : r - q ≡ 0 = omega arith in
        (omega arith, rw z (record { named = t; right = none_wrong f.kinds (drop 1 ws) 2 (omega arith) (eqb-true (first_wrong f.kinds (drop 1 ws) 2) 0 u) }))
    here t false u g = let z : ◌≡◌ {A = ℕ} 0 1 = cc in absurd (omega arith)

    by_name : (b : Bool) → same (nth ws 0) f.name ≡ b → pick b (judged_as q (first_wrong f.kinds (drop 1 ws) 2)) (judged_by (q + 1) fs ws) ≡ Asks r
        → (judged_by (q + 1) fs ws ≡ Asks r → (q + 1 ≤ r) × IsOf (get_or fs (r - (q + 1)) no_form) ws) → (q ≤ r) × IsOf (get_or (f ∷ fs) (r - q) no_form) ws
    by_name true t g rest = here t (eqb (first_wrong f.kinds (drop 1 ws) 2) 0) refl g
    by_name false t g rest =
        let p = rest g in
        let z : r - q ≡ suc (r - (q + 1)) = omega (arith, p.0) in
        (omega (arith, p.0), rw z p.1)
