-- Octets laid into an array by place: what the code of each level promises, and how one goes behind another.
use Rattle.std.specs.Prelude.{◌≡◌, Bool, true, false, List, ◌++◌, ℕ, ◌+◌, T, ℤ, length, take, drop}
use Rattle.std.proofs.Common.{sym, subst, arith, length-append}
use Rattle.codec.specs.Codec.{Codec, Blank, absent, opt, guard, seq, via}
use Rattle.codec.specs.Line.{Held}
use Rattle.codec.specs.Item.{beside}
use Rattle.codec.proofs.Laws.Sets.{Put, put_behind, put_none}
use Rattle.codec.proofs.Laws.Tests.{and_l, and_r}
use Rattle.writer.specs.Laying.{Lays}

-- ---- each way of putting codecs together

module _ {l m : List ℕ} {at next : ℕ} where
  pub lays_via : {A B : Type 0} (f : A → B) (g : B → A) (fits : B → Bool) (c : Codec A) {b : B} → Lays c (g b) l at m next → Lays (via f g fits c) b l at m next
  lays_via f g fits c {b} h = record { laid = λ t r. h.laid (and_r (fits b) _ t) r }

  pub lays_guard : {A : Type 0} (e : ℕ) (test : A → Bool) (c : Codec A) {a : A} → Lays c a l at m next → Lays (guard e test c) a l at m next
  lays_guard e test c {a} h = record { laid = λ t r. h.laid (and_l (c.okay a) (test a) t) r }

  pub lays_there : {A : Type 0} (z : Blank A) (c : Codec A) {b : Bool} → b ≡ true → {a : A} → Lays c a l at m next → Lays (opt z b c) a l at m next
  lays_there z c e {a} h = subst (λ x. Lays (opt z x c) a l at m next) (sym e) h

-- nothing is laid
pub lays_none : {A : Type 0} (z : Blank A) {a : A} {l : List ℕ} {at : ℕ} → Lays (absent z) a l at l at
lays_none z {l = l} {at = at} = record { laid = λ t r. put_none l at }

pub lays_absent : {A : Type 0} (z : Blank A) (c : Codec A) {b : Bool} → b ≡ false → {a : A} {l : List ℕ} {at : ℕ} → Lays (opt z b c) a l at l at
lays_absent z c e {a} {l} {at} = subst (λ x. Lays (opt z x c) a l at l at) (sym e) (lays_none z)

-- one behind the other; of the second it is known that the first can be written
pub lays_seq : {A B : Type 0} (c : Codec A) (d : A → Codec B) {a : A} {b : B} {l m q : List ℕ} {at next last : ℕ}
    → Lays c a l at m next → (T (c.okay a) → Lays (d a) b m next q last) → Lays (seq c d) (a, b) l at q last
lays_seq c d {a} {b} {l} {m} {q} {at} {next} {last} x y = record {
  laid = λ t r.
      let e : length (c.write a ++ (d a).write b) ≡ length (c.write a) + length ((d a).write b) = length-append (c.write a) ((d a).write b) in
      let k : T (c.okay a) = and_l (c.okay a) _ t in
      let p : Put (c.write a) l at m next = x.laid k (omega arith) in
      let f : next ≡ at + length (c.write a) = p.place in
      put_behind p ((y k).laid (and_r (c.okay a) _ t) (omega arith));
}

pub lays_beside : (n : ℕ) (c : Codec Held) (d : Held → Codec Held) {x y : ℕ} {zs : List ℤ} {l m q : List ℕ} {at next last : ℕ}
    → Lays c (x, take n zs) l at m next → (T (c.okay (x, take n zs)) → Lays (d (x, take n zs)) (y, drop n zs) m next q last) → Lays (beside n c d) ((x, y), zs) l at q last
unfolding beside
lays_beside n c d {x} {y} {zs} h k =
    lays_via (λ (a : Held × Held). ((a.0.0, a.1.0), a.0.1 ++ a.1.1)) (λ (b : (ℕ × ℕ) × List ℤ). ((b.0.0, take n b.1), (b.0.1, drop n b.1))) (λ b. true) (seq c d) (lays_seq c d h k)
