-- The lines of one number, of a position, an altitude and a pressure.
use Rattle.std.specs.Prelude.{◌≡◌, Bool, true, false, List, [], ◌∷◌, ◌++◌, ℕ, ◌+◌, ◌≤◌, eqb, ℤ, length}
use Rattle.std.proofs.Math.Path.{refl, sym, ap}
use Rattle.std.proofs.Common.{ap₂, ◌∙◌, append-nil, arith}
use borrow.Author.Tests.{ne_eqb}
use Rattle.codec.specs.Pick.{pick}
use Rattle.papers.specs.Names.{text, Key, hidden, shown, angle, pressure}
use Rattle.layout.specs.Record.{number_at}
use Rattle.scope.specs.Sheet.{number_text, pressure_text}
use Rattle.text.specs.Typing.{Types}
use Rattle.text.specs.Laws.Typing.{types_as, types_behind, types_none}
use Rattle.sheet.specs.Keys.{meant, slots_in, keyed}

-- ---- keys

pub pressure_keys : (name : List ℕ) (z : ℤ) {l m q : List ℕ} {at next last : ℕ}
    → Types (number_text (shown name) z) l at m next → Types (pressure_text name z) m next q last → Types (number_text (pressure name) z) l at q last
unfolding number_text
pressure_keys name z a b = types_behind a b

-- ---- the marks

module _ (m : ℕ) (w : List ℕ) where
  pub meant_position : m ≡ 64 → meant m w ≡ angle (w ++ text ".LAT") ∷ angle (w ++ text ".LON") ∷ []
  unfolding meant
  meant_position e = rw e refl

  pub meant_altitude : m ≡ 62 → meant m w ≡ shown (w ++ text ".RES") ∷ shown (w ++ text ".GA") ∷ []
  unfolding meant
  meant_altitude e = rw e refl

  pub meant_offset : m ≡ 60 → meant m w ≡ shown w ∷ []
  unfolding meant
  meant_offset e = rw e refl

  pub meant_pressure : m ≡ 63 → meant m w ≡ pressure w ∷ []
  unfolding meant
  meant_pressure e = rw e refl

  pub meant_hidden : m ≡ 58 → meant m w ≡ hidden ∷ []
  unfolding meant
  meant_hidden e = rw e refl

  pub meant_alone : m ≡ 61 → meant m w ≡ shown w ∷ []
  unfolding meant
  meant_alone e = rw e refl

-- ---- how many numbers

pub slots_one : (m : ℕ) → (m ≡ 64 → ⊥) → (m ≡ 62 → ⊥) → 1 ≡ slots_in m
unfolding slots_in
slots_one m p a = rw (ne_eqb m 64 p, ne_eqb m 62 a) refl

pub slots_few : (m : ℕ) → slots_in m ≤ 2
unfolding slots_in
slots_few m = go (eqb m 64) (eqb m 62)
  where
    go : (p a : Bool) → pick p 2 (pick a 2 1) ≤ 2
    go true a = omega arith
    go false true = omega arith
    go false false = omega arith

pub meant-slots : (m : ℕ) (w : List ℕ) → slots_in m ≡ length (meant m w)
unfolding meant slots_in
meant-slots m w = go (eqb m 64) (eqb m 62) (eqb m 63) (eqb m 58)
  where
    go : (p a q h : Bool) → pick p 2 (pick a 2 1)
        ≡ length (pick p (angle (w ++ text ".LAT") ∷ angle (w ++ text ".LON") ∷ []) (pick a (shown (w ++ text ".RES") ∷ shown (w ++ text ".GA") ∷ []) (pick q (pressure w ∷ []) (pick h (hidden ∷ []) (shown w ∷ [])))))
    go true a q h = refl
    go false true q h = refl
    go false false true h = refl
    go false false false true = refl
    go false false false false = refl

-- ---- the text of one number, and of two

module _ (ns : List ℤ) (slot : ℕ) {ks : List Key} where
  pub keyed_one : {k : Key} → ks ≡ k ∷ [] → {l m : List ℕ} {at next : ℕ} {z : ℤ} → z ≡ number_at ns slot → Types (number_text k z) l at m next → Types (keyed ks ns slot) l at m next
  unfolding keyed
  keyed_one {k} e {z = z} ez a = types_as (ap (number_text k) ez ∙ sym (append-nil (number_text k (number_at ns slot))) ∙ ap (λ x. keyed x ns slot) (sym e)) a

  pub keyed_hidden : ks ≡ hidden ∷ [] → (l : List ℕ) (at : ℕ) → Types (keyed ks ns slot) l at l at
  unfolding keyed number_text
  keyed_hidden e l at = types_as (ap (λ x. keyed x ns slot) (sym e)) (types_none l at)

  pub keyed_two : {j k : Key} → ks ≡ j ∷ k ∷ [] → {l m : List ℕ} {at next : ℕ} {y z : ℤ} → y ≡ number_at ns slot → z ≡ number_at ns (slot + 1) → Types (number_text j y ++ number_text k z) l at m next → Types (keyed ks ns slot) l at m next
  unfolding keyed
  keyed_two {j} {k} e {y = y} {z = z} ey ez a =
      types_as (ap₂ (λ a b. number_text j a ++ number_text k b) ey ez ∙ ap (number_text j (number_at ns slot) ++◌) (sym (append-nil (number_text k (number_at ns (slot + 1))))) ∙ ap (λ x. keyed x ns slot) (sym e)) a
