-- The keys of a group, octet by octet: the ways out of `group`.
use Rattle.std.specs.Prelude.{◌≡◌, Bool, true, false, ℤ, drop}
use Rattle.std.proofs.Math.Path.{refl, sym, ap}
use Rattle.std.proofs.Common.{◌∙◌, add-one, drop_of_length-le, drop-cons, get_or-drop}
use mathlib.Core.List.{List, [], ◌∷◌, ◌++◌, append_assoc}
use Prim.Native.Nat.{ℕ, suc, ◌+◌, ◌-◌, ◌≤◌, ◌<◌}
use native.Mathlib.Omega.{arith}
use Rattle.std.proofs.Math.ListN.{length, get_or, take, length-drop}
use Rattle.std.proofs.Math.Seq.{take-suc}
use Rattle.papers.specs.Names.{Key}
use Rattle.layout.specs.Record.{number_at}
use Rattle.scope.specs.Sheet.{number_text}
use Rattle.text.specs.Typing.{Types}
use Rattle.text.specs.Laws.Typing.{types_as, types_behind, types_none}
use Rattle.sheet.specs.Keys.{mark_is, meant, slots_in, keys_from, keyed}
use Rattle.sheet.specs.Laws.Numbers.{meant-slots}

keyed-append : (ks js : List Key) (ns : List ℤ) (slot : ℕ) → keyed (ks ++ js) ns slot ≡ keyed ks ns slot ++ keyed js ns (slot + length ks)
unfolding keyed
keyed-append [] js ns slot = let e : slot ≡ slot + 0 = omega arith in ap (keyed js ns) e
keyed-append (k ∷ ks) js ns slot =
    let e : slot + 1 + length ks ≡ slot + suc (length ks) = omega arith in
    ap (number_text k (number_at ns slot) ++◌) (keyed-append ks js ns (slot + 1) ∙ ap (λ i. keyed ks ns (slot + 1) ++ keyed js ns i) e)
    ∙ sym (append_assoc (number_text k (number_at ns slot)) (keyed ks ns (slot + 1)) (keyed js ns (slot + suc (length ks))))

-- t is the group, from where the word began, i the octet
module _ (t : List ℕ) (from i : ℕ) (ns : List ℤ) (slot : ℕ) where
  pub group_end : length t ≤ i → (l : List ℕ) (at : ℕ) → Types (keyed (keys_from (take (i - from) (drop from t)) (drop i t)) ns slot) l at l at
  unfolding keys_from keyed
  group_end h l at = types_as (ap (λ x. keyed (keys_from (take (i - from) (drop from t)) x) ns slot) (sym (drop_of_length-le t h))) (types_none l at)

  module _ (h : i < length t) where
    next : drop i t ≡ get_or t i 0 ∷ drop (i + 1) t
    next = drop-cons t i 0 h ∙ ap (λ j. get_or t i 0 ∷ drop j t) (sym (add-one i))

    module _ {b : Bool} (eb : b ≡ mark_is (get_or t i 0)) {l m : List ℕ} {at mid : ℕ} where
      pub group_mark : b ≡ true → {n : ℕ} → n ≡ slots_in (get_or t i 0) → Types (keyed (meant (get_or t i 0) (take (i - from) (drop from t))) ns slot) l at m mid
          → {q : List ℕ} {last : ℕ} → Types (keyed (keys_from (take (i + 1 - (i + 1)) (drop (i + 1) t)) (drop (i + 1) t)) ns (slot + n)) m mid q last
          → Types (keyed (keys_from (take (i - from) (drop from t)) (drop i t)) ns slot) l at q last
      unfolding keys_from
      group_mark e {n} en a r =
          let w : List ℕ = take (i - from) (drop from t) in
          let z : i + 1 - (i + 1) ≡ 0 = omega arith in
          let k : n ≡ length (meant (get_or t i 0) w) = en ∙ meant-slots (get_or t i 0) w in
          let whole : keys_from w (drop i t) ≡ meant (get_or t i 0) w ++ keys_from [] (drop (i + 1) t) = ap (keys_from w) next ∙ rw (sym eb ∙ e) refl in
          types_as (ap (λ j. keyed (meant (get_or t i 0) w) ns slot ++ keyed (keys_from (take j (drop (i + 1) t)) (drop (i + 1) t)) ns (slot + n)) z
          ∙ ap (λ j. keyed (meant (get_or t i 0) w) ns slot ++ keyed (keys_from [] (drop (i + 1) t)) ns (slot + j)) k
          ∙ sym (keyed-append (meant (get_or t i 0) w) (keys_from [] (drop (i + 1) t)) ns slot)
          ∙ ap (λ x. keyed x ns slot) (sym whole)) (types_behind a r)

      pub group_word : b ≡ false → from ≤ i → Types (keyed (keys_from (take (i + 1 - from) (drop from t)) (drop (i + 1) t)) ns slot) l at m mid
          → Types (keyed (keys_from (take (i - from) (drop from t)) (drop i t)) ns slot) l at m mid
      unfolding keys_from
      group_word e f a =
          let w : List ℕ = take (i - from) (drop from t) in
          let j : i + 1 - from ≡ suc (i - from) = omega arith in
          let k : from + (i - from) ≡ i = omega arith in
          let more : take (i + 1 - from) (drop from t) ≡ w ++ (get_or t i 0 ∷ [])
          = ap (λ x. take x (drop from t)) j ∙ take-suc (drop from t) (i - from) 0 (omega (arith, length-drop from t))
          ∙ ap (λ x. w ++ (x ∷ [])) (get_or-drop from t (i - from) 0 ∙ ap (λ x. get_or t x 0) k) in
          let whole : keys_from w (drop i t) ≡ keys_from (w ++ (get_or t i 0 ∷ [])) (drop (i + 1) t) = ap (keys_from w) next ∙ rw (sym eb ∙ e) refl in
          types_as (ap (λ x. keyed (keys_from x (drop (i + 1) t)) ns slot) more ∙ ap (λ x. keyed x ns slot) (sym whole)) a
