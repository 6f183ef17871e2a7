-- The parts of a field, one behind the other, are its octets behind the indicator.
use Rattle.std.specs.Prelude.{◌≡◌, leb, take, drop, set}
use Rattle.std.proofs.Math.Path.{refl, ap, ap₂}
use Rattle.std.proofs.Common.{sym, ◌∙◌, leb→le, length-drop, take_all, drop-cons, length-take-le}
use mathlib.Core.List.{List, [], ◌∷◌, ◌++◌}
use Prim.Native.Nat.{ℕ, zero, suc, ◌+◌, ◌-◌, ◌≤◌, ◌<◌}
use native.Mathlib.Omega.{arith}
use Rattle.std.proofs.Math.Dec.{T}
use Rattle.std.proofs.Math.ListN.{length, get_or}
use Rattle.codec.specs.Codec.{Octets}
use Rattle.codec.specs.Field.{flags, texts_of, flat, before}
use Rattle.codec.specs.Meaning.{len_of}
use Rattle.codec.proofs.Laws.Tests.{and_l, and_r}
use Rattle.codec.proofs.Laws.Field.{length-texts}
use Rattle.codec.proofs.Laws.View.{before_most, front_flat}
use Rattle.codec.proofs.Laws.Change.{flat-set}
use Rattle.papers.specs.Papers.{paper_of, items_of}
use Rattle.scope.specs.Views.{is_item}
use Rattle.scope.proofs.Laws.Reading.{Read, read_front}
use Rattle.scope.proofs.Laws.Views.{field_is, nth_item, part_is_text}
use Rattle.demands.specs.Terms.{numbered}
use Rattle.demands.specs.Demands.{parts}
use Rattle.demands.specs.Defined.{program}

module _ {cat : ℕ} {s : List ℕ} {n : ℕ} (o : Octets s) (r : Read cat s n) where
  abbrev ts : List (List ℕ)
  ts = texts_of (paper_of cat) r.what

  many : length ts ≡ items_of cat
  unfolding texts_of
  many = length-texts (flags r.what.0) (paper_of cat) r.what.1

  pub parts_from : (k i : ℕ) → i + k ≤ items_of cat → parts program cat s i k ≡ flat (take k (drop i ts))
  unfolding is_item flat
  parts_from zero i h = refl
  parts_from (suc k) i h =
      let l : length ts ≡ items_of cat = many in
      let lt : i < length ts = omega arith in
      let z : suc i - 1 ≡ i = omega arith in
      let t : T (is_item (paper_of cat) (suc i)) = nth_item (paper_of cat) i (omega arith) in
      ap₂ ◌++◌ (part_is_text r (suc i) t o ∙ ap (λ x. get_or ts x []) z) (parts_from k (suc i) (omega arith)) ∙ ap (λ x. flat (take (suc k) x)) (sym (drop-cons ts i [] lt))

  pub field_parts : take (len_of s) s ≡ len_of s ∷ r.what.0 ∷ parts program cat s 0 (items_of cat)
  field_parts =
      let l : length ts ≡ items_of cat = many in
      field_is (paper_of cat) s r.what (read_front o r)
      ∙ ap (λ x. len_of s ∷ r.what.0 ∷ x) (ap flat (sym (take_all (items_of cat) ts (omega arith))) ∙ sym (parts_from (items_of cat) 0 (omega arith)))

  module _ (item : ℕ) (h : T (numbered cat item)) where
    low : 1 ≤ item
    low = leb→le 1 item (and_l (leb 1 item) _ h)

    high : item ≤ items_of cat
    high = leb→le item (items_of cat) (and_r (leb 1 item) _ h)

    front_parts : flat (take (item - 1) ts) ≡ parts program cat s 0 (item - 1)
    front_parts = let lo : 1 ≤ item = low in let hi : item ≤ items_of cat = high in sym (parts_from (item - 1) 0 (omega arith))

    back_parts : flat (drop (suc (item - 1)) ts) ≡ parts program cat s item (items_of cat - item)
    back_parts =
        let lo : 1 ≤ item = low in
        let hi : item ≤ items_of cat = high in
        let l : length ts ≡ items_of cat = many in
        let k : suc (item - 1) ≡ item = omega arith in
        ap (λ x. flat (drop x ts)) k
        ∙ ap flat (sym (take_all (items_of cat - item) (drop item ts) (omega (arith, length-drop item ts))))
        ∙ sym (parts_from (items_of cat - item) item (omega arith))

    -- with the item's octets set to x
    pub parts_with : (x : List ℕ) → flat (set ts (item - 1) x) ≡ parts program cat s 0 (item - 1) ++ (x ++ parts program cat s item (items_of cat - item))
    parts_with x =
        let lo : 1 ≤ item = low in
        let hi : item ≤ items_of cat = high in
        let l : length ts ≡ items_of cat = many in
        flat-set ts (item - 1) x (omega arith) ∙ ap₂ (λ a b. a ++ (x ++ b)) front_parts back_parts

    -- how many octets stand before it
    pub before_parts : before ts (item - 1) ≡ length (parts program cat s 0 (item - 1))
    before_parts =
        let lo : 1 ≤ item = low in
        let hi : item ≤ items_of cat = high in
        let l : length ts ≡ items_of cat = many in
        let m : before ts (item - 1) + length (get_or ts (item - 1) []) ≤ length (flat ts) = before_most ts (item - 1) (omega arith) in
        sym (length-take-le (before ts (item - 1)) (flat ts) (omega arith)) ∙ ap length (front_flat ts (item - 1) ∙ front_parts)
