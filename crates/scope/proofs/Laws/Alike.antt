-- Two accepted fields whose items off a list are alike: by what is viewed, and by what they hold.
use Rattle.std.specs.Prelude.{◌≡◌, refl, Bool, true, false, length}
use Rattle.std.proofs.Math.Path.{sym, ap, subst}
use Rattle.std.proofs.Common.{◌∙◌, eqb-true}
use mathlib.Core.List.{List, []}
use Prim.Native.Nat.{ℕ, suc, ◌-◌, ◌<◌}
use native.Mathlib.Omega.{arith}
use Rattle.std.proofs.Math.Dec.{T, eqb}
use Rattle.std.proofs.Math.ListN.{get_or}
use Rattle.codec.specs.Pick.{pick}
use Rattle.codec.specs.Codec.{Octets}
use Rattle.codec.specs.Item.{Item}
use Rattle.codec.specs.Field.{flags, Contents, texts_of}
use Rattle.codec.proofs.Laws.Field.{indicator_lt, flag_zero}
use Rattle.papers.specs.Papers.{paper_of}
use Rattle.scope.specs.Views.{is_item, present}
use Rattle.scope.specs.Desk.{listed}
use Rattle.scope.specs.Alike.{Alike}
use Rattle.scope.proofs.Laws.Reading.{Read, read_okay}
use Rattle.scope.proofs.Laws.Views.{nth_item, item_in, item_next, view_number_lem, part_is_text}

-- contents that are alike in flag and text, wherever the list has no item
abbrev pub HeldAlike : List Item → ℕ → Contents → Contents → Type 0
HeldAlike its list r q =
    (j : ℕ) → j < length its → listed list (suc j) ≡ false → (get_or (flags r.0) j 0 ≡ get_or (flags q.0) j 0) × (get_or (texts_of its r) j [] ≡ get_or (texts_of its q) j [])

-- a flag is told by whether it is 1
same_flag : (n m i : ℕ) → n < 256 → m < 256 → eqb (get_or (flags n) i 0) 1 ≡ eqb (get_or (flags m) i 0) 1 → get_or (flags n) i 0 ≡ get_or (flags m) i 0
same_flag n m i h k e = go (eqb (get_or (flags m) i 0) 1) refl
  where
    go : (b : Bool) → eqb (get_or (flags m) i 0) 1 ≡ b → get_or (flags n) i 0 ≡ get_or (flags m) i 0
    go true u = eqb-true (get_or (flags n) i 0) 1 (e ∙ u) ∙ sym (eqb-true (get_or (flags m) i 0) 1 u)
    go false u = flag_zero n i h (e ∙ u) ∙ sym (flag_zero m i k u)

same_number : (x y : Bool) → ◌≡◌ {A = ℕ} (pick x 0 15) (pick y 0 15) → x ≡ y
same_number true true e = refl
same_number true false e = absurd (omega arith)
same_number false true e = absurd (omega arith)
same_number false false e = refl

module _ {cat : ℕ} {s t : List ℕ} {n m : ℕ} (os : Octets s) (ot : Octets t) (r : Read cat s n) (q : Read cat t m) (list : ℕ) where
  -- by what is viewed and by what is held
  pub alike_held : Alike cat list s t → HeldAlike (paper_of cat) list r.what q.what
  unfolding present
  alike_held a j h e =
      let i : T (is_item (paper_of cat) (suc j)) = nth_item (paper_of cat) j h in
      let z : suc j - 1 ≡ j = omega arith in
      let b = same_number (present r.what (suc j)) (present q.what (suc j)) (sym (view_number_lem r (suc j) i) ∙ (a (suc j) i e).0 ∙ view_number_lem q (suc j) i) in
      let c = sym (part_is_text r (suc j) i os) ∙ (a (suc j) i e).1 ∙ part_is_text q (suc j) i ot in (
        same_flag r.what.0 q.what.0 j (indicator_lt (paper_of cat) r.what (read_okay os r)) (indicator_lt (paper_of cat) q.what (read_okay ot q))
            (subst (λ k. eqb (get_or (flags r.what.0) k 0) 1 ≡ eqb (get_or (flags q.what.0) k 0) 1) z b),
        subst (λ k. get_or (texts_of (paper_of cat) r.what) k [] ≡ get_or (texts_of (paper_of cat) q.what) k []) z c,
      )

  pub held_alike : HeldAlike (paper_of cat) list r.what q.what → Alike cat list s t
  unfolding present
  held_alike a item i e =
      let b = a (item - 1) (item_in r item i) (ap (listed list) (item_next r item i) ∙ e) in
      (view_number_lem r item i ∙ ap (λ x. pick (eqb x 1) 0 15) b.0 ∙ sym (view_number_lem q item i), part_is_text r item i os ∙ b.1 ∙ sym (part_is_text q item i ot))
