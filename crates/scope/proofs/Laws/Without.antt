-- Contents without the items of a list: what they have of the others, and when two are written alike.
use Rattle.std.specs.Prelude.{◌≡◌, Bool, ◌&&◌, T, ltb, eqb, get_or, drop, set}
use Rattle.std.proofs.Math.Path.{refl, sym, ap, subst}
use Rattle.std.proofs.Common.{ap₂, ◌∙◌, lt-ltb, le-ltb, ltb-true, ltb-false, eqb-true, get_or-set_same, get_or-set_other, get_or-drop}
use Rattle.std.proofs.Math.Bool.{true, false}
use mathlib.Core.List.{List, [], ◌∷◌}
use Prim.Native.Nat.{ℕ, zero, suc, ◌+◌, ◌-◌, ◌≤◌, ◌<◌, zero-le}
use native.Mathlib.Omega.{arith}
use Rattle.std.proofs.lemmas.Bool.{eqb-false}
use Rattle.std.proofs.Math.ListN.{length}
use Rattle.std.proofs.Math.Seq.{ext_get_or}
use Rattle.codec.specs.Pick.{pick}
use Rattle.codec.specs.Item.{Item}
use Rattle.codec.specs.Field.{flags, no_spare, indicator, Contents, body, good_items, texts_of, longest}
use Rattle.codec.specs.Frame.{write_frame}
use Rattle.codec.specs.Change.{set_item, blank_at}
use Rattle.codec.proofs.Laws.Tests.{and_l, and_r}
use Rattle.codec.proofs.Laws.Field.{lawful_body, length-flags, length-texts, same_write}
use Rattle.codec.proofs.Laws.Frame.{frame_injective}
use Rattle.codec.proofs.Laws.Longest.{okay_alone}
use Rattle.codec.proofs.Laws.Change.{set-spliced, blank_okay, blank-text}
use Rattle.codec.proofs.Laws.Alone.{zero_at}
use Rattle.scope.specs.Desk.{listed}
use Rattle.scope.specs.Visitors.{without}
use Rattle.scope.proofs.Laws.Alike.{HeldAlike}

-- ---- place by place

-- the item with index j is one of the first n and withheld
abbrev pub hidden : ℕ → ℕ → ℕ → Bool
hidden list n j = ltb j n && listed list (suc j)

module _ (list n j : ℕ) where
  pub hidden_under : j < n → hidden list n j ≡ listed list (suc j)
  hidden_under h = rw (lt-ltb j n h) refl

  not_hidden : n ≤ j → hidden list n j ≡ false
  not_hidden h = rw (le-ltb j n h) refl

  hidden_others : (j ≡ n → ⊥) → hidden list (suc n) j ≡ hidden list n j
  hidden_others x = ap (◌&& listed list (suc j)) (go (ltb j n) refl)
    where
      go : (b : Bool) → ltb j n ≡ b → ltb j (suc n) ≡ b
      go true e = lt-ltb j (suc n) (omega (arith, ltb-true j n e))
      go false e = le-ltb j (suc n) (omega (arith, ltb-false j n e, x))

-- what is left of xs, with d in every hidden place
pub record Left {A : Type 0} (list n : ℕ) (d : A) (xs ys : List A) : Type 0 where
  pub at : (j : ℕ) → get_or ys j d ≡ pick (hidden list n j) d (get_or xs j d)

module _ {A : Type 0} {list n : ℕ} {d : A} {xs ys : List A} (l : Left list n d xs ys) where
  left_on : listed list (suc n) ≡ true → n < length ys → Left list (suc n) d xs (set ys n d)
  left_on e h = record { at = λ j. go j (eqb j n) refl }
    where
      go : (j : ℕ) (b : Bool) → eqb j n ≡ b → get_or (set ys n d) j d ≡ pick (hidden list (suc n) j) d (get_or xs j d)
      go j true q =
          subst (λ i. get_or (set ys n d) i d ≡ pick (hidden list (suc n) i) d (get_or xs i d)) (sym (eqb-true j n q))
          (get_or-set_same ys n d d h ∙ sym (ap (λ b. pick b d (get_or xs n d)) (hidden_under list (suc n) n (omega arith) ∙ e)))
      go j false q =
          let x : j ≡ n → ⊥ = eqb-false j n q in
          get_or-set_other ys n j d d x ∙ l.at j ∙ ap (λ b. pick b d (get_or xs j d)) (sym (hidden_others list n j x))

  left_off : listed list (suc n) ≡ false → Left list (suc n) d xs ys
  left_off e = record { at = λ j. l.at j ∙ ap (λ b. pick b d (get_or xs j d)) (go j (eqb j n) refl) }
    where
      go : (j : ℕ) (b : Bool) → eqb j n ≡ b → hidden list n j ≡ hidden list (suc n) j
      go j true q =
          subst (λ i. hidden list n i ≡ hidden list (suc n) i) (sym (eqb-true j n q))
          (not_hidden list n n (omega arith) ∙ sym (hidden_under list (suc n) n (omega arith) ∙ e))
      go j false q = sym (hidden_others list n j (eqb-false j n q))

none_hidden : {A : Type 0} (list : ℕ) (d : A) (xs : List A) → Left list 0 d xs xs
none_hidden list d xs = record { at = λ j. sym (ap (λ b. pick b d (get_or xs j d)) (not_hidden list 0 j zero-le)) }

-- of r, with the first n items looked at: it can be written, and has the flags and the texts that are left
pub record Without (its : List Item) (list n : ℕ) (r q : Contents) : Type 0 where
  pub okay : T ((body its).okay q)
  pub flags_left : Left list n 0 (flags r.0) (flags q.0)
  pub texts_left : Left list n [] (texts_of its r) (texts_of its q)

module _ (its : List Item) (few : length its ≤ 8) (list : ℕ) (r : Contents) (k : T ((body its).okay r)) where
  without_is : (n : ℕ) → n ≤ length its → Without its list n r (without its list n r)
  unfolding without texts_of
  without_is zero h = record { okay = k; flags_left = none_hidden list 0 (flags r.0); texts_left = none_hidden list [] (texts_of its r) }
  without_is (suc n) h = go (listed list (suc n)) refl (without its list n r) (without_is n (omega arith))
    where
      go : (b : Bool) → listed list (suc n) ≡ b → (q : Contents) → Without its list n r q → Without its list (suc n) r (pick b (set_item n 0 (blank_at its n) q) q)
      go true e q w =
          let hi : n < length its = omega arith in
          let sp = set-spliced its few n hi 0 (omega arith) (blank_at its n) (blank_okay its n hi) q w.okay [] (blank-text its n (blank_at its n)) in
          let hf : n < length (flags q.0) = rw (length-flags q.0) (omega arith) in
          let ht : n < length (texts_of its q) = rw (length-texts (flags q.0) its q.1) hi in record {
            okay = sp.okay;
            flags_left = subst (Left list (suc n) 0 (flags r.0)) (sym sp.flags_are) (left_on w.flags_left e hf);
            texts_left = subst (Left list (suc n) [] (texts_of its r)) (sym sp.texts_are) (left_on w.texts_left e ht);
          }
      go false e q w = record {
        okay = w.okay;
        flags_left = left_off w.flags_left e;
        texts_left = left_off w.texts_left e;
      }

  -- with all items looked at
  pub all_left : Without its list (length its) r (without its list (length its) r)
  all_left = without_is (length its) (omega arith)

-- only the places of the first n items are looked at
pub same_without : (its : List Item) (list other n : ℕ) (r : Contents) → ((j : ℕ) → j < n → listed list (suc j) ≡ listed other (suc j)) → without its list n r ≡ without its other n r
unfolding without
same_without its list other zero r h = refl
same_without its list other (suc n) r h = ap₂ (λ b q. pick b (set_item n 0 (blank_at its n) q) q) (h n (omega arith)) (same_without its list other n r (λ j k. h j (omega arith)))

-- ---- two contents: written alike without the items of a list exactly if all else is alike

-- an indicator has no flag behind the last item
spare_flag : (its : List Item) (r : Contents) → T ((body its).okay r) → (j : ℕ) → length its ≤ j → get_or (flags r.0) j 0 ≡ 0
unfolding body indicator
spare_flag its r k j h =
    let s : T (no_spare its r.0) = search (and_l, and_r) in
    let e : length its + (j - length its) ≡ j = omega arith in
    sym (get_or-drop (length its) (flags r.0) (j - length its) 0 ∙ ap (λ i. get_or (flags r.0) i 0) e) ∙ zero_at (drop (length its) (flags r.0)) s (j - length its)

-- alike in each place that is not hidden, before and after
module _ {A : Type 0} {list n : ℕ} {d : A} {xs ys us vs : List A} (l : Left list n d xs us) (m : Left list n d ys vs) (j : ℕ) where
  left_alike : (hidden list n j ≡ false → get_or xs j d ≡ get_or ys j d) → get_or us j d ≡ get_or vs j d
  left_alike h = l.at j ∙ go (hidden list n j) refl ∙ sym (m.at j)
    where
      go : (b : Bool) → hidden list n j ≡ b → pick b d (get_or xs j d) ≡ pick b d (get_or ys j d)
      go true e = refl
      go false e = h e

  alike_left : hidden list n j ≡ false → get_or us j d ≡ get_or vs j d → get_or xs j d ≡ get_or ys j d
  alike_left e h = sym (l.at j ∙ ap (λ b. pick b d (get_or xs j d)) e) ∙ h ∙ m.at j ∙ ap (λ b. pick b d (get_or ys j d)) e

module _ (its : List Item) (few : length its ≤ 8) (list : ℕ) (r q : Contents) (kr : T ((body its).okay r)) (kq : T ((body its).okay q)) where
  abbrev wr : Without its list (length its) r (without its list (length its) r)
  wr = all_left its few list r kr

  abbrev wq : Without its list (length its) q (without its list (length its) q)
  wq = all_left its few list q kq

  pub same_copy : HeldAlike its list r q → write_frame (body its) (without its list (length its) r) ≡ write_frame (body its) (without its list (length its) q)
  unfolding write_frame texts_of
  same_copy a =
      let x : Contents = without its list (length its) r in
      let y : Contents = without its list (length its) q in
      let f : flags x.0 ≡ flags y.0
      = ext_get_or 0 (flags x.0) (flags y.0) (length-flags x.0 ∙ sym (length-flags y.0))
      (λ j h. left_alike wr.flags_left wq.flags_left j (flag j)) in
      let t : texts_of its x ≡ texts_of its y
      = ext_get_or [] (texts_of its x) (texts_of its y) (length-texts (flags x.0) its x.1 ∙ sym (length-texts (flags y.0) its y.1))
      (λ j h. left_alike wr.texts_left wq.texts_left j (text j (subst (j <◌) (length-texts (flags x.0) its x.1) h))) in
      ap (λ w. suc (length w) ∷ w) (same_write its x y wr.okay wq.okay f t)
    where
      off : (j : ℕ) → j < length its → hidden list (length its) j ≡ false → listed list (suc j) ≡ false
      off j h e = sym (hidden_under list (length its) j h) ∙ e

      text : (j : ℕ) → j < length its → hidden list (length its) j ≡ false → get_or (texts_of its r) j [] ≡ get_or (texts_of its q) j []
      text j h e = (a j h (off j h e)).1

      flag : (j : ℕ) → hidden list (length its) j ≡ false → get_or (flags r.0) j 0 ≡ get_or (flags q.0) j 0
      flag j e = go (ltb j (length its)) refl
        where
          go : (b : Bool) → ltb j (length its) ≡ b → get_or (flags r.0) j 0 ≡ get_or (flags q.0) j 0
          go true u = let h : j < length its = ltb-true j (length its) u in (a j h (off j h e)).0
          go false u = let h : length its ≤ j = ltb-false j (length its) u in spare_flag its r kr j h ∙ sym (spare_flag its q kq j h)

  pub copy_same : T (good_items its) → longest its ≤ 255 → write_frame (body its) (without its list (length its) r) ≡ write_frame (body its) (without its list (length its) q) → HeldAlike its list r q
  copy_same good short e j h o =
      let x : Contents = without its list (length its) r in
      let y : Contents = without its list (length its) q in
      let w : x ≡ y
      = frame_injective (lawful_body its good) x y (okay_alone its short x wr.okay) (okay_alone its short y wq.okay) e in
      let u : hidden list (length its) j ≡ false = hidden_under list (length its) j h ∙ o in (
        alike_left wr.flags_left wq.flags_left j u (ap (λ z. get_or (flags z.0) j 0) w),
        alike_left wr.texts_left wq.texts_left j u (ap (λ z. get_or (texts_of its z) j []) w),
      )
