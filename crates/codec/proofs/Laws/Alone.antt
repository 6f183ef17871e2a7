-- "New octets are right exactly if [the field of them alone] is accepted" (01, 'The slot desk'): so they are where they are by themselves an item of the paper, and the change is that item.
use Rattle.std.specs.Prelude.{◌≡◌, Bool, true, ◌&&◌, T, leb, eqb, ℤ, pos, get_or, drop, set, replicate}
use Rattle.std.proofs.Math.Path.{refl, ap, subst}
use Rattle.std.proofs.Common.{sym, ap₂, ◌∙◌, subst₂, le_refl, le_trans, le_of_eq, not-suc-le-zero, le_of_suc-le-suc, leb→le, eqb→eq, length-append, get_or-set_other}
use mathlib.Core.List.{List, [], ◌∷◌, ◌++◌, append-nil, head-eq_of_cons-eq, tail-eq_of_cons-eq}
use Prim.Native.Nat.{ℕ, zero, suc, ◌+◌, ◌-◌, ◌^◌, ◌/◌, ◌%◌, ◌≤◌, ◌<◌}
use native.Mathlib.Omega.{arith}
use Rattle.std.proofs.Math.ListN.{length, length-set}
use Rattle.std.proofs.Math.Seq.{get_or-set_same, take-length}
use borrow.Author.Tests.{le-leb}
use Rattle.codec.specs.Radix.{total}
use Rattle.codec.specs.Codec.{Octets, got, Codec, number}
use Rattle.codec.specs.Line.{Line, Held, line}
use Rattle.codec.specs.Item.{Item, chained, single, slots, beside, chain, item}
use Rattle.codec.specs.Field.{is_nil, is_cons, uncons, first_flag, next_flags, place, row, flags, all_zero, indicator, Contents, body, good_items, texts, texts_of, flat, longest}
use Rattle.codec.specs.Frame.{accepted, read_frame, write_frame}
use Rattle.codec.specs.Change.{remove, put, set_flag, set_item, blank_at, alone, put_in, change}
use Rattle.codec.specs.Printed.{Entry, right, right_entry}
use Rattle.codec.specs.Made.{item_of, made}
use Rattle.codec.specs.Meaning.{bits_of, IsItem, zeros_in, AreItems, end, item as an_item, no_item, HasLayout}
use Rattle.codec.proofs.Laws.Tests.{and_in, and_l, and_r}
use Rattle.codec.proofs.Laws.Codec.{number_okay}
use Rattle.codec.proofs.Laws.Item.{zeros_yes, lawful_item}
use Rattle.codec.proofs.Laws.Field.{lawful_body, body_write, length-flags}
use Rattle.codec.proofs.Laws.Frame.{read_again}
use Rattle.codec.proofs.Laws.Longest.{line_size, field_size, okay_alone}
use Rattle.codec.proofs.Laws.Flags.{flag_bit}
use Rattle.codec.proofs.Laws.Change.{place_at, Splice, set-spliced, one_text, flags_zero, flags-set, set_flag_lt}
use Rattle.codec.proofs.Laws.Meaning.{zeros_in_lem, good_entry, is_an_item}

-- ---- what a field without items holds

unfoldable pub blanks : List Item → List Held
blanks [] = []
blanks (it ∷ its) = (0, replicate (slots it) (pos 0)) ∷ blanks its

length-blanks : (its : List Item) → length (blanks its) ≡ length its
unfolding blanks
length-blanks [] = refl
length-blanks (it ∷ its) = ap suc (length-blanks its)

blank_place : (d : ℕ) (it : Item) → d ≡ 0 → T ((place d it).okay (0, replicate (slots it) (pos 0)))
blank_place d it e = subst (λ x. T ((place x it).okay (0, replicate (slots it) (pos 0)))) (sym e) (zeros_yes (slots it))

blank-row : (ds : List ℕ) (its : List Item) → T (all_zero ds) → T ((row ds its).okay (blanks its))
unfolding row blanks is_nil is_cons uncons first_flag next_flags all_zero
blank-row ds [] z = tt
blank-row [] (it ∷ its) z = and_in ((place 0 it).okay (0, replicate (slots it) (pos 0))) _ (blank_place 0 it refl) (blank-row [] its tt)
blank-row (d ∷ ds) (it ∷ its) z =
    and_in ((place d it).okay (0, replicate (slots it) (pos 0))) _ (blank_place d it (eqb→eq d 0 (and_l (eqb d 0) _ z))) (blank-row ds its (and_r (eqb d 0) _ z))

zero_drop : (k : ℕ) (ds : List ℕ) → T (all_zero ds) → T (all_zero (drop k ds))
unfolding all_zero
zero_drop zero ds z = z
zero_drop (suc k) [] z = tt
zero_drop (suc k) (d ∷ ds) z = zero_drop k ds (and_r (eqb d 0) _ z)

blank-body : (its : List Item) → T ((body its).okay (0, blanks its))
unfolding body indicator total
blank-body its =
    and_in ((indicator its).okay 0) _ (and_in ((number 1).okay 0) _ (number_okay 1 0 (omega arith)) (zero_drop (length its) (flags 0) flags_zero)) (blank-row (flags 0) its flags_zero)

-- ---- every item has an octet at least

unfoldable pub least_item : Item → ℕ
least_item (chained p qs ss) = p.octets
least_item (single l) = l.octets

unfoldable pub some_octets : List Item → Bool
some_octets [] = true
some_octets (it ∷ its) = leb 1 (least_item it) && some_octets its

front_le : (xs ys : List ℕ) {m : ℕ} → m ≤ length xs → m ≤ length (xs ++ ys)
front_le xs ys h = rw length-append (omega arith)

chain_least : (p : Line) (qs : List Line) (v : Held) → p.octets ≤ length ((chain p qs).write v)
unfolding chain beside
chain_least p [] v = le_of_eq (sym (line_size p (0, v.1)))
chain_least p (q ∷ qs) v = front_le ((line p).write _) _ (le_of_eq (sym (line_size p _)))

item_least : (it : Item) (v : Held) → least_item it ≤ length ((item it).write v)
unfolding item least_item beside
item_least (chained p qs ss) v = front_le ((chain p qs).write _) _ (chain_least p qs _)
item_least (single l) v = le_of_eq (sym (line_size l v))

place_least : (its : List Item) (i : ℕ) → i < length its → T (some_octets its) → (v : Held) → 1 ≤ length ((place_at 1 its i).write v)
unfolding place_at some_octets
place_least [] i h t v = absurd (not-suc-le-zero h)
place_least (it ∷ its) zero h t v = le_trans (leb→le 1 (least_item it) (and_l (leb 1 (least_item it)) _ t)) (item_least it v)
place_least (it ∷ its) (suc i) h t v = place_least its i (le_of_suc-le-suc h) (and_r (leb 1 (least_item it)) _ t) v

-- ---- the field of one item alone

module _ (its : List Item) (good : T (good_items its)) (few : length its ≤ 8) (short : longest its ≤ 255) (some : T (some_octets its)) (i : ℕ) (hi : i < length its)
    (v : Held) (hv : T ((place_at 1 its i).okay v)) (t : List ℕ) (w : (place_at 1 its i).write v ≡ t) where
  held : Contents
  held = set_item i 1 v (0, blanks its)

  held_splice : Splice its i 1 t (0, blanks its) held
  unfolding held
  held_splice = set-spliced its few i hi 1 (omega arith) v hv (0, blanks its) (blank-body its) t w

  held_text : (body its).write held ≡ set_flag 0 i 1 ∷ t
  unfolding held set_item texts_of
  held_text =
      let n8 : length (flags 0) ≡ 8 = length-flags 0 in
      let nb : length (blanks its) ≡ length its = length-blanks its in
      let nv : length (set (blanks its) i v) ≡ length its = rw length-set nb in
      body_write its held
      ∙ ap (set_flag 0 i 1 ∷◌)
      (ap (λ ds. flat (texts ds its (set (blanks its) i v))) held_splice.flags_are
      ∙ one_text (flags 0) its (set (blanks its) i v) i flags_zero (omega arith) hi (omega arith)
      ∙ ap (place_at 1 its i).write (get_or-set_same (blanks its) i v (0, []) (omega arith)) ∙ w)

  held_field : write_frame (body its) held ≡ alone i t
  unfolding write_frame alone
  held_field = ap (λ x. suc (length x) ∷ x) held_text

  alone_read : read_frame (body its) (alone i t) ≡ accepted held
  alone_read =
      subst (λ x. read_frame (body its) x ≡ accepted held) (append-nil (write_frame (body its) held) ∙ held_field)
      (read_again (lawful_body its good) held (okay_alone its short held held_splice.okay) [])

  alone_long : suc (suc (length t)) ≤ longest its
  unfolding alone
  alone_long = subst (λ x. length x ≤ longest its) held_field (field_size its held)

  -- the change by them is that item
  pub put_change : (r : Contents) → change its i (put t) r ≡ accepted (set_item i 1 v r)
  unfolding change put_in held set_item
  put_change r =
      let nb : length (blanks its) ≡ length its = length-blanks its in
      let lo : 1 ≤ length t = subst (λ x. 1 ≤ length x) w (place_least its i hi some v) in
      let hl : suc (suc (length t)) ≤ longest its = alone_long in
      let hg : length t ≤ 253 = omega arith in
      rw (le-leb 1 (length t) lo, le-leb (length t) 253 hg, alone_read, get_or-set_same (blanks its) i v (0, []) (omega arith)) refl

-- ---- of a paper as it is printed

module _ (e : Entry) (fs : List Entry) where
  place_made : (bs : List Entry) (d : ℕ) → place_at d (made (bs ++ (e ∷ fs))) (length bs) ≡ place d (item_of e)
  unfolding place_at
  place_made [] d = refl
  place_made (b ∷ bs) d = place_made bs d

  blank-made : (bs : List Entry) → blank_at (made (bs ++ (e ∷ fs))) (length bs) ≡ (0, zeros_in e)
  unfolding blank_at
  blank-made [] = λ i. (0, zeros_in_lem e i)
  blank-made (b ∷ bs) = blank-made bs

  entry_right : (bs : List Entry) → T (right (bs ++ (e ∷ fs))) → T (right_entry e)
  unfolding right
  entry_right [] h = and_l (right_entry e) _ h
  entry_right (b ∷ bs) h = entry_right bs (and_r (right_entry b) _ h)

  pub entry_in : (bs : List Entry) → length bs < length (made (bs ++ (e ∷ fs)))
  entry_in [] = omega arith
  entry_in (b ∷ bs) = let h : length bs < length (made (bs ++ (e ∷ fs))) = entry_in bs in omega arith

  -- removing it gives its zeros
  pub removed : (bs : List Entry) (r : Contents) → change (made (bs ++ (e ∷ fs))) (length bs) remove r ≡ accepted (set_item (length bs) 0 (0, zeros_in e) r)
  unfolding change
  removed bs r = ap (λ v. accepted (set_item (length bs) 0 v r)) (blank-made bs)

  -- octets that are by themselves an item of the paper, its parts and numbers
  pub putted : (bs : List Entry) → T (right (bs ++ (e ∷ fs))) → T (good_items (made (bs ++ (e ∷ fs)))) → length (made (bs ++ (e ∷ fs))) ≤ 8 → longest (made (bs ++ (e ∷ fs))) ≤ 255
      → T (some_octets (made (bs ++ (e ∷ fs)))) → (t : List ℕ) → Octets t → {n : ℕ} {zs : List ℤ} → IsItem e t n zs → (r : Contents)
      → change (made (bs ++ (e ∷ fs))) (length bs) (put t) r ≡ accepted (set_item (length bs) 1 (n, zs) r)
  putted bs h good few short some t o {n} {zs} is r =
      let k : T (right_entry e) = entry_right bs h in
      let rd : (item (item_of e)).read t ≡ got (n, zs) (length t) = subst (λ x. (item (item_of e)).read x ≡ got (n, zs) (length t)) (append-nil t) (is_an_item is k o []) in
      let b = (lawful_item (item_of e) (good_entry e k)).back t o (n, zs) (length t) rd in
      let w : (item (item_of e)).write (n, zs) ≡ t = sym b.took ∙ take-length t in
      let c : place_at 1 (made (bs ++ (e ∷ fs))) (length bs) ≡ item (item_of e) = place_made bs 1 in
      put_change (made (bs ++ (e ∷ fs))) good few short some (length bs) (entry_in bs) (n, zs) (subst (λ (x : Codec Held). T (x.okay (n, zs))) (sym c) b.okay) t
      (ap (λ (x : Codec Held). x.write (n, zs)) c ∙ w) r

-- ---- the indicator by its printed bits, "1 for bit 8 up to 8 for bit 1"

pub flag_printed : (n i : ℕ) → n < 256 → i < 8 → bits_of n (9 - suc i) (9 - suc i) ≡ get_or (flags n) i 0
unfolding bits_of
flag_printed n i h k =
    let a : 9 - suc i - 1 ≡ 7 - i = omega arith in
    let b : suc (9 - suc i) - (9 - suc i) ≡ 1 = omega arith in
    ap₂ (λ x y. n / 2 ^ x % 2 ^ y) a b ∙ sym (flag_bit n i h k)

-- ---- and only so: where the field of one item alone has the layout, its octets are by themselves that item

pub record AnItem (e : Entry) (t : List ℕ) : Type 0 where
  pub parts : ℕ
  pub numbers : List ℤ
  pub is : IsItem e t parts numbers

IsNone : List Entry → Type 0
IsNone [] = Unit {0}
IsNone (x ∷ xs) = ⊥

none≢ {ℓ} : {X : Type ℓ} (e : Entry) (fs bs : List Entry) → [] ≡ bs ++ (e ∷ fs) → X
unfolding IsNone
none≢ e fs [] q = absurd (subst IsNone q tt)
none≢ e fs (b ∷ bs) q = absurd (subst IsNone q tt)

zero_one {ℓ} : {X : Type ℓ} {n : ℕ} → n ≡ 1 → n ≡ 0 → X
zero_one p q = absurd (omega arith)

module _ (ind : ℕ) where
  no_octets : {b : ℕ} {es : List Entry} {os : List ℕ} {vs : List Held} → AreItems ind b es os vs → ((c : ℕ) → 1 ≤ c → c ≤ b → bits_of ind c c ≡ 0) → os ≡ []
  no_octets end z = refl
  no_octets (an_item {b = b} f i c) z = zero_one f (z (suc b) (omega arith) (le_refl (suc b)))
  no_octets (no_item {b = b} f c) z = no_octets c (λ k lo hi. z k lo (omega arith))

  only_item : (p : ℕ) (e : Entry) (fs : List Entry) → bits_of ind p p ≡ 1 → {b : ℕ} {es : List Entry} {os : List ℕ} {vs : List Held} → AreItems ind b es os vs
      → (bs : List Entry) → es ≡ bs ++ (e ∷ fs) → b ≡ p + length bs → ((c : ℕ) → 1 ≤ c → c ≤ b → (c ≡ p → ⊥) → bits_of ind c c ≡ 0) → AnItem e os
  only_item p e fs one end bs q k z = none≢ e fs bs q
  only_item p e fs one (an_item {b = b} {os = os} {rest = rest} {n = n} {zs = zs} f i c) [] q k z =
      let g : rest ≡ [] = no_octets c (λ j lo hi. z j lo (omega arith) (λ w. omega arith)) in
      let m : os ++ rest ≡ os = ap (os ++◌) g ∙ append-nil os in
      record { parts = n; numbers = zs; is = subst₂ (λ x y. IsItem x y n zs) (head-eq_of_cons-eq q) (sym m) i }
  only_item p e fs one (no_item {b = b} f c) [] q k z = let w : suc b ≡ p = omega arith in zero_one (subst (λ x. bits_of ind x x ≡ 1) (sym w) one) f
  only_item p e fs one (an_item {b = b} f i c) (x ∷ bs) q k z = zero_one f (z (suc b) (omega arith) (le_refl (suc b)) (λ w. omega arith))
  only_item p e fs one (no_item {b = b} f c) (x ∷ bs) q k z = only_item p e fs one c bs (tail-eq_of_cons-eq q) (omega arith) (λ j lo hi w. z j lo (omega arith) w)

pub zero_at : (ds : List ℕ) → T (all_zero ds) → (j : ℕ) → get_or ds j 0 ≡ 0
unfolding all_zero
zero_at [] z j = refl
zero_at (d ∷ ds) z zero = eqb→eq d 0 (and_l (eqb d 0) _ z)
zero_at (d ∷ ds) z (suc j) = zero_at ds (and_r (eqb d 0) _ z) j

-- the bits of an indicator with one item
module _ (i : ℕ) (hi : i < 8) where
  alone_bit : (j : ℕ) → j < 8 → bits_of (set_flag 0 i 1) (9 - suc j) (9 - suc j) ≡ get_or (set (flags 0) i 1) j 0
  alone_bit j h = flag_printed (set_flag 0 i 1) j (set_flag_lt 0 i 1 (omega arith) hi (omega arith)) h ∙ ap (λ ds. get_or ds j 0) (flags-set 0 i 1 (omega arith) hi (omega arith))

  alone_own : bits_of (set_flag 0 i 1) (9 - suc i) (9 - suc i) ≡ 1
  alone_own = let n8 : length (flags 0) ≡ 8 = length-flags 0 in alone_bit i hi ∙ get_or-set_same (flags 0) i 1 0 (omega arith)

  alone_other : (c : ℕ) → 1 ≤ c → c ≤ 8 → (c ≡ 9 - suc i → ⊥) → bits_of (set_flag 0 i 1) c c ≡ 0
  alone_other c lo h x =
      let k : c ≡ 9 - suc (8 - c) = omega arith in
      let ne : 8 - c ≡ i → ⊥ = λ w. x (omega arith) in
      ap (λ y. bits_of (set_flag 0 i 1) y y) k ∙ alone_bit (8 - c) (omega arith) ∙ get_or-set_other (flags 0) i (8 - c) 1 0 ne ∙ zero_at (flags 0) flags_zero (8 - c)

pub alone_is : (e : Entry) (bs fs : List Entry) → length (bs ++ (e ∷ fs)) ≤ 8 → (t : List ℕ) (q : Contents) → HasLayout (bs ++ (e ∷ fs)) (alone (length bs) t) q → AnItem e t
unfolding alone
alone_is e bs fs few t q l =
    let i : ℕ = length bs in
    let n : length (bs ++ (e ∷ fs)) ≡ length bs + suc (length fs) = length-append bs (e ∷ fs) in
    let hi : i < 8 = omega arith in
    let tl : set_flag 0 i 1 ∷ t ≡ q.0 ∷ l.rest = tail-eq_of_cons-eq l.octets in
    let a : AreItems (set_flag 0 i 1) 8 (bs ++ (e ∷ fs)) t q.1 = subst₂ (λ x y. AreItems x 8 (bs ++ (e ∷ fs)) y q.1) (sym (head-eq_of_cons-eq tl)) (sym (tail-eq_of_cons-eq tl)) l.items in
    only_item (set_flag 0 i 1) (9 - suc i) e fs (alone_own i hi) a bs refl (omega arith) (alone_other i hi)
