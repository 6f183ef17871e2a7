-- One item changed: one flag and one text are set, and the others keep their octets and their turn.
use Rattle.std.specs.Prelude.{◌≡◌, refl, ◌≢◌, Bool, true, false, ◌&&◌, ltb, eqb, get_or, take, drop}
use Rattle.std.proofs.Math.Path.{sym, ap, subst}
use Rattle.std.proofs.Common.{ap₂, ◌∙◌, not-suc-le-zero, le_of_suc-le-suc, arith, lt→ltb, eqb→eq, drop-set-lt, get_or-set_other, get_or-set_same}
use mathlib.Core.List.{List, [], ◌∷◌, ◌++◌, append_assoc, append-nil, head-eq_of_cons-eq, tail-eq_of_cons-eq}
use Prim.Native.Nat.{ℕ, zero, suc, ◌≤◌, ◌<◌}
use Rattle.std.proofs.Math.Dec.{T, leb, leb→le}
use Rattle.std.proofs.Math.ListN.{length, set, length-set}
use Rattle.std.proofs.lemmas.List.{get_or-replicate}
use Rattle.std.proofs.Math.Seq.{set-get_or}
use Rattle.codec.specs.Radix.{total, cut, join, ones}
use Rattle.codec.specs.Codec.{Octets, Codec, absent, number}
use Rattle.codec.specs.Line.{Held}
use Rattle.codec.specs.Item.{Item, nothing, slots, item}
use Rattle.codec.specs.Field.{first_flag, next_flags, uncons, is_cons, place, row, flags, all_zero, no_spare, indicator, Contents, body, good_items, texts, texts_of, flat}
use Rattle.codec.specs.Frame.{Outcome, accepted, refused, read_frame}
use Rattle.codec.specs.Change.{Change, remove, put, set_flag, set_item, blank_at, alone, put_in, change}
use Rattle.codec.proofs.Laws.Tests.{and_in, and_l, and_r}
use Rattle.codec.proofs.Laws.Radix.{join_lt, cut-join, cut-digits, cut_one, digits-set}
use Rattle.codec.proofs.Laws.Codec.{number_okay}
use Rattle.codec.proofs.Laws.Item.{zeros_yes, only-nothing}
use Rattle.codec.proofs.Laws.Field.{lawful_body, length-row, indicator_lt, row_okay, row-texts, length-flags, flags-join}
use Rattle.codec.proofs.Laws.Frame.{refused≢accepted, written_whole}

-- ---- the indicator with one bit set

module _ (n i d : ℕ) (hn : n < 256) (hi : i < 8) (hd : d < 2) where
  pub flags-set : flags (set_flag n i d) ≡ set (flags n) i d
  unfolding set_flag total
  flags-set = cut-join ones (set (flags n) i d) (digits-set ones (flags n) i d 1 (cut-digits ones n hn) (get_or-replicate 8 i 1 0 hi) hi hd)

  pub set_flag_lt : set_flag n i d < 256
  unfolding set_flag total
  set_flag_lt = join_lt ones (set (flags n) i d) (digits-set ones (flags n) i d 1 (cut-digits ones n hn) (get_or-replicate 8 i 1 0 hi) hi hd)

-- ---- one place of a row set

-- the codec of the item with index i where its flag is d
unfoldable pub place_at : ℕ → List Item → ℕ → Codec Held
place_at d [] i = absent (nothing 0)
place_at d (it ∷ its) zero = place d it
place_at d (it ∷ its) (suc i) = place_at d its i

texts-set : (ds : List ℕ) (its : List Item) (vs : List Held) (i d : ℕ) (v : Held) → i < length ds → i < length its → i < length vs
    → texts (set ds i d) its (set vs i v) ≡ set (texts ds its vs) i ((place_at d its i).write v)
unfolding texts place_at first_flag next_flags uncons
texts-set [] its vs i d v a b c = absurd (not-suc-le-zero a)
texts-set (e ∷ ds) [] vs i d v a b c = absurd (not-suc-le-zero b)
texts-set (e ∷ ds) (it ∷ its) [] i d v a b c = absurd (not-suc-le-zero c)
texts-set (e ∷ ds) (it ∷ its) (w ∷ vs) zero d v a b c = refl
texts-set (e ∷ ds) (it ∷ its) (w ∷ vs) (suc i) d v a b c =
    ap ((place e it).write w ∷◌) (texts-set ds its vs i d v (le_of_suc-le-suc a) (le_of_suc-le-suc b) (le_of_suc-le-suc c))

okay_set : (ds : List ℕ) (its : List Item) (vs : List Held) (i d : ℕ) (v : Held) → i < length ds → i < length its
    → T ((row ds its).okay vs) → T ((place_at d its i).okay v) → T ((row (set ds i d) its).okay (set vs i v))
unfolding row place_at first_flag next_flags uncons is_cons
okay_set [] its vs i d v a b k h = absurd (not-suc-le-zero a)
okay_set (e ∷ ds) [] vs i d v a b k h = absurd (not-suc-le-zero b)
okay_set (e ∷ ds) (it ∷ its) [] i d v a b k h = absurd k
okay_set (e ∷ ds) (it ∷ its) (w ∷ vs) zero d v a b k h = and_in ((place d it).okay v) _ h (and_r ((place e it).okay w) _ k)
okay_set (e ∷ ds) (it ∷ its) (w ∷ vs) (suc i) d v a b k h =
    and_in ((place e it).okay w) _ (and_l ((place e it).okay w) _ k)
    (okay_set ds its vs i d v (le_of_suc-le-suc a) (le_of_suc-le-suc b) (and_r ((place e it).okay w) _ k) h)

pub okay_at : (ds : List ℕ) (its : List Item) (vs : List Held) (i : ℕ) → i < length ds → i < length its → T ((row ds its).okay vs)
    → T ((place_at (get_or ds i 0) its i).okay (get_or vs i (0, [])))
unfolding row first_flag next_flags place_at uncons is_cons
okay_at [] its vs i a b k = absurd (not-suc-le-zero a)
okay_at (d ∷ ds) [] vs i a b k = absurd (not-suc-le-zero b)
okay_at (d ∷ ds) (it ∷ its) [] i a b k = absurd k
okay_at (d ∷ ds) (it ∷ its) (v ∷ vs) zero a b k = and_l ((place d it).okay v) _ k
okay_at (d ∷ ds) (it ∷ its) (v ∷ vs) (suc i) a b k = okay_at ds its vs i (le_of_suc-le-suc a) (le_of_suc-le-suc b) (and_r ((place d it).okay v) _ k)

-- octets in front, the changed item's, and those behind
pub flat-set : (ts : List (List ℕ)) (i : ℕ) (t : List ℕ) → i < length ts → flat (set ts i t) ≡ flat (take i ts) ++ (t ++ flat (drop (suc i) ts))
unfolding flat
flat-set [] i t h = absurd (not-suc-le-zero h)
flat-set (x ∷ ts) zero t h = refl
flat-set (x ∷ ts) (suc i) t h = ap (x ++◌) (flat-set ts i t (le_of_suc-le-suc h)) ∙ sym (append_assoc x (flat (take i ts)) _)

-- ---- from r to q one place is set, to the flag d and the octets t, and q can be written

pub record Splice (its : List Item) (i d : ℕ) (t : List ℕ) (r q : Contents) : Type 0 where
  pub flags_are : flags q.0 ≡ set (flags r.0) i d
  pub texts_are : texts_of its q ≡ set (texts_of its r) i t
  pub okay : T ((body its).okay q)

module _ (its : List Item) (few : length its ≤ 8) (i : ℕ) (hi : i < length its) (d : ℕ) (hd : d < 2) (v : Held) (hv : T ((place_at d its i).okay v))
    (r : Contents) (hr : T ((body its).okay r)) where
  pub set-spliced : (t : List ℕ) → (place_at d its i).write v ≡ t → Splice its i d t r (set_item i d v r)
  unfolding body set_item texts_of indicator total
  set-spliced t w =
      let n8 : length (flags r.0) ≡ 8 = length-flags r.0 in
      let lt : r.0 < 256 = indicator_lt its r hr in
      let e : flags (set_flag r.0 i d) ≡ set (flags r.0) i d = flags-set r.0 i d lt (omega arith) hd in
      let k : T ((row (flags r.0) its).okay r.1) = row_okay its r hr in
      let q : T (no_spare its r.0) = search (and_l, and_r) in
      let n : length r.1 ≡ length its = length-row (flags r.0) its r.1 k in record {
        flags_are = e;
        texts_are = ap (λ ds. texts ds its (set r.1 i v)) e ∙ texts-set (flags r.0) its r.1 i d v (omega arith) hi (omega arith) ∙ ap (set (texts_of its r) i) w;
        okay = and_in ((indicator its).okay (set_flag r.0 i d)) _
            (and_in ((number 1).okay (set_flag r.0 i d)) _ (number_okay 1 (set_flag r.0 i d) (set_flag_lt r.0 i d lt (omega arith) hd))
            (subst (λ ds. T (all_zero (drop (length its) ds))) (sym e) (subst (λ ds. T (all_zero ds)) (sym (drop-set-lt (length its) (flags r.0) i d hi)) q)))
            (subst (λ ds. T ((row ds its).okay (set r.1 i v))) (sym e) (okay_set (flags r.0) its r.1 i d v (omega arith) hi k hv));
      }

-- ---- the field of one item alone

pub none_text : (ds : List ℕ) (its : List Item) (vs : List Held) → T (all_zero ds) → flat (texts ds its vs) ≡ []
unfolding flat texts all_zero first_flag next_flags
none_text ds [] vs z = refl
none_text [] (it ∷ its) vs z = none_text [] its (uncons vs).1 z
none_text (d ∷ ds) (it ∷ its) vs z =
    ap₂ (λ e t. (place e it).write (uncons vs).0 ++ t) (eqb→eq d 0 (and_l (eqb d 0) _ z)) (none_text ds its (uncons vs).1 (and_r (eqb d 0) _ z))

pub one_text : (ds : List ℕ) (its : List Item) (vs : List Held) (i : ℕ) → T (all_zero ds) → i < length ds → i < length its → i < length vs
    → flat (texts (set ds i 1) its vs) ≡ (place_at 1 its i).write (get_or vs i (0, []))
unfolding flat texts all_zero first_flag next_flags place_at uncons
one_text [] its vs i z a b c = absurd (not-suc-le-zero a)
one_text (d ∷ ds) [] vs i z a b c = absurd (not-suc-le-zero b)
one_text (d ∷ ds) (it ∷ its) [] i z a b c = absurd (not-suc-le-zero c)
one_text (d ∷ ds) (it ∷ its) (v ∷ vs) zero z a b c =
    ap ((item it).write v ++◌) (none_text ds its vs (and_r (eqb d 0) _ z)) ∙ append-nil ((item it).write v)
one_text (d ∷ ds) (it ∷ its) (v ∷ vs) (suc i) z a b c =
    ap₂ (λ e t. (place e it).write v ++ t) (eqb→eq d 0 (and_l (eqb d 0) _ z))
    (one_text ds its vs i (and_r (eqb d 0) _ z) (le_of_suc-le-suc a) (le_of_suc-le-suc b) (le_of_suc-le-suc c))

pub flags_zero : T (all_zero (flags 0))
unfolding all_zero cut total
flags_zero = tt

module _ (its : List Item) (good : T (good_items its)) (few : length its ≤ 8) (i : ℕ) (hi : i < length its) where
  alone-row : (t : List ℕ) (q : Contents) → (body its).write q ≡ set_flag 0 i 1 ∷ t → T ((body its).okay q)
      → ((place_at 1 its i).write (get_or q.1 i (0, [])) ≡ t) × T ((place_at 1 its i).okay (get_or q.1 i (0, [])))
  unfolding body indicator number
  alone-row t q w k =
      let e : q.0 ∷ (row (flags q.0) its).write q.1 ≡ set_flag 0 i 1 ∷ t = sym (ap (◌++ (row (flags q.0) its).write q.1) (cut_one q.0)) ∙ w in
      let n8 : length (flags 0) ≡ 8 = length-flags 0 in
      let fl : flags q.0 ≡ set (flags 0) i 1 = ap flags (head-eq_of_cons-eq e) ∙ flags-set 0 i 1 (omega arith) (omega arith) (omega arith) in
      let kr : T ((row (set (flags 0) i 1) its).okay q.1) = subst (λ ds. T ((row ds its).okay q.1)) fl (row_okay its q k) in
      let n : length q.1 ≡ length its = length-row (set (flags 0) i 1) its q.1 kr in (
        sym (one_text (flags 0) its q.1 i flags_zero (omega arith) hi (omega arith))
            ∙ sym (row-texts (set (flags 0) i 1) its q.1)
            ∙ ap (λ ds. (row ds its).write q.1) (sym fl)
            ∙ tail-eq_of_cons-eq e,
        subst (λ d. T ((place_at d its i).okay (get_or q.1 i (0, [])))) (get_or-set_same (flags 0) i 1 0 (omega arith))
            (okay_at (set (flags 0) i 1) its q.1 i (rw length-set (omega arith)) hi kr),
      )

  -- what the octets of one item alone read to is written as those octets
  alone_held : (t : List ℕ) → Octets t → length t ≤ 253 → (q : Contents) → read_frame (body its) (alone i t) ≡ accepted q
      → ((place_at 1 its i).write (get_or q.1 i (0, [])) ≡ t) × T ((place_at 1 its i).okay (get_or q.1 i (0, [])))
  unfolding alone
  alone_held t o h q e =
      let f : ℕ = set_flag 0 i 1 in
      let hf : f < 256 = set_flag_lt 0 i 1 (omega arith) (omega arith) (omega arith) in
      let w = written_whole (lawful_body its good) (f ∷ t)
      (and_in (ltb (suc (suc (length t))) 256) _ (lt→ltb (suc (suc (length t))) 256 (omega arith)) (and_in (ltb f 256) _ (lt→ltb f 256 hf) o)) q e in
      alone-row t q w.0 w.1

-- ---- a removed item: the blank value, and no octets

pub blank_okay : (its : List Item) (i : ℕ) → i < length its → T ((place_at 0 its i).okay (blank_at its i))
unfolding place_at blank_at
blank_okay [] i h = absurd (not-suc-le-zero h)
blank_okay (it ∷ its) zero h = zeros_yes (slots it)
blank_okay (it ∷ its) (suc i) h = blank_okay its i (le_of_suc-le-suc h)

pub blank-text : (its : List Item) (i : ℕ) (v : Held) → (place_at 0 its i).write v ≡ []
unfolding place_at
blank-text [] i v = refl
blank-text (it ∷ its) zero v = refl
blank-text (it ∷ its) (suc i) v = blank-text its i v

only-blank : (its : List Item) (i : ℕ) (v : Held) → i < length its → T ((place_at 0 its i).okay v) → v ≡ blank_at its i
unfolding place_at blank_at
only-blank [] i v h t = absurd (not-suc-le-zero h)
only-blank (it ∷ its) zero v h t = (only-nothing (slots it)).is v t
only-blank (it ∷ its) (suc i) v h t = only-blank its i v (le_of_suc-le-suc h) t

-- ---- what an accepted change does

unfoldable pub new_octets : Change → List ℕ
new_octets remove = []
new_octets (put t) = t

unfoldable pub new_flag : Change → ℕ
new_flag remove = 0
new_flag (put t) = 1

pub put_in_lem : (i : ℕ) (r q : Contents) (b : Bool) (m : Outcome Contents) → put_in i r b m ≡ accepted q → T b × ((p : Contents) × (m ≡ accepted p) × (set_item i 1 (get_or p.1 i (0, [])) r ≡ q))
unfolding put_in
put_in_lem i r q false m e = refused≢accepted e
put_in_lem i r q true (refused n p) e = refused≢accepted e
put_in_lem i r q true (accepted p) e = (tt, (p, refl, cc))

module _ (its : List Item) (few : length its ≤ 8) (i : ℕ) (hi : i < length its) where
  pub spliced : T (good_items its) → (ch : Change) → Octets (new_octets ch) → (r q : Contents) → T ((body its).okay r) → change its i ch r ≡ accepted q
      → Splice its i (new_flag ch) (new_octets ch) r q
  unfolding change new_octets new_flag
  spliced good remove o r q k e =
      let e1 : set_item i 0 (blank_at its i) r ≡ q = cc in
      subst (Splice its i 0 [] r) e1 (set-spliced its few i hi 0 (omega arith) (blank_at its i) (blank_okay its i hi) r k [] (blank-text its i (blank_at its i)))
  spliced good (put t) o r q k e =
      let u = put_in_lem i r q (leb 1 (length t) && leb (length t) 253) (read_frame (body its) (alone i t)) e in
      let n : length t ≤ 253 = leb→le (length t) 253 (and_r (leb 1 (length t)) _ u.0) in
      let w = alone_held its good few i hi t o n u.1.0 u.1.1 in
      subst (Splice its i 1 t r) u.1.2 (set-spliced its few i hi 1 (omega arith) (get_or u.1.0.1 i (0, [])) w.1 r k t w.0)

  -- removing an absent item gives the contents themselves
  pub remove_absent : (r : Contents) → T ((body its).okay r) → get_or (flags r.0) i 0 ≡ 0 → change its i remove r ≡ accepted r
  unfolding change set_item set_flag
  remove_absent r k z =
      let n8 : length (flags r.0) ≡ 8 = length-flags r.0 in
      let t : T ((place_at 0 its i).okay (get_or r.1 i (0, []))) = subst (λ d. T ((place_at d its i).okay (get_or r.1 i (0, [])))) z (okay_at (flags r.0) its r.1 i (omega arith) hi (row_okay its r k)) in
      let f : set (flags r.0) i 0 ≡ flags r.0 = ap (set (flags r.0) i) (sym z) ∙ set-get_or (flags r.0) i 0 in
      let e0 : join ones (set (flags r.0) i 0) ≡ r.0 = ap (join ones) f ∙ flags-join r.0 (indicator_lt its r k) in
      let e1 : set r.1 i (blank_at its i) ≡ r.1 = ap (set r.1 i) (sym (only-blank its i (get_or r.1 i (0, [])) hi t)) ∙ set-get_or r.1 i (0, []) in
      λ j. accepted (e0 j, e1 j)

-- ---- every other item keeps its octets and its flag

module _ {its : List Item} {i d : ℕ} {t : List ℕ} {r q : Contents} (A : Splice its i d t r q) (j : ℕ) (n : j ≢ i) where
  pub others_keep_text : get_or (texts_of its q) j [] ≡ get_or (texts_of its r) j []
  others_keep_text = ap (λ x. get_or x j []) A.texts_are ∙ get_or-set_other (texts_of its r) i j t [] n

  pub others_keep_flag : get_or (flags q.0) j 0 ≡ get_or (flags r.0) j 0
  others_keep_flag = ap (λ x. get_or x j 0) A.flags_are ∙ get_or-set_other (flags r.0) i j d 0 n
