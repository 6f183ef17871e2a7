-- A field with the octets of one item exchanged: what stands before it, the new octets, what stands behind.
use Rattle.std.specs.Prelude.{◌≡◌, get_or, take}
use Rattle.std.proofs.Math.Path.{sym, ap, ap₂}
use Rattle.std.proofs.Common.{◌∙◌, subst, drop_of_length-le, take_all, drop-drop}
use mathlib.Core.List.{List, [], ◌∷◌, ◌++◌, append_assoc, append-nil}
use Prim.Native.Nat.{ℕ, suc, ◌+◌, ◌-◌, ◌≤◌, ◌<◌}
use native.Mathlib.Omega.{arith}
use Rattle.std.proofs.Math.ListN.{length, drop, set, length-append, length-take, length-drop}
use Rattle.std.proofs.Math.Seq.{sets, length-sets, take-append_seam}
use Rattle.std.proofs.lemmas.List.Edits.{sets-eq}
use Rattle.codec.proofs.Laws.Sets.{sets_append}
use Rattle.codec.specs.Radix.{join, ones}
use Rattle.codec.specs.Item.{Item}
use Rattle.codec.specs.Field.{flags, Contents, body, texts_of, flat, before}
use Rattle.codec.specs.Frame.{write_frame}
use Rattle.codec.specs.Change.{set_flag}
use Rattle.codec.proofs.Laws.Field.{body_write, length-texts, indicator_lt, flags-join}
use Rattle.codec.proofs.Laws.View.{before_next, before_most, front_flat, back_flat}
use Rattle.codec.proofs.Laws.Change.{Splice, flat-set}
use Rattle.desk.specs.Splicing.{splice_of}

-- ---- octets put one behind the other

-- a copy into what stands from a place on
pub paste_is : (o : List ℕ) (at : ℕ) (s : List ℕ) → at + length s ≤ length o → {m : List ℕ} → m ≡ take (length s) s ++ drop (length s) (take (length o - at) (drop at o)) → take at o ++ (m ++ drop (length o - at) (drop at o)) ≡ sets o at s
paste_is o at s h {m} e =
    let rest : length (drop at o) ≡ length o - at = length-drop at o in
    let front : take (length s) s ≡ s = take_all (length s) s (omega arith) in
    let all : take (length o - at) (drop at o) ≡ drop at o = take_all (length o - at) (drop at o) (omega arith) in
    let none : drop (length o - at) (drop at o) ≡ [] = drop_of_length-le (drop at o) {i = length o - at} (omega arith) in
    ap₂ (λ xs ys. take at o ++ (xs ++ ys)) (e ∙ ap₂ (λ xs ys. xs ++ drop (length s) ys) front all ∙ ap (s ++◌) (drop-drop (length s) at o)) none
    ∙ ap (take at o ++◌) (append-nil (s ++ drop (at + length s) o))
    ∙ sym (append_assoc (take at o) s (drop (at + length s) o))
    ∙ sym (sets-eq s o at h)

-- a copy into as many as they are from a place on
pub pasted : (o : List ℕ) (at : ℕ) (s : List ℕ) → at + length s ≤ length o → {m : List ℕ} → m ≡ s → take at o ++ (m ++ drop (at + length s - at) (drop at o)) ≡ sets o at s
pasted o at s h {m} e =
    let many : at + length s - at ≡ length s = omega arith in
    ap₂ (λ xs n. take at o ++ (xs ++ drop n (drop at o))) e many
    ∙ ap (λ ys. take at o ++ (s ++ ys)) (drop-drop (length s) at o)
    ∙ sym (append_assoc (take at o) s (drop (at + length s) o))
    ∙ sym (sets-eq s o at h)

-- xs put from the beginning stand in front
front_is : (o xs : List ℕ) → length xs ≤ length o → take (length xs) (sets o 0 xs) ≡ xs
front_is o xs h =
    let z : 0 + length xs ≡ length xs = omega arith in
    ap (take (length xs)) (sets-eq xs o 0 (subst (◌≤ length o) (sym z) h)) ∙ take-append_seam xs (drop (0 + length xs) o)

-- the parts of a splice, put behind each other
module _ (n : ℕ) (f : List ℕ) (from to : ℕ) (t : List ℕ) (o : List ℕ) (lo : 2 ≤ from) (mid : from ≤ to) (hi : to ≤ length f) {len : ℕ} (el : len ≡ from + length t + (length f - to)) (room : len ≤ length o)
    {o1 o2 o3 o4 : List ℕ} (e1 : o1 ≡ set (set o 0 len) 1 n) {x : List ℕ} (ex : x ≡ take (from - 2) (drop 2 f)) (e2 : o2 ≡ sets o1 2 x) (e3 : o3 ≡ sets o2 from t) {y : List ℕ} (ey : y ≡ drop to f)
    (e4 : o4 ≡ sets o3 (from + length t) y) where
  long_front : length x ≡ from - 2
  long_front = ap length ex ∙ omega (arith, length-take (from - 2) (drop 2 f), length-drop 2 f)

  all_put : o4 ≡ sets o 0 (splice_of n f from to t)
  unfolding splice_of
  all_put =
      let a : 2 + length x ≡ from = omega (arith, long_front) in
      e4 ∙ ap (λ l. sets l (from + length t) y) (e3 ∙ ap₂ (λ l j. sets l j t) e2 (sym a))
      ∙ ap (λ j. sets (sets (sets o1 2 x) (2 + length x) t) (j + length t) y) (sym a)
      ∙ sym (sets_append (sets o1 2 x) (2 + length x) t y) ∙ sym (sets_append o1 2 x (t ++ y))
      ∙ ap₂ (λ l v. sets l 2 v) (e1 ∙ ap (λ m. set (set o 0 m) 1 n) el) (ap₂ (λ v w. v ++ (t ++ w)) ex ey)

  long_all : length (splice_of n f from to t) ≡ len
  unfolding splice_of
  long_all =
      let a : length (take (from - 2) (drop 2 f)) ≡ from - 2 = sym (ap length ex) ∙ long_front in
      let b : length (drop to f) ≡ length f - to = length-drop to f in
      let c : length (take (from - 2) (drop 2 f) ++ (t ++ drop to f)) ≡ length (take (from - 2) (drop 2 f)) + (length t + length (drop to f))
      = length-append (take (from - 2) (drop 2 f)) (t ++ drop to f) ∙ ap (length (take (from - 2) (drop 2 f)) +◌) (length-append t (drop to f)) in
      omega arith

  whole_is : take len o4 ≡ splice_of n f from to t
  whole_is =
      ap₂ take (sym long_all) all_put ∙ front_is o (splice_of n f from to t) (subst (◌≤ length o) (sym long_all) room)

  pub spliced_whole : (len ≤ length o4) × (len ≡ length (take len o4)) × (take len o4 ≡ splice_of n f from to t)
  spliced_whole =
      let l : length o4 ≡ length o = ap length all_put ∙ length-sets o 0 (splice_of n f from to t) in
      (subst (len ≤◌) (sym l) room, sym (ap length whole_is ∙ long_all), whole_is)

-- ---- it is what is written afresh

module _ (its : List Item) (i d : ℕ) (t : List ℕ) (r q : Contents) (sp : Splice its i d t r q) (hi : i < length its) where
  abbrev ts : List (List ℕ)
  ts = texts_of its r

  many : length ts ≡ length its
  unfolding texts_of
  many = length-texts (flags r.0) its r.1

  indicator_is : q.0 ≡ set_flag r.0 i d
  unfolding set_flag
  indicator_is = sym (flags-join q.0 (indicator_lt its q sp.okay)) ∙ ap (join ones) sp.flags_are

  body_is : (body its).write q ≡ set_flag r.0 i d ∷ (flat (take i ts) ++ (t ++ flat (drop (suc i) ts)))
  body_is = body_write its q ∙ ap₂ ◌∷◌ indicator_is (ap flat sp.texts_are ∙ flat-set ts i t (subst (i <◌) (sym many) hi))

  -- f is the field of r, its item begins at `from` and ends at `to`
  module _ (len : ℕ) {f : List ℕ} (ef : f ≡ len ∷ r.0 ∷ flat ts) {from to : ℕ} (ea : from ≡ 2 + before ts i) (eb : to ≡ 2 + before ts i + length (get_or ts i [])) where
    splice_front : take (from - 2) (drop 2 f) ≡ flat (take i ts)
    splice_front =
        let e : from - 2 ≡ before ts i = omega arith in
        ap₂ (λ n x. take n (drop 2 x)) e ef ∙ front_flat ts i

    splice_back : drop to f ≡ flat (drop (suc i) ts)
    splice_back =
        let e : to ≡ suc (suc (before ts (suc i))) = omega (arith, eb, before_next ts i (subst (i <◌) (sym many) hi)) in
        ap₂ (λ n x. drop n x) e ef ∙ back_flat ts (suc i)

    pub splice_afresh : splice_of (set_flag r.0 i d) f from to t ≡ write_frame (body its) q
    unfolding splice_of write_frame
    splice_afresh =
        let long : length f ≡ suc (suc (length (flat ts))) = ap length ef in
        let most : before ts i + length (get_or ts i []) ≤ length (flat ts) = before_most ts i (subst (i <◌) (sym many) hi) in
        let lf : length (take (from - 2) (drop 2 f)) ≡ from - 2 = omega (arith, length-take (from - 2) (drop 2 f), length-drop 2 f) in
        let lb : length (drop to f) ≡ length f - to = length-drop to f in
        let all : length (take (from - 2) (drop 2 f) ++ (t ++ drop to f)) ≡ length (take (from - 2) (drop 2 f)) + (length t + length (drop to f))
        = length-append (take (from - 2) (drop 2 f)) (t ++ drop to f) ∙ ap (length (take (from - 2) (drop 2 f)) +◌) (length-append t (drop to f)) in
        let n : from + length t + (length f - to) ≡ suc (suc (length (take (from - 2) (drop 2 f) ++ (t ++ drop to f)))) = omega arith in
        let w : set_flag r.0 i d ∷ (take (from - 2) (drop 2 f) ++ (t ++ drop to f)) ≡ (body its).write q = ap₂ (λ x y. set_flag r.0 i d ∷ (x ++ (t ++ y))) splice_front splice_back ∙ sym body_is in
        ap₂ ◌∷◌ (n ∙ ap (λ x. suc (length x)) w) w
