-- The array of a record: what the code puts together is it, and the record of an array is got back from it.
use Rattle.std.specs.Prelude.{◌≡◌, Bool, true, false, ℕ, ◌-◌, ◌≤◌, eqb, ℤ, pos, length, get_or, take, drop, set}
use Rattle.std.proofs.Math.Path.{refl, ap, subst}
use Rattle.std.proofs.Common.{sym, ◌∙◌, arith, eq-eqb, ne_eqb, length-set, length-append, length-drop, take-append-drop, drop_of_length-le, take_all, drop_at, length-take-le}
use mathlib.Core.List.{List, [], ◌∷◌, ◌++◌, map, append-nil}
use Rattle.std.proofs.lemmas.List.{length-map}
use Rattle.codec.specs.Pick.{pick}
use Rattle.codec.specs.Codec.{Octets}
use Rattle.papers.specs.Papers.{known}
use Rattle.layout.specs.declared.Record.{Record}
use Rattle.layout.specs.Answer.{Reading, Answer, Accepted, Refused}
use Rattle.layout.specs.Laws.Answer.{Accepted≢Refused, Refused≢Accepted}
use Rattle.scope.specs.Reading.{read_of, into_answer, kept_by, ReadsInto}
use Rattle.scope.specs.Writing.{write_of, Wrote}
use Rattle.scope.specs.Outputs.{Leaves}
use Rattle.scope.proofs.Laws.Outputs.{refused_left}
use Rattle.scope.proofs.Laws.Reading.{read_category, read_items, read_parts}
use Rattle.interface.specs.Packed.{answer_word}
use Rattle.interface.specs.Arrays.{PLACES, Filled, Fills, array_of, fill_answer, filled_by, are_octets, octet_of, of_array, write_array}
use Rattle.papers.specs.Papers.{SLOTS}

-- ---- the ways out of `write_array`

module _ (a : List ℤ) (out : List ℕ) where
  pub array_length : (length a ≡ PLACES → ⊥) → Leaves (write_array a (length out)) out (Refused 10 0) out
  unfolding write_array
  array_length h = refused_left (rw (ne_eqb (length a) PLACES h) refl) out refl

  module _ (l : length a ≡ PLACES) where
    pub array_unknown : known (octet_of (get_or a 0 (pos 0))) ≡ false → Leaves (write_array a (length out)) out (Refused 1 0) out
    unfolding write_array of_array
    array_unknown k = refused_left (rw (eq-eqb (length a) PLACES l, k) refl) out refl

    module _ (k : known (octet_of (get_or a 0 (pos 0))) ≡ true) where
      pub array_parts : are_octets (take 9 (drop 1 a)) ≡ false → Leaves (write_array a (length out)) out (Refused 10 0) out
      unfolding write_array of_array
      array_parts o = refused_left (rw (eq-eqb (length a) PLACES l, k, o) refl) out refl

      pub array_written : are_octets (take 9 (drop 1 a)) ≡ true → {f : Record} → f ≡ of_array a → {r : Answer} {out' : List ℕ} → Wrote f out r out' → Leaves (write_array a (length out)) out r out'
      unfolding write_array of_array
      array_written o {f} e {r} {out'} w =
          let same : write_of f (length out) ≡ write_array a (length out) = ap (λ x. write_of x (length out)) e ∙ rw (eq-eqb (length a) PLACES l, k, o) refl in
          subst (λ x. Leaves x out r out') same w

-- ---- the record that is put together of an array

pub record_made : (a : List ℤ) {c i : ℕ} {ps : List ℕ} {ns : List ℤ} → c ≡ octet_of (get_or a 0 (pos 0)) → i ≡ octet_of (get_or a 1 (pos 0)) → ps ≡ map octet_of (take 8 (drop 2 a))
    → ns ≡ take (length a - 10) (drop 10 a) → ◌≡◌ {A = Record} (record { cat = c; items = i; parts = ps; numbers = ns }) (of_array a)
unfolding of_array
record_made a ec ei ep en = λ t. record {
  cat = ec t;
  items = ei t;
  parts = ep t;
  numbers = (en ∙ take_all (length a - 10) (drop 10 a) (omega (arith, length-drop 10 a))) t;
}

-- ---- the array of a record has 87 places

pub array_places : (f : Record) → length f.parts ≡ 8 → length f.numbers ≡ SLOTS → length (array_of f) ≡ PLACES
unfolding array_of
array_places f lp ln = omega (arith, length-append (map pos f.parts) f.numbers, length-map f.parts pos, lp, ln)

-- ---- the array that is put together of a field: the numbers, which the reader puts into a part that is lent, then two numbers, then the parts

abbrev pub lent : List ℤ → List ℤ
lent out = take (length out - 10) (drop 10 out)

abbrev pub returned : List ℤ → List ℤ → List ℤ
returned out ns = take 10 out ++ (ns ++ drop (length out - 10) (drop 10 out))

abbrev pub begun : List ℤ → ℤ → ℤ → List ℤ
begun xs a b = set (set xs 0 a) 1 b

abbrev pub finished : List ℤ → List ℤ → List ℤ
finished xs ps = take 2 xs ++ (ps ++ drop 8 (drop 2 xs))

returned_same : (out : List ℤ) → returned out (lent out) ≡ out
returned_same out = ap (take 10 out ++◌) (take-append-drop (length out - 10) (drop 10 out)) ∙ take-append-drop 10 out

-- two numbers and the parts, over what stands before the numbers
put_front : (xs ps : List ℤ) (a b : ℤ) → 2 ≤ length xs → finished (begun xs a b) ps ≡ a ∷ b ∷ (ps ++ drop 10 xs)
put_front [] ps a b h = absurd (omega arith)
put_front (x ∷ []) ps a b h = absurd (omega arith)
put_front (x ∷ y ∷ xs) ps a b h = refl

module _ (out : List ℤ) (l : length out ≡ PLACES) where
  lent-many : length (lent out) ≡ SLOTS
  lent-many = length-take-le (length out - 10) (drop 10 out) (omega (arith, length-drop 10 out)) ∙ omega (arith, l)

  module _ (ns : List ℤ) (ln : length ns ≡ length (lent out)) where
    pub returned-length : length (returned out ns) ≡ PLACES
    returned-length =
        let rest : List ℤ = drop (length out - 10) (drop 10 out) in
        omega (arith, length-append (take 10 out) (ns ++ rest), length-append ns rest, length-take-le 10 out (omega (arith, l)), length-drop (length out - 10) (drop 10 out), length-drop 10 out, lent-many)

    returned_numbers : drop 10 (returned out ns) ≡ ns
    returned_numbers =
        drop_at (take 10 out) (ns ++ drop (length out - 10) (drop 10 out)) 10 (length-take-le 10 out (omega (arith, l)))
        ∙ ap (ns ++◌) (drop_of_length-le (drop 10 out) {i = length out - 10} (omega (arith, length-drop 10 out)))
        ∙ append-nil ns

    module _ (a b : ℤ) where
      pub begun-length : length (begun (returned out ns) a b) ≡ PLACES
      begun-length = length-set (set (returned out ns) 0 a) 1 b ∙ length-set (returned out ns) 0 a ∙ returned-length

      pub parts_room : length (take 8 (drop 2 (begun (returned out ns) a b))) ≡ 8
      parts_room = let xs : List ℤ = begun (returned out ns) a b in length-take-le 8 (drop 2 xs) (omega (arith, length-drop 2 xs, begun-length))

      finished_is : (ps : List ℤ) → finished (begun (returned out ns) a b) ps ≡ a ∷ b ∷ (ps ++ ns)
      finished_is ps = put_front (returned out ns) ps a b (omega (arith, returned-length)) ∙ ap (λ t. a ∷ b ∷ (ps ++ t)) returned_numbers

      pub finished-length : (ps : List ℤ) → length ps ≡ 8 → length (finished (begun (returned out ns) a b) ps) ≡ length out
      finished-length ps lp = ap length (finished_is ps) ∙ omega (arith, length-append ps ns, lent-many, l)

-- ---- what the reader tells of a field that it accepts

into_accepted : {x : Reading} {ps qs : List ℕ} {l m : List ℤ} {a : Answer} → ReadsInto x ps l a qs m → {n : ℕ} → a ≡ Accepted n → (x.answer ≡ Accepted n) × (qs ≡ x.kept.parts) × (m ≡ x.kept.numbers)
unfolding into_answer kept_by
into_accepted {x} {ps} {qs} {l} {m} {a} r {n} e = go x.answer r.answer r.parts r.numbers
  where
    by : (i : ℕ) (b : Bool) → (let y : Answer = pick b (Accepted i) (Refused 11 0) in a ≡ y → qs ≡ kept_by y x.kept.parts ps → m ≡ kept_by y x.kept.numbers l → (Accepted i ≡ Accepted n) × (qs ≡ x.kept.parts) × (m ≡ x.kept.numbers))
    by i true ea ep en = (sym ea ∙ e, ep, en)
    by i false ea ep en = Refused≢Accepted (sym ea ∙ e)

    go : (z : Answer) → (let y : Answer = into_answer (length l) z in a ≡ y → qs ≡ kept_by y x.kept.parts ps → m ≡ kept_by y x.kept.numbers l → (z ≡ Accepted n) × (qs ≡ x.kept.parts) × (m ≡ x.kept.numbers))
    go (Refused i j) ea ep en = Refused≢Accepted (sym ea ∙ e)
    go (Accepted i) ea ep en = by i (eqb (length l) SLOTS) ea ep en

module _ (cat : ℕ) (s : List ℕ) (o : Octets s) {ps qs : List ℕ} {l m : List ℤ} {a : Answer} (r : ReadsInto (read_of cat s) ps l a qs m) {n : ℕ} (e : a ≡ Accepted n) where
  -- the indicator may be looked at
  pub two_there : 2 ≤ length s
  two_there = (read_items cat s o n (into_accepted r e).0).0

  pub parts_many : length qs ≡ 8
  parts_many = let t = into_accepted r e in ap length t.1 ∙ read_parts cat s o n t.0

-- ---- the ways out of `read_array`

module _ {x : Reading} {ps qs : List ℕ} {m : List ℤ} {a : Answer} (out : List ℤ) where
  -- an array of another length lends no places
  pub filled_other : (length out ≡ PLACES → ⊥) → ReadsInto x ps [] a qs m → Filled x out a (m ++ out)
  unfolding fill_answer filled_by into_answer kept_by
  filled_other h r = go x.answer r.answer r.numbers
    where
      go : (y : Answer) → a ≡ into_answer 0 y → m ≡ kept_by (into_answer 0 y) x.kept.numbers [] → (a ≡ fill_answer (length out) y) × (m ++ out ≡ filled_by (fill_answer (length out) y) x.kept out)
      go (Refused n p) ea em = (ea, ap (◌++ out) em)
      go (Accepted n) ea em = rw (ne_eqb (length out) PLACES h) (ea, ap (◌++ out) em)

  module _ (l : length out ≡ PLACES) (r : ReadsInto x ps (lent out) a qs m) where
    pub filled_refused : {n p : ℕ} → a ≡ Refused n p → Filled x out a (returned out m)
    unfolding fill_answer filled_by into_answer kept_by
    filled_refused {n} {p} e = go x.answer r.answer r.numbers
      where
        go : (y : Answer) → a ≡ into_answer (length (lent out)) y → m ≡ kept_by (into_answer (length (lent out)) y) x.kept.numbers (lent out)
            → (a ≡ fill_answer (length out) y) × (returned out m ≡ filled_by (fill_answer (length out) y) x.kept out)
        go (Refused i j) ea em = (ea, ap (returned out) em ∙ returned_same out)
        go (Accepted i) ea em = Accepted≢Refused (sym (rw (eq-eqb (length (lent out)) SLOTS (lent-many out l)) at ea) ∙ e)

pub filled_accepted : (cat : ℕ) (s : List ℕ) → Octets s → (out : List ℤ) → length out ≡ PLACES → {ps qs : List ℕ} {m : List ℤ} {a : Answer} → ReadsInto (read_of cat s) ps (lent out) a qs m → length m ≡ length (lent out) → {n : ℕ} → a ≡ Accepted n
    → {c i : ℤ} {ws : List ℤ} → c ≡ pos cat → i ≡ pos (get_or s 1 0) → ws ≡ map pos qs → Filled (read_of cat s) out a (finished (begun (returned out m) c i) ws)
unfolding fill_answer filled_by array_of
filled_accepted cat s o out l {m = m} r lm {n} e {c} {i} {ws} ec ei ew =
    let t = into_accepted r e in
    let f : Record = (read_of cat s).kept in
    let cc' : c ≡ pos f.cat = ec ∙ ap pos (sym (read_category cat s o n t.0)) in
    let ii' : i ≡ pos f.items = ei ∙ ap pos (sym (read_items cat s o n t.0).1) in
    rw (t.0, eq-eqb (length out) PLACES l) (e, finished_is out l m lm c i ws ∙ (λ j. cc' j ∷ ii' j ∷ ((ew ∙ ap (map pos) t.1) j ++ t.2 j)))

-- ---- and the word of `ref_read`

pub fills-by : (x : Reading) (out : List ℤ) {a : Answer} {out' : List ℤ} → Filled x out a out' → {w : ℕ} → w ≡ answer_word a → Fills x out w out'
fills-by x out f ew = record { word = ew ∙ ap answer_word f.0; array = f.1 }
