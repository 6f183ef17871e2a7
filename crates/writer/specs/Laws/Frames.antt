-- LEN and the indicator before the items: the field of a record.
use Rattle.std.specs.Prelude.{◌≡◌, refl, true, List, [], ◌∷◌, ◌++◌, T, ℤ}
use Rattle.std.proofs.Common.{sym, ◌∙◌, le_trans}
use Rattle.std.proofs.Math.Path.{ap, ap₂, subst, subst₂}
use Prim.Native.Nat.{ℕ, suc, ◌+◌, ◌%◌, ◌≤◌}
use Rattle.std.proofs.Math.Nat.{mod-eq_of_lt}
use native.Mathlib.Omega.{arith}
use Rattle.std.proofs.Math.ListN.{length, drop, set}
use Rattle.std.proofs.Math.Seq.{sets, sets-eq}
use Rattle.codec.specs.Codec.{number}
use Rattle.codec.specs.Item.{Item}
use Rattle.codec.specs.Field.{row, flags, indicator, Contents, body}
use Rattle.codec.specs.Frame.{write_frame, okay_frame}
use Rattle.codec.proofs.Laws.Tests.{and_l, and_r}
use Rattle.codec.proofs.Laws.Radix.{cut_one}
use Rattle.codec.proofs.Laws.Field.{row_okay}
use Rattle.codec.proofs.Laws.Longest.{field_size}
use Rattle.papers.specs.Papers.{LONGEST, known, paper_of, items_of}
use Rattle.papers.proofs.Laws.Papers.{few_octets}
use Rattle.layout.specs.Record.{regroup, unflatten, fits_paper, contents}
use Rattle.scope.specs.Writing.{writable, written}
use Rattle.spots.specs.Spots.{spot_at, spot_of, items_from, held_from}
use Rattle.spots.specs.Laws.Spots.{Spots, spots_right}
use Rattle.writer.specs.Laying.{Lays}
use Rattle.codec.proofs.Laws.Sets.{Put}
use Rattle.writer.specs.Frames.{made, Laid}

-- ---- the first octet set last

sets_behind : {A : Type 0} (x : A) (l : List A) (i : ℕ) (xs : List A) → sets (x ∷ l) (suc i) xs ≡ x ∷ sets l i xs
sets_behind x l i [] = refl
sets_behind x l i (y ∷ xs) = sets_behind x (set l i y) (suc i) xs

sets_none : {A : Type 0} (i : ℕ) (xs : List A) → sets [] i xs ≡ []
sets_none i [] = refl
sets_none i (x ∷ xs) = sets_none (suc i) xs

set_last : {A : Type 0} (o : List A) (x y : A) (xs : List A) → set (sets (set o 1 y) 2 xs) 0 x ≡ sets o 0 (x ∷ y ∷ xs)
set_last [] x y xs = ap (λ (l : List _). set l 0 x) (sets_none 2 xs) ∙ sym (sets_none 2 xs)
set_last (z ∷ o) x y xs = ap (λ (l : List _). set l 0 x) (sets_behind z (set o 0 y) 1 xs) ∙ sym (sets_behind x (set o 0 y) 1 xs)

-- ---- what the codec writes

module _ (cat items : ℕ) (ps : List ℕ) (ns : List ℤ) where
  abbrev its : List Item
  its = paper_of cat

  abbrev what : Contents
  what = (items, regroup its ps ns)

  abbrev octets : List ℕ
  octets = (row (flags items) its).write (regroup its ps ns)

  written_is : written (made cat items ps ns) ≡ suc (suc (length octets)) ∷ items ∷ octets
  unfolding written write_frame contents unflatten body indicator number
  written_is = ap (λ xs. suc (length (xs ++ octets)) ∷ (xs ++ octets)) (cut_one items)

  row_can : T (writable (made cat items ps ns)) → T ((row (flags items) its).okay (regroup its ps ns))
  unfolding writable okay_frame contents unflatten
  row_can t = row_okay its what (and_r (fits_paper cat its (made cat items ps ns)) _ (and_l ((contents cat).okay (made cat items ps ns)) _ t))

  short : suc (suc (length octets)) ≤ LONGEST
  unfolding written write_frame contents unflatten
  short =
      subst (◌≤ LONGEST) (ap length written_is) (le_trans (field_size its what) (few_octets cat))

  -- end is the place behind the items
  pub lay_front : known cat ≡ true → (o : List ℕ) → length o ≡ LONGEST → {k n : ℕ} → k ≡ spot_of cat → n ≡ items_of cat → {l m q : List ℕ} {end e : ℕ}
      → l ≡ set o 1 items → Lays (row (flags items) (items_from k n)) (held_from k n 0 ps ns) l 2 m end → e ≡ end % 256 → q ≡ set m 0 e → Laid (made cat items ps ns) o q
  unfolding held_from
  lay_front h o long {k} {n} ek en {l} {m} {q} {end} {e} el w ee eq = record {
    front = λ t.
        let s : Spots cat = spots_right cat h in
        let items_are : items_from k n ≡ its = ap₂ items_from ek en ∙ s.items_are in
        let first : (spot_at k).1 ≡ 0 = ap (λ j. (spot_at j).1) ek ∙ s.begins in
        let all : Lays (row (flags items) its) (regroup its ps ns) l 2 m end
        = subst₂ (λ x j. Lays (row (flags items) x) (regroup x ps (drop j ns)) l 2 m end) items_are first w in
        let fits : suc (suc (length octets)) ≤ LONGEST = short in
        let p : Put octets l 2 m end = all.laid (row_can t) (omega arith) in
        let place : end ≡ 2 + length octets = p.place in
        let low : end % 256 ≡ end = mod-eq_of_lt (omega arith) in
        let small : end % 256 ≡ suc (suc (length octets)) = omega arith in
        let room : 0 + length (written (made cat items ps ns)) ≤ length o = rw (ap length written_is, long) (omega arith) in
        let z : 0 + length (written (made cat items ps ns)) ≡ length (written (made cat items ps ns)) = omega arith in
        eq ∙ ap₂ (λ x j. set x 0 j) (p.octets ∙ ap (λ x. sets x 2 octets) el) (ee ∙ small)
        ∙ set_last o (suc (suc (length octets))) items octets
        ∙ ap (sets o 0) (sym written_is)
        ∙ sets-eq (written (made cat items ps ns)) o 0 room
        ∙ ap (λ j. written (made cat items ps ns) ++ drop j o) z;
  }
