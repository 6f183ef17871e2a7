-- What a reading takes, and the place of its refusal, lie within what it was given.
use Rattle.std.specs.Prelude.{◌≡◌, refl, Bool, true, false, List, [], ◌∷◌, ℕ, suc, ◌-◌, ◌^◌, ◌/◌, ◌%◌, ◌≤◌, ltb, leb, eqb, ℤ, length, take, drop}
use Rattle.std.proofs.Common.{subst, zero-le, arith, length-drop, length-take-le, leb-true, ltb-false}
use Rattle.codec.specs.Pick.{pick}
use Rattle.codec.specs.Radix.{cut}
use Rattle.codec.specs.Codec.{Res, got, bad, map_res, shift, check, and_then, Codec, Blank, absent, opt, pair_up, raw, number}
use Rattle.codec.specs.Line.{Line, Held, widths, count, clear, nums, in_limits, cells, line}
use Rattle.codec.specs.Item.{Item, chained, single, slots_of, slots, nothing, beside, chain, flagged, subfields, item}
use Rattle.codec.specs.Field.{no_row, first_flag, next_flags, row, flags, no_spare, indicator, body}
use Rattle.codec.specs.Frame.{Outcome, accepted, refused, settle, read_frame}
use Rattle.codec.specs.Meaning.{len_of}

abbrev pub Short : {A : Type 0} → ℕ → Res A → Type 0
Short n (got a k) = k ≤ n
Short n (bad e p) = p ≤ n

-- of the read function alone, so that a use need not say how the codec writes
pub record Within {A : Type 0} (rd : List ℕ → Res A) : Type 0 where
  pub short : (xs : List ℕ) → Short (length xs) (rd xs)

-- ---- each way of putting codecs together

short_map : {A B : Type 0} (f : A → B) (n : ℕ) (m : Res A) → Short n m → Short n (map_res f m)
short_map f n (got a k) h = h
short_map f n (bad e p) h = h

short_pick : {A : Type 0} (n : ℕ) (b : Bool) (m l : Res A) → Short n m → Short n l → Short n (pick b m l)
short_pick n true m l h k = h
short_pick n false m l h k = k

short_check : {A : Type 0} (q : ℕ) (t : A → Bool) (n : ℕ) (m : Res A) → Short n m → Short n (check q t m)
short_check q t n (got a k) h = short_pick n (t a) (got a k) (bad q 0) h zero-le
short_check q t n (bad e p) h = h

short_shift : {A : Type 0} (n k : ℕ) → k ≤ n → (m : Res A) → Short (n - k) m → Short n (shift k m)
short_shift n k h (got a j) t = omega arith
short_shift n k h (bad e p) t = omega arith

short_then : {A B : Type 0} (xs : List ℕ) (m : Res A) (f : A → List ℕ → Res B) → Short (length xs) m → ((a : A) (r : List ℕ) → Short (length r) (f a r)) → Short (length xs) (and_then xs m f)
short_then xs (got a k) f h g = short_shift (length xs) k h (f a (drop k xs)) (subst (λ n. Short n (f a (drop k xs))) (length-drop k xs) (g a (drop k xs)))
short_then xs (bad e p) f h g = h

within_raw : (k : ℕ) → Within (raw k).read
within_raw k = record { short = λ xs. go xs (leb k (length xs)) refl }
  where
    go : (xs : List ℕ) (b : Bool) → leb k (length xs) ≡ b → Short (length xs) (pick b (got (take k xs) k) (bad 5 0))
    go xs true e = leb-true k (length xs) e
    go xs false e = zero-le

within_absent : {A : Type 0} (z : Blank A) → Within (absent z).read
within_absent z = record { short = λ xs. zero-le }

within_opt : {A : Type 0} (z : Blank A) (b : Bool) (c : Codec A) → Within c.read → Within (opt z b c).read
within_opt z true c t = t
within_opt z false c t = within_absent z

within_guard : {A : Type 0} (n : ℕ) (test : A → Bool) {rd : List ℕ → Res A} → Within rd → Within (λ xs. check n test (rd xs))
within_guard n test {rd} t = record { short = λ xs. short_check n test (length xs) (rd xs) (t.short xs) }

within_via : {A B : Type 0} (f : A → B) {rd : List ℕ → Res A} → Within rd → Within (λ xs. map_res f (rd xs))
within_via f {rd} t = record { short = λ xs. short_map f (length xs) (rd xs) (t.short xs) }

within_seq : {A B : Type 0} {rd : List ℕ → Res A} (d : A → List ℕ → Res B) → Within rd → ((a : A) → Within (d a)) → Within (λ xs. and_then xs (rd xs) (λ a r. map_res (pair_up a) (d a r)))
within_seq {rd = rd} d t u = record {
  short = λ xs.
      short_then xs (rd xs) (λ a r. map_res (pair_up a) (d a r)) (t.short xs) (λ a r. short_map (pair_up a) (length r) (d a r) ((u a).short r));
}

-- ---- every level of the format

within_number : (k : ℕ) → Within (number k).read
unfolding number
within_number k = within_via _ (within_raw k)

within_line : (l : Line) → Within (line l).read
unfolding line cells
within_line l =
    within_guard 8 (λ v. in_limits l.pieces v.1)
    (within_via (λ p. (p.0, nums l.pieces p.1))
    (within_guard 6 (λ p. clear l.pieces p.1) (within_via (λ n. (n % 2 ^ l.fx, cut (widths l.pieces) (n / 2 ^ l.fx))) (within_number l.octets))))

within_beside : (n : ℕ) (c : Codec Held) (d : Held → Codec Held) → Within c.read → ((a : Held) → Within (d a).read) → Within (beside n c d).read
unfolding beside
within_beside n c d t u = within_via _ (within_seq _ t u)

within_chain : (p : Line) (qs : List Line) → Within (chain p qs).read
unfolding chain
within_chain p [] = within_via (λ v. (1, v.1)) (within_guard 7 (λ v. eqb v.0 0) (within_line p))
within_chain p (q ∷ qs) =
    within_via _
    (within_beside _ (line p) (λ v. opt (nothing (slots_of (q ∷ qs))) (eqb v.0 1) (chain q qs)) (within_line p)
    (λ v. within_opt (nothing (slots_of (q ∷ qs))) (eqb v.0 1) (chain q qs) (within_chain q qs)))

within_subfields : (zs : List ℤ) (ss : List Line) → Within (subfields zs ss).read
unfolding subfields
within_subfields zs [] = within_absent (nothing 0)
within_subfields zs (s ∷ ss) =
    let z : Blank Held = nothing (count s.pieces) in
    within_via (λ a. (0, a.1))
    (within_beside (count s.pieces) (opt z (flagged zs s) (line s)) (λ v. subfields zs ss) (within_opt z (flagged zs s) (line s) (within_line s))
    (λ v. within_subfields zs ss))

within_item : (it : Item) → Within (item it).read
unfolding item
within_item (chained p qs ss) = within_via _ (within_beside _ (chain p qs) (λ a. subfields a.1 ss) (within_chain p qs) (λ a. within_subfields a.1 ss))
within_item (single l) = within_line l

within_row : (ds : List ℕ) (its : List Item) → Within (row ds its).read
unfolding row
within_row ds [] = within_absent no_row
within_row ds (it ∷ its) =
    within_via _ (within_seq _ (within_opt (nothing (slots it)) (eqb (first_flag ds) 1) (item it) (within_item it)) (λ v. within_row (next_flags ds) its))

pub within_body : (its : List Item) → Within (body its).read
unfolding body indicator
within_body its = within_seq _ (within_guard 4 (no_spare its) (within_number 1)) (λ n. within_row (flags n) its)

-- ---- the place of a refusal in a field: 0 where LEN decides, else at most LEN

abbrev pub PlaceTo : {A : Type 0} → ℕ → Outcome A → Type 0
PlaceTo n (accepted a) = Unit {0}
PlaceTo n (refused e p) = p ≤ n

settle_place : {A : Type 0} (m : ℕ) (x : Res A) → Short m x → PlaceTo (suc m) (settle m x)
unfolding settle
settle_place m (got r n) h = go (eqb n m)
  where
    go : (b : Bool) → PlaceTo (suc m) (pick b (accepted r) (refused 9 (suc n)))
    go true = tt
    go false = omega arith
settle_place m (bad e p) h = omega arith

pub frame_place : {A : Type 0} (c : Codec A) → Within c.read → (s : List ℕ) → PlaceTo (len_of s) (read_frame c s)
unfolding read_frame len_of
frame_place c w [] = zero-le
frame_place {A} c w (len ∷ t) = small (ltb len 2) refl
  where
    short : (b : Bool) → 2 ≤ len → ltb (suc (length t)) len ≡ b → PlaceTo len (pick b (refused 2 0) (settle (len - 1) (c.read (take (len - 1) t))))
    short true h e = zero-le
    short false h e =
        let g : len ≤ suc (length t) = ltb-false (suc (length t)) len e in
        let n : length (take (len - 1) t) ≡ len - 1 = length-take-le (len - 1) t (omega arith) in
        let m : suc (len - 1) ≡ len = omega arith in
        subst (λ k. PlaceTo k (settle (len - 1) (c.read (take (len - 1) t)))) m
        (settle_place (len - 1) (c.read (take (len - 1) t)) (subst (λ k. Short k (c.read (take (len - 1) t))) n (w.short (take (len - 1) t))))

    small : (b : Bool) → ltb len 2 ≡ b → PlaceTo len (pick b (refused 3 0) (pick (ltb (suc (length t)) len) (refused 2 0) (settle (len - 1) (c.read (take (len - 1) t)))))
    small true e = zero-le
    small false e = short (ltb (suc (length t)) len) (ltb-false len 2 e) refl
