-- A field is read exactly where it has the layout as printed, with the numbers that its bits stand for: chains, subfields, items, the row of items, LEN.
use Rattle.std.proofs.Math.Path.{◌≡◌, refl, sym, ap, ap₂, subst, subst₂}
use Rattle.std.proofs.Common.{◌∙◌, mod-lt, not-suc-le-zero, le_of_suc-le-suc, le_refl, eqb→eq, length-append, length-drop, take-add, take-take, pow_pos}
use Rattle.std.specs.Prelude.{Bool, false, T, ltb, eqb, ℤ, pos, negsuc, drop, replicate}
use Rattle.std.proofs.Math.Bool.{true}
use mathlib.Core.List.{List, [], ◌∷◌, ◌++◌, append_assoc, append-nil, head-eq_of_cons-eq, tail-eq_of_cons-eq}
use Prim.Native.Nat.{ℕ, zero, suc, ◌+◌, ◌-◌, ◌*◌, ◌^◌, ◌/◌, ◌%◌, ◌≤◌, ◌<◌}
use Prim.Native.String.{String}
use native.Mathlib.Omega.{arith}
use Rattle.std.proofs.Math.Dec.{ltb→lt}
use Rattle.std.proofs.Math.ListN.{length, take, length-take}
use Rattle.std.proofs.lemmas.List.{replicate-append-replicate}
use Rattle.std.proofs.Math.Seq.{drop-append_seam, length-take-le}
use borrow.Author.Tests.{eqb-true, eq-eqb, ltb-false}
use Rattle.codec.specs.Radix.{cut, ones}
use Rattle.codec.specs.Codec.{Octets, Res, got, bad, map_res, and_then, check, Codec, opt, pair_up, seq, guard}
use Rattle.codec.specs.Codec as codec
use Rattle.codec.specs.Line.{Held, plain, widths, count, line, fills}
use Rattle.codec.specs.Item.{slots_of, slots, nothing, beside, chain, is_one, subfields, item, good_lines, good_item}
use Rattle.codec.specs.Field.{first_flag, next_flags, place, row, flags, no_spare, indicator, Contents, body, good_items}
use Rattle.codec.specs.Frame.{accepted, settle, read_frame}
use Rattle.codec.specs.Meaning.{len_of, big_endian, bits_of, IsLine, zeros_for, fx_bit, IsChain, last, more, flag_of, AreSubfields, none, there, absent, IsItem, is_compound, is_fixed, zeros_in, AreItems, end, item as an_item, no_item, HasLayout}
use Rattle.codec.specs.Printed.{code, Run, spares, number, Structure, Entry, compound, fixed, index_of, run_names, number_names, adjacent, right_all, right_entry, right}
use Rattle.codec.specs.Made.{pieces_of, line_of, parts_of, subfields_of, item_of, made}
use Rattle.codec.proofs.Laws.Tests.{and_in, and_l, and_r, not_one}
use Rattle.codec.proofs.Laws.Codec.{octets_front, octets_rest, octets_take, octets_drop, bad≢got, found_map, found-check, found-then, number_one}
use Rattle.codec.proofs.Laws.Frame.{refused≢accepted, not_refused, settled, frame_whole}
use Rattle.codec.proofs.Laws.Flags.{spare_bits}
use Rattle.codec.proofs.Laws.Printed.{LineRead, line_is, is_line, run_bits, cut_runs, runs_fill}

-- ---- how many numbers

count_names : (rs : List Run) → count (pieces_of rs) ≡ length (run_names rs)
unfolding count
count_names [] = refl
count_names (spares a b ∷ rs) = count_names rs
count_names (number k a b s ∷ rs) = ap suc (count_names rs)

parts_names : (ps : List Structure) → slots_of (parts_of ps) ≡ length (number_names ps)
unfolding slots_of
parts_names [] = refl
parts_names (p ∷ ps) = ap₂ ◌+◌ (count_names p.runs) (parts_names ps) ∙ sym (length-append (run_names p.runs) (number_names ps))

subfields_names : (names : List String) (ss : List Structure) → slots_of (subfields_of names ss) ≡ length (number_names ss)
unfolding slots_of
subfields_names names [] = refl
subfields_names names (s ∷ ss) = ap₂ ◌+◌ (count_names s.runs) (subfields_names names ss) ∙ sym (length-append (run_names s.runs) (number_names ss))

-- ---- two readings, one behind the other

found-beside {ℓ} : {X : Type ℓ} (m : ℕ) (c : Codec Held) (d : Held → Codec Held) (xs : List ℕ) {b : (ℕ × ℕ) × List ℤ} {n : ℕ} → (beside m c d).read xs ≡ got b n
    → ((a v : Held) (i j : ℕ) → c.read xs ≡ got a i → (d a).read (drop i xs) ≡ got v j → b ≡ ((a.0, v.0), a.1 ++ v.1) → n ≡ i + j → X)
    → X
unfolding beside
found-beside m c d xs e k =
    found_map {A = Held × Held} {B = (ℕ × ℕ) × List ℤ} (λ a. ((a.0.0, a.1.0), a.0.1 ++ a.1.1)) (and_then xs (c.read xs) (λ a r. map_res (pair_up a) ((d a).read r))) e λ p e1 eb.
    found-then xs (c.read xs) (λ a r. map_res (pair_up a) ((d a).read r)) e1 λ a i j e2 e3 en.
    found_map (pair_up a) ((d a).read (drop i xs)) e3 λ v e4 ep.
    k a v i j e2 e4 (sym eb ∙ ap (λ (q : Held × Held). ((q.0.0, q.1.0), q.0.1 ++ q.1.1)) (sym ep)) (sym en)

pub beside_there : (m : ℕ) (c : Codec Held) (d : Held → Codec Held) (os ps rest : List ℕ) (a v : Held) → c.read (os ++ (ps ++ rest)) ≡ got a (length os)
    → (d a).read (ps ++ rest) ≡ got v (length ps) → (beside m c d).read (os ++ ps ++ rest) ≡ got ((a.0, v.0), a.1 ++ v.1) (length (os ++ ps))
unfolding beside
beside_there m c d os ps rest a v e1 e2 = rw (append_assoc os ps rest, e1, drop-append_seam os (ps ++ rest), e2, length-append os ps) refl

-- where the second octets end, and that they are there
both_within : (xs : List ℕ) (i j n : ℕ) → n ≡ i + j → i ≤ length xs → j ≤ length (drop i xs) → n ≤ length xs
both_within xs i j n e h k = let l : length (drop i xs) ≡ length xs - i = length-drop i xs in omega arith

both-take : (xs : List ℕ) (i j n : ℕ) → n ≡ i + j → take i xs ++ take j (drop i xs) ≡ take n xs
both-take xs i j n e = sym (take-add i j xs) ∙ ap (λ m. take m xs) (sym e)

-- ---- FX

pub fx_is : (os : List ℕ) → fx_bit os ≡ big_endian os % 2 ^ 1
unfolding bits_of
fx_is os = omega arith

-- ---- a chain

pub record ChainRead (ps : List Structure) (xs : List ℕ) (v : Held) (n : ℕ) : Type 0 where
  pub within : n ≤ length xs
  pub is : IsChain ps (take n xs) v.0 v.1

-- a part that ends the chain
chain_ends : (p : Structure) (ps : List Structure) (xs : List ℕ) (a : Held) (n : ℕ) → LineRead 1 p xs a n → a.0 ≡ 0 → (v : Held) → v.0 ≡ 1 → v.1 ≡ a.1 ++ zeros_for ps
    → ChainRead (p ∷ ps) xs v n
chain_ends p ps xs a n r f v e0 e1 = record {
  within = r.within;
  is = subst₂ (λ m z. IsChain (p ∷ ps) (take n xs) m z) (sym e0) (sym e1) (last r.is (fx_is (take n xs) ∙ sym r.below ∙ f));
}

-- a part and the rest of the chain
chain-goes : (p : Structure) (ps : List Structure) (xs : List ℕ) (a w : Held) (i j n : ℕ) → LineRead 1 p xs a i → a.0 ≡ 1 → ChainRead ps (drop i xs) w j → n ≡ i + j
    → (v : Held) → v.0 ≡ suc w.0 → v.1 ≡ a.1 ++ w.1 → ChainRead (p ∷ ps) xs v n
chain-goes p ps xs a w i j n r f c en v e0 e1 = record {
  within = both_within xs i j n en r.within c.within;
  is =
      subst (λ o. IsChain (p ∷ ps) o v.0 v.1) (both-take xs i j n en)
      (subst₂ (λ m z. IsChain (p ∷ ps) (take i xs ++ take j (drop i xs)) m z) (sym e0) (sym e1) (more r.is (fx_is (take i xs) ∙ sym r.below ∙ f) c.is));
}

module _ (p : Structure) (ps : List Structure) (h : T (right_all 1 (p ∷ ps))) where
  pub right_first : T (adjacent (8 * p.octets) 1 p.runs)
  unfolding right_all
  right_first = and_l (adjacent (8 * p.octets) 1 p.runs) _ h

  pub right_others : T (right_all 1 ps)
  unfolding right_all
  right_others = and_r (adjacent (8 * p.octets) 1 p.runs) _ h

pub fx_lt : (p : Structure) (xs : List ℕ) (a : Held) (n : ℕ) → LineRead 1 p xs a n → a.0 < 2
fx_lt p xs a n r = let e : a.0 ≡ big_endian (take n xs) % 2 ^ 1 = r.below in omega arith

-- what stands behind a part: the rest of the chain if FX is 1
abbrev pub rest_of : Structure → List Structure → Held → Codec Held
rest_of q qs v = opt (nothing (slots_of (parts_of (q ∷ qs)))) (eqb v.0 1) (chain (line_of 1 0 q) (parts_of qs))

chain_step : (p q : Structure) (qs : List Structure) (xs : List ℕ) (v : Held) (n : ℕ) (a w : Held) (i j : ℕ) → LineRead 1 p xs a i → n ≡ i + j → v ≡ (suc w.0, a.1 ++ w.1)
    → ((chain (line_of 1 0 q) (parts_of qs)).read (drop i xs) ≡ got w j → ChainRead (q ∷ qs) (drop i xs) w j) → (b : Bool) → eqb a.0 1 ≡ b
    → (opt (nothing (slots_of (parts_of (q ∷ qs)))) b (chain (line_of 1 0 q) (parts_of qs))).read (drop i xs) ≡ got w j → ChainRead (p ∷ q ∷ qs) xs v n
chain_step p q qs xs v n a w i j r en ev ih true eb ew =
    chain-goes p (q ∷ qs) xs a w i j n r (eqb-true a.0 1 eb) (ih ew) en v (ap (λ (x : Held). x.0) ev) (ap (λ (x : Held). x.1) ev)
chain_step p q qs xs v n a w i j r en ev ih false eb ew =
    let w0 : ◌≡◌ {A = Held} (0, replicate (slots_of (parts_of (q ∷ qs))) (pos 0)) w = cc in
    let j0 : 0 ≡ j = cc in
    let ei : i ≡ n = omega arith in
    chain_ends p (q ∷ qs) xs a n (subst (λ m. LineRead 1 p xs a m) ei r) (not_one a.0 (fx_lt p xs a i r) eb) v
    (ap (λ (x : Held). x.0) ev ∙ ap (λ (x : Held). suc x.0) (sym w0))
    (ap (λ (x : Held). x.1) ev ∙ ap (λ (x : Held). a.1 ++ x.1) (sym w0) ∙ ap (λ m. a.1 ++ replicate m (pos 0)) (parts_names (q ∷ qs)))

pub chain_is : (p : Structure) (qs : List Structure) → T (right_all 1 (p ∷ qs)) → (xs : List ℕ) → Octets xs → (v : Held) (n : ℕ)
    → (chain (line_of 1 0 p) (parts_of qs)).read xs ≡ got v n → ChainRead (p ∷ qs) xs v n
unfolding chain
chain_is p [] h xs o v n e =
    found_map {A = Held} {B = Held} (λ a. (1, a.1)) (check 7 (λ a. eqb a.0 0) ((line (line_of 1 0 p)).read xs)) e λ a e1 ea.
    found-check {A = Held} 7 (λ a. eqb a.0 0) ((line (line_of 1 0 p)).read xs) e1 λ e2 t.
    chain_ends p [] xs a n (line_is 1 0 p (right_first p [] h) xs o a n e2) (eqb→eq a.0 0 t) v (ap (λ (x : Held). x.0) (sym ea))
    (ap (λ (x : Held). x.1) (sym ea) ∙ sym (append-nil a.1))
chain_is p (q ∷ qs) h xs o v n e =
    let m : ℕ = count (pieces_of p.runs) in
    found_map {A = (ℕ × ℕ) × List ℤ} {B = Held} (λ a. (suc a.0.1, a.1)) ((beside m (line (line_of 1 0 p)) (rest_of q qs)).read xs) e λ b e1 eb.
    found-beside m (line (line_of 1 0 p)) (rest_of q qs) xs e1 λ a w i j ea ew ed en.
    let r : LineRead 1 p xs a i = line_is 1 0 p (right_first p (q ∷ qs) h) xs o a i ea in
    let ev : v ≡ (suc w.0, a.1 ++ w.1) = sym eb ∙ ap (λ (x : (ℕ × ℕ) × List ℤ). (suc x.0.1, x.1)) ed in
    chain_step p q qs xs v n a w i j r en ev (chain_is q qs (right_others p (q ∷ qs) h) (drop i xs) (octets_drop i xs o) w j) (eqb a.0 1) refl ew

-- and back: a chain is read as one

abbrev pub read_chain : List Structure → List ℕ → Res Held
read_chain [] xs = bad 0 0
read_chain (p ∷ ps) xs = (chain (line_of 1 0 p) (parts_of ps)).read xs

ends_read : (p : Structure) (ps : List Structure) → T (right_all 1 (p ∷ ps)) → (os : List ℕ) → Octets os → (zs : List ℤ) → IsLine p os zs → fx_bit os ≡ 0 → (rest : List ℕ)
    → read_chain (p ∷ ps) (os ++ rest) ≡ got (1, zs ++ zeros_for ps) (length os)
unfolding chain beside
ends_read p [] h os o zs l f rest =
    let z : big_endian os % 2 ^ 1 ≡ 0 = sym (fx_is os) ∙ f in
    let e : (line (line_of 1 0 p)).read (os ++ rest) ≡ got (big_endian os % 2 ^ 1, zs) (length os) = is_line 1 0 p (right_first p [] h) os o zs l rest in
    rw (e, z) (ap (λ x. got (1, x) (length os)) (sym (append-nil zs)))
ends_read p (q ∷ qs) h os o zs l f rest =
    let z : big_endian os % 2 ^ 1 ≡ 0 = sym (fx_is os) ∙ f in
    let e : (line (line_of 1 0 p)).read (os ++ rest) ≡ got (big_endian os % 2 ^ 1, zs) (length os) = is_line 1 0 p (right_first p (q ∷ qs) h) os o zs l rest in
    let s : length os + 0 ≡ length os = omega arith in
    rw (e, z, s) (ap (λ m. got (1, zs ++ replicate m (pos 0)) (length os)) (parts_names (q ∷ qs)))

goes_read : (p : Structure) (ps : List Structure) → T (right_all 1 (p ∷ ps)) → (os us : List ℕ) → Octets os → (n : ℕ) (zs ys : List ℤ) → IsLine p os zs → fx_bit os ≡ 1 → (rest : List ℕ)
    → read_chain ps (us ++ rest) ≡ got (n, ys) (length us) → read_chain (p ∷ ps) (os ++ us ++ rest) ≡ got (suc n, zs ++ ys) (length (os ++ us))
unfolding chain
goes_read p [] h os us o n zs ys l f rest e = bad≢got e
goes_read p (q ∷ qs) h os us o n zs ys l f rest e =
    let z : big_endian os % 2 ^ 1 ≡ 1 = sym (fx_is os) ∙ f in
    let e1 : (line (line_of 1 0 p)).read (os ++ (us ++ rest)) ≡ got (1, zs) (length os)
    = is_line 1 0 p (right_first p (q ∷ qs) h) os o zs l (us ++ rest) ∙ ap (λ x. got (x, zs) (length os)) z in
    rw (beside_there (count (pieces_of p.runs)) (line (line_of 1 0 p)) (rest_of q qs) os us rest (1, zs) (n, ys) e1 e) refl

pub is_chain : {ps : List Structure} {os : List ℕ} {n : ℕ} {zs : List ℤ} → IsChain ps os n zs → T (right_all 1 ps) → Octets os → (rest : List ℕ)
    → read_chain ps (os ++ rest) ≡ got (n, zs) (length os)
is_chain (last {p = p} {ps = ps} {os = os} {zs = zs} l f) h o rest = ends_read p ps h os o zs l f rest
is_chain (more {p = p} {ps = ps} {os = os} {rest = us} {n = n} {zs = zs} {ys = ys} l f c) h o rest =
    goes_read p ps h os us (octets_front os us o) n zs ys l f rest (is_chain c (right_others p ps h) (octets_rest os us o) rest)

-- ---- subfields

pub one_is : (z : ℤ) → is_one z ≡ true → z ≡ pos 1
unfolding is_one
one_is (pos n) e = ap pos (eqb-true n 1 e)
one_is (negsuc n) e = let x : ◌≡◌ {A = ℕ} 0 1 = cc in absurd (omega arith)

pub not_one_is : (z : ℤ) → is_one z ≡ false → z ≡ pos 1 → ⊥
unfolding is_one
not_one_is z e q = let t : true ≡ false = ap is_one (sym q) ∙ e in let x : ◌≡◌ {A = ℕ} 0 1 = cc in omega arith

pub is_one_lem : (z : ℤ) → z ≡ pos 1 → is_one z ≡ true
unfolding is_one
is_one_lem z e = ap is_one e

pub is_not_one : (z : ℤ) → (z ≡ pos 1 → ⊥) → is_one z ≡ false
is_not_one z x = go (is_one z) refl
  where
    go : (b : Bool) → is_one z ≡ b → b ≡ false
    go true e = absurd (x (one_is z e))
    go false e = refl

module _ (s : Structure) (ss : List Structure) (h : T (right_all 0 (s ∷ ss))) where
  pub right_sub : T (adjacent (8 * s.octets) 0 s.runs)
  unfolding right_all
  right_sub = and_l (adjacent (8 * s.octets) 0 s.runs) _ h

  pub right_subs : T (right_all 0 ss)
  unfolding right_all
  right_subs = and_r (adjacent (8 * s.octets) 0 s.runs) _ h

pub record SubfieldsRead (names : List String) (bits : List ℤ) (ss : List Structure) (xs : List ℕ) (v : Held) (n : ℕ) : Type 0 where
  pub within : n ≤ length xs
  pub count_is : v.0 ≡ 0
  pub are : AreSubfields names bits ss (take n xs) v.1

-- a subfield, there or not
abbrev pub sub_of : List String → List ℤ → Structure → Codec Held
sub_of names bits s = opt (nothing (count (pieces_of s.runs))) (is_one (flag_of names bits s)) (line (line_of 0 (index_of s.name names) s))

zeros_for_lem : (s : Structure) → replicate (count (pieces_of s.runs)) (pos 0) ≡ zeros_for (s ∷ [])
zeros_for_lem s = ap (λ m. replicate m (pos 0)) (count_names s.runs ∙ ap length (sym (append-nil (run_names s.runs))))

module _ (names : List String) (bits : List ℤ) where
  sub_step : (s : Structure) (ss : List Structure) → T (adjacent (8 * s.octets) 0 s.runs) → (xs : List ℕ) → Octets xs → (v : Held) (n : ℕ) (a w : Held) (i j : ℕ)
      → n ≡ i + j → v ≡ (0, a.1 ++ w.1) → SubfieldsRead names bits ss (drop i xs) w j → (b : Bool) → is_one (flag_of names bits s) ≡ b
      → (opt (nothing (count (pieces_of s.runs))) b (line (line_of 0 (index_of s.name names) s))).read xs ≡ got a i → SubfieldsRead names bits (s ∷ ss) xs v n
  sub_step s ss h xs o v n a w i j en ev ih true eb ea =
      let r : LineRead 0 s xs a i = line_is 0 (index_of s.name names) s h xs o a i ea in record {
        within = both_within xs i j n en r.within ih.within;
        count_is = ap (λ (x : Held). x.0) ev;
        are =
            subst₂ (λ p z. AreSubfields names bits (s ∷ ss) p z) (both-take xs i j n en) (ap (λ (x : Held). x.1) (sym ev))
            (there (one_is (flag_of names bits s) eb) r.is ih.are);
      }
  sub_step s ss h xs o v n a w i j en ev ih false eb ea =
      let a0 : ◌≡◌ {A = Held} (0, replicate (count (pieces_of s.runs)) (pos 0)) a = cc in
      let i0 : 0 ≡ i = cc in
      let ej : j ≡ n = omega arith in
      let ih0 : SubfieldsRead names bits ss xs w n = subst₂ (λ m k. SubfieldsRead names bits ss (drop m xs) w k) (sym i0) ej ih in record {
        within = ih0.within;
        count_is = ap (λ (x : Held). x.0) ev;
        are =
            subst (λ z. AreSubfields names bits (s ∷ ss) (take n xs) z)
            (ap (◌++ w.1) (sym (zeros_for_lem s)) ∙ ap (λ (x : Held). x.1 ++ w.1) a0 ∙ ap (λ (x : Held). x.1) (sym ev))
            (absent (not_one_is (flag_of names bits s) eb) ih0.are);
      }

  pub subfields_are : (ss : List Structure) → T (right_all 0 ss) → (xs : List ℕ) → Octets xs → (v : Held) (n : ℕ)
      → (subfields bits (subfields_of names ss)).read xs ≡ got v n → SubfieldsRead names bits ss xs v n
  unfolding subfields
  subfields_are [] h xs o v n e =
      let v0 : ◌≡◌ {A = Held} (0, []) v = cc in
      let n0 : 0 ≡ n = cc in
      subst₂ (λ w m. SubfieldsRead names bits [] xs w m) v0 n0 (record { within = omega arith; count_is = refl; are = none })
  subfields_are (s ∷ ss) h xs o v n e =
      let m : ℕ = count (pieces_of s.runs) in
      found_map {A = (ℕ × ℕ) × List ℤ} {B = Held} (λ a. (0, a.1)) ((beside m (sub_of names bits s) (λ a. subfields bits (subfields_of names ss))).read xs) e λ b e1 eb.
      found-beside m (sub_of names bits s) (λ a. subfields bits (subfields_of names ss)) xs e1 λ a w i j ea ew ed en.
      let ev : v ≡ (0, a.1 ++ w.1) = sym eb ∙ ap (λ (x : (ℕ × ℕ) × List ℤ). (0, x.1)) ed in
      sub_step s ss (right_sub s ss h) xs o v n a w i j en ev (subfields_are ss (right_subs s ss h) (drop i xs) (octets_drop i xs o) w j ew) (is_one (flag_of names bits s)) refl ea

  pub there_read : (s : Structure) → T (adjacent (8 * s.octets) 0 s.runs) → (os : List ℕ) → Octets os → (zs : List ℤ) → IsLine s os zs → flag_of names bits s ≡ pos 1 → (rest : List ℕ)
      → (sub_of names bits s).read (os ++ rest) ≡ got (0, zs) (length os)
  there_read s h os o zs l f rest =
      let z : big_endian os % 2 ^ 0 ≡ 0 = omega arith in
      rw (is_one_lem (flag_of names bits s) f) (is_line 0 (index_of s.name names) s h os o zs l rest ∙ ap (λ x. got (x, zs) (length os)) z)

  pub absent_read : (s : Structure) → (flag_of names bits s ≡ pos 1 → ⊥) → (xs : List ℕ) → (sub_of names bits s).read xs ≡ got (0, zeros_for (s ∷ [])) 0
  absent_read s f xs = rw (is_not_one (flag_of names bits s) f) (ap (λ z. got (0, z) 0) (zeros_for_lem s))

  pub are_subfields : {ss : List Structure} {os : List ℕ} {zs : List ℤ} → AreSubfields names bits ss os zs → T (right_all 0 ss) → Octets os → (rest : List ℕ)
      → (subfields bits (subfields_of names ss)).read (os ++ rest) ≡ got (0, zs) (length os)
  unfolding subfields
  are_subfields none h o rest = refl
  are_subfields (there {s = s} {ss = ss} {os = os} {rest = us} {zs = zs} {ys = ys} f l c) h o rest =
      rw (beside_there (count (pieces_of s.runs)) (sub_of names bits s) (λ a. subfields bits (subfields_of names ss)) os us rest (0, zs) (0, ys)
      (there_read s (right_sub s ss h) os (octets_front os us o) zs l f (us ++ rest)) (are_subfields c (right_subs s ss h) (octets_rest os us o) rest)) refl
  are_subfields (absent {s = s} {ss = ss} {rest = us} {ys = ys} f c) h o rest =
      rw (beside_there (count (pieces_of s.runs)) (sub_of names bits s) (λ a. subfields bits (subfields_of names ss)) [] us rest (0, zeros_for (s ∷ [])) (0, ys)
      (absent_read s f (us ++ rest)) (are_subfields c (right_subs s ss h) o rest)) refl

-- ---- an item

pub record ItemRead (e : Entry) (xs : List ℕ) (v : Held) (n : ℕ) : Type 0 where
  pub within : n ≤ length xs
  pub is : IsItem e (take n xs) v.0 v.1

module _ (name : String) (p : Structure) (qs ss : List Structure) (h : T (right_entry (compound name p qs ss))) where
  pub right_chain : T (right_all 1 (p ∷ qs))
  unfolding right_entry
  right_chain = and_l (right_all 1 (p ∷ qs)) _ h

  pub right_below : T (right_all 0 ss)
  unfolding right_entry
  right_below = and_l (right_all 0 ss) _ (and_r (right_all 1 (p ∷ qs)) _ h)

pub right_fixed : (s : Structure) → T (right_entry (fixed s)) → T (adjacent (8 * s.octets) 0 s.runs)
unfolding right_entry
right_fixed s h = right_sub s [] h

pub item_is_lem : (e : Entry) → T (right_entry e) → (xs : List ℕ) → Octets xs → (v : Held) (n : ℕ) → (item (item_of e)).read xs ≡ got v n → ItemRead e xs v n
unfolding item
item_is_lem (compound name p qs ss) h xs o v n e =
    let ns : List String = number_names (p ∷ qs) in
    let m : ℕ = slots_of (parts_of (p ∷ qs)) in
    let c : Codec Held = chain (line_of 1 0 p) (parts_of qs) in
    let d : Held → Codec Held = λ a. subfields a.1 (subfields_of ns ss) in
    found_map {A = (ℕ × ℕ) × List ℤ} {B = Held} (λ a. (a.0.0, a.1)) ((beside m c d).read xs) e λ b e1 eb.
    found-beside m c d xs e1 λ a w i j ea ew ed en.
    let r : ChainRead (p ∷ qs) xs a i = chain_is p qs (right_chain name p qs ss h) xs o a i ea in
    let q : SubfieldsRead ns a.1 ss (drop i xs) w j = subfields_are ns a.1 ss (right_below name p qs ss h) (drop i xs) (octets_drop i xs o) w j ew in
    let ev : (a.0, a.1 ++ w.1) ≡ v = ap (λ (x : (ℕ × ℕ) × List ℤ). (x.0.0, x.1)) (sym ed) ∙ eb in record {
      within = both_within xs i j n en r.within q.within;
      is = subst₂ (λ k (x : Held). IsItem (compound name p qs ss) k x.0 x.1) (both-take xs i j n en) ev (is_compound r.is q.are);
    }
item_is_lem (fixed s) h xs o v n e =
    let r : LineRead 0 s xs v n = line_is 0 0 s (right_fixed s h) xs o v n e in
    let z : v.0 ≡ big_endian (take n xs) % 2 ^ 0 = r.below in
    let z0 : 0 ≡ v.0 = omega arith in
    record { within = r.within; is = subst (λ m. IsItem (fixed s) (take n xs) m v.1) z0 (is_fixed r.is) }

pub is_an_item : {e : Entry} {os : List ℕ} {n : ℕ} {zs : List ℤ} → IsItem e os n zs → T (right_entry e) → Octets os → (rest : List ℕ) → (item (item_of e)).read (os ++ rest) ≡ got (n, zs) (length os)
unfolding item
is_an_item (is_compound {name = name} {p = p} {qs = qs} {ss = ss} {os = os} {rest = us} {n = n} {zs = zs} {ys = ys} c q) h o rest =
    rw (beside_there (slots_of (parts_of (p ∷ qs))) (chain (line_of 1 0 p) (parts_of qs)) (λ a. subfields a.1 (subfields_of (number_names (p ∷ qs)) ss)) os us rest (n, zs) (0, ys)
    (is_chain c (right_chain name p qs ss h) (octets_front os us o) (us ++ rest)) (are_subfields (number_names (p ∷ qs)) zs q (right_below name p qs ss h) (octets_rest os us o) rest)) refl
is_an_item (is_fixed {s = s} {os = os} {zs = zs} l) h o rest =
    let z : big_endian os % 2 ^ 0 ≡ 0 = omega arith in is_line 0 0 s (right_fixed s h) os o zs l rest ∙ ap (λ x. got (x, zs) (length os)) z

-- ---- a paper that is printed right makes good items

good_parts : (ps : List Structure) → T (right_all 1 ps) → T (good_lines 1 (parts_of ps))
unfolding good_lines
good_parts [] h = tt
good_parts (p ∷ ps) h = and_in (fills (line_of 1 0 p)) _ (runs_fill 1 0 p (right_first p ps h)) (good_parts ps (right_others p ps h))

good_subs : (names : List String) (ss : List Structure) → T (right_all 0 ss) → T (good_lines 0 (subfields_of names ss))
unfolding good_lines
good_subs names [] h = tt
good_subs names (s ∷ ss) h =
    and_in (fills (line_of 0 (index_of s.name names) s)) _ (runs_fill 0 (index_of s.name names) s (right_sub s ss h)) (good_subs names ss (right_subs s ss h))

good_single : (s : Structure) → T (adjacent (8 * s.octets) 0 s.runs) → T (good_lines 0 (line_of 0 0 s ∷ []))
unfolding good_lines
good_single s h = and_in (fills (line_of 0 0 s)) _ (runs_fill 0 0 s h) tt

pub good_entry : (e : Entry) → T (right_entry e) → T (good_item (item_of e))
unfolding good_item
good_entry (compound name p qs ss) h =
    and_in (good_lines 1 (parts_of (p ∷ qs))) _ (good_parts (p ∷ qs) (right_chain name p qs ss h)) (good_subs (number_names (p ∷ qs)) ss (right_below name p qs ss h))
good_entry (fixed s) h = good_single s (right_fixed s h)

-- ---- the row of items

-- the bits of the indicator from b down to 1
unfoldable pub flags_from : ℕ → ℕ → List ℕ
flags_from n zero = []
flags_from n (suc b) = bits_of n (suc b) (suc b) ∷ flags_from n b

abbrev bit_runs : ℕ → List Run
bit_runs zero = []
bit_runs (suc b) = number plain (suc b) (suc b) (record { name = ""; counts = code }) ∷ bit_runs b

pub flags-from : (n : ℕ) → n < 256 → flags n ≡ flags_from n 8
unfolding flags_from run_bits widths adjacent
flags-from n h = let e : n ≡ n % 2 ^ 8 / 2 ^ 0 = omega arith in ap (cut ones) e ∙ cut_runs n 8 0 (bit_runs 8) tt

pub bit_lt : (n b : ℕ) → bits_of n b b < 2
unfolding bits_of
bit_lt n b = let e : suc b - b ≡ 1 = omega arith in subst (λ x. n / 2 ^ (b - 1) % 2 ^ (suc b - b) < 2 ^ x) e (mod-lt (n / 2 ^ (b - 1)) (pow_pos (suc b - b)))

pub zeros_in_lem : (e : Entry) → replicate (slots (item_of e)) (pos 0) ≡ zeros_in e
unfolding slots slots_of
zeros_in_lem (compound name p qs ss) =
    sym (replicate-append-replicate (slots_of (parts_of (p ∷ qs))) (slots_of (subfields_of (number_names (p ∷ qs)) ss)) (pos 0))
    ∙ ap₂ (λ a b. replicate a (pos 0) ++ replicate b (pos 0)) (parts_names (p ∷ qs)) (subfields_names (number_names (p ∷ qs)) ss)
zeros_in_lem (fixed s) = ap (λ m. replicate m (pos 0)) (subfields_names [] (s ∷ []))

pub record RowRead (ind b : ℕ) (es : List Entry) (xs : List ℕ) (vs : List Held) (n : ℕ) : Type 0 where
  pub within : n ≤ length xs
  pub are : AreItems ind b es (take n xs) vs

module _ (e : Entry) (es : List Entry) (h : T (right (e ∷ es))) where
  pub right_entry_lem : T (right_entry e)
  unfolding right
  right_entry_lem = and_l (right_entry e) _ h

  pub right_entries : T (right es)
  unfolding right
  right_entries = and_r (right_entry e) _ h

found-seq {ℓ} : {A B : Type 0} {X : Type ℓ} (c : Codec A) (d : A → Codec B) (xs : List ℕ) {b : A × B} {n : ℕ} → (seq c d).read xs ≡ got b n
    → ((a : A) (v : B) (i j : ℕ) → c.read xs ≡ got a i → (d a).read (drop i xs) ≡ got v j → (a, v) ≡ b → n ≡ i + j → X)
    → X
found-seq c d xs e k =
    found-then xs (c.read xs) (λ a r. map_res (pair_up a) ((d a).read r)) e λ a i j e1 e2 en.
    found_map (pair_up a) ((d a).read (drop i xs)) e2 λ v e3 ep.
    k a v i j e1 e3 ep (sym en)

pub seq_there : {A B : Type 0} (c : Codec A) (d : A → Codec B) (os ps rest : List ℕ) (a : A) (v : B) → c.read (os ++ (ps ++ rest)) ≡ got a (length os)
    → (d a).read (ps ++ rest) ≡ got v (length ps) → (seq c d).read (os ++ ps ++ rest) ≡ got (a, v) (length (os ++ ps))
seq_there c d os ps rest a v e1 e2 = rw (append_assoc os ps rest, e1, drop-append_seam os (ps ++ rest), e2, length-append os ps) refl

module _ (ind : ℕ) where
  row_step : (b : ℕ) (e : Entry) (es : List Entry) → T (right_entry e) → (xs : List ℕ) → Octets xs → (vs : List Held) (n : ℕ) (a : Held) (ws : List Held) (i j : ℕ) → n ≡ i + j
      → a ∷ ws ≡ vs → RowRead ind b es (drop i xs) ws j → (x : Bool) → eqb (bits_of ind (suc b) (suc b)) 1 ≡ x
      → (opt (nothing (slots (item_of e))) x (item (item_of e))).read xs ≡ got a i → RowRead ind (suc b) (e ∷ es) xs vs n
  row_step b e es h xs o vs n a ws i j en ev ih true eb ea =
      let r : ItemRead e xs a i = item_is_lem e h xs o a i ea in record {
        within = both_within xs i j n en r.within ih.within;
        are = subst₂ (λ k x. AreItems ind (suc b) (e ∷ es) k x) (both-take xs i j n en) ev (an_item (eqb-true (bits_of ind (suc b) (suc b)) 1 eb) r.is ih.are);
      }
  row_step b e es h xs o vs n a ws i j en ev ih false eb ea =
      let a0 : ◌≡◌ {A = Held} (0, replicate (slots (item_of e)) (pos 0)) a = cc in
      let i0 : 0 ≡ i = cc in
      let ej : j ≡ n = omega arith in
      let ih0 : RowRead ind b es xs ws n = subst₂ (λ m k. RowRead ind b es (drop m xs) ws k) (sym i0) ej ih in
      let ez : ◌≡◌ {A = Held} (0, zeros_in e) a = (λ k. (0, sym (zeros_in_lem e) k)) ∙ a0 in record {
        within = ih0.within;
        are = subst (λ x. AreItems ind (suc b) (e ∷ es) (take n xs) x) (ap (◌∷ ws) ez ∙ ev) (no_item (not_one (bits_of ind (suc b) (suc b)) (bit_lt ind (suc b)) eb) ih0.are);
      }

  pub row_is : (b : ℕ) (es : List Entry) → length es ≤ b → T (right es) → (xs : List ℕ) → Octets xs → (vs : List Held) (n : ℕ)
      → (row (flags_from ind b) (made es)).read xs ≡ got vs n → RowRead ind b es xs vs n
  unfolding row first_flag next_flags flags_from
  row_is b [] k h xs o vs n e =
      let v0 : ◌≡◌ {A = List Held} [] vs = cc in
      let n0 : 0 ≡ n = cc in
      subst₂ (λ w m. RowRead ind b [] xs w m) v0 n0 (record { within = omega arith; are = end })
  row_is zero (e ∷ es) k h xs o vs n q = absurd (not-suc-le-zero k)
  row_is (suc b) (e ∷ es) k h xs o vs n q =
      let c : Codec Held = place (bits_of ind (suc b) (suc b)) (item_of e) in
      let d : Held → Codec (List Held) = λ v. row (flags_from ind b) (made es) in
      found_map {A = Held × List Held} {B = List Held} (λ p. p.0 ∷ p.1) ((seq c d).read xs) q λ p e1 ep.
      found-seq c d xs e1 λ a ws i j ea ew er en.
      row_step b e es (right_entry_lem e es h) xs o vs n a ws i j en (ap (λ (x : Held × List Held). x.0 ∷ x.1) er ∙ ep)
      (row_is b es (le_of_suc-le-suc k) (right_entries e es h) (drop i xs) (octets_drop i xs o) ws j ew) (eqb (bits_of ind (suc b) (suc b)) 1) refl ea

  pub is_row : {b : ℕ} {es : List Entry} {os : List ℕ} {vs : List Held} → AreItems ind b es os vs → T (right es) → Octets os → (rest : List ℕ)
      → (row (flags_from ind b) (made es)).read (os ++ rest) ≡ got vs (length os)
  unfolding row first_flag next_flags flags_from
  is_row end h o rest = refl
  is_row (an_item {b = b} {e = e} {es = es} {os = os} {rest = us} {n = n} {zs = zs} {vs = vs} f i c) h o rest =
      let p : (place (bits_of ind (suc b) (suc b)) (item_of e)).read (os ++ (us ++ rest)) ≡ got (n, zs) (length os)
      = rw f (is_an_item i (right_entry_lem e es h) (octets_front os us o) (us ++ rest)) in
      rw (seq_there (place (bits_of ind (suc b) (suc b)) (item_of e)) (λ v. row (flags_from ind b) (made es)) os us rest (n, zs) vs p
      (is_row c (right_entries e es h) (octets_rest os us o) rest)) refl
  is_row (no_item {b = b} {e = e} {es = es} {rest = us} {vs = vs} f c) h o rest =
      let p : (place (bits_of ind (suc b) (suc b)) (item_of e)).read (us ++ rest) ≡ got (0, zeros_in e) 0
      = rw f (ap (λ z. got (0, z) 0) (zeros_in_lem e)) in
      rw (seq_there (place (bits_of ind (suc b) (suc b)) (item_of e)) (λ v. row (flags_from ind b) (made es)) [] us rest (0, zeros_in e) vs p
      (is_row c (right_entries e es h) o rest)) refl

pub right_good : (es : List Entry) → T (right es) → T (good_items (made es))
unfolding good_items
right_good [] h = tt
right_good (e ∷ es) h = and_in (good_item (item_of e)) _ (good_entry e (right_entry_lem e es h)) (right_good es (right_entries e es h))

-- ---- what follows LEN

pub length_items : (es : List Entry) → length (made es) ≡ length es
length_items [] = refl
length_items (e ∷ es) = ap suc (length_items es)

-- the bits of the indicator behind the last item are its lowest
pub spare_is : (n : ℕ) (es : List Entry) → bits_of n (8 - length es) 1 ≡ n % 2 ^ (8 - length (made es))
unfolding bits_of
spare_is n es =
    let a : n / 2 ^ (1 - 1) ≡ n = omega arith in
    let b : suc (8 - length es) - 1 ≡ 8 - length (made es) = ap (λ x. suc (8 - x) - 1) (sym (length_items es)) ∙ omega arith in
    ap₂ (λ x y. x % 2 ^ y) a b

pub found-octet {ℓ} : {X : Type ℓ} (xs : List ℕ) (n i : ℕ) → (codec.number 1).read xs ≡ got n i → ((t : List ℕ) → xs ≡ n ∷ t → i ≡ 1 → X) → X
unfolding codec.number
found-octet [] n i e k = bad≢got e
found-octet (x ∷ t) n i e k =
    let g : got x 1 ≡ got n i = sym (number_one x t) ∙ e in
    let ex : x ≡ n = cc in
    let ei : i ≡ 1 = cc in
    k t (ap (◌∷ t) ex) ei

pub record BodyRead (es : List Entry) (xs : List ℕ) (r : Contents) (n : ℕ) : Type 0 where
  pub within : n ≤ length xs
  pub rest : List ℕ
  pub octets : take n xs ≡ r.0 ∷ rest
  pub spare : bits_of r.0 (8 - length es) 1 ≡ 0
  pub items : AreItems r.0 8 es rest r.1

module _ (es : List Entry) (h : T (right es)) (few : length es ≤ 8) where
  body-made : (n : ℕ) (t : List ℕ) → Octets (n ∷ t) → T (no_spare (made es) n) → (vs : List Held) (j : ℕ) → (row (flags n) (made es)).read t ≡ got vs j
      → BodyRead es (n ∷ t) (n, vs) (suc j)
  body-made n t o s vs j e =
      let lt : n < 256 = ltb→lt n 256 (and_l (ltb n 256) _ o) in
      let r : RowRead n 8 es t vs j = row_is n 8 es few h t (and_r (ltb n 256) _ o) vs j (subst (λ ds. (row ds (made es)).read t ≡ got vs j) (flags-from n lt) e) in
      let k : length (made es) < 9 = let l : length (made es) ≡ length es = length_items es in omega arith in
      let w : j ≤ length t = r.within in record {
        within = omega arith;
        rest = take j t;
        octets = refl;
        spare = spare_is n es ∙ eqb→eq (n % 2 ^ (8 - length (made es))) 0 (subst T (sym (spare_bits n (length (made es)) lt k)) s);
        items = r.are;
      }

  pub body_is : (xs : List ℕ) → Octets xs → (r : Contents) (n : ℕ) → (body (made es)).read xs ≡ got r n → BodyRead es xs r n
  unfolding body indicator
  body_is xs o r n e =
      found-seq (guard 4 (no_spare (made es)) (codec.number 1)) (λ m. row (flags m) (made es)) xs e λ m vs i j e1 e2 er en.
      found-check 4 (no_spare (made es)) ((codec.number 1).read xs) e1 λ e3 s.
      found-octet xs m i e3 λ t ex ei.
      let e4 : (row (flags m) (made es)).read t ≡ got vs j = ap₂ (λ a b. (row (flags m) (made es)).read (drop a b)) (sym ei) (sym ex) ∙ e2 in
      let nj : suc j ≡ n = omega arith in
      subst (λ x. BodyRead es x r n) (sym ex) (subst₂ (λ q k. BodyRead es (m ∷ t) q k) er nj (body-made m t (subst Octets ex o) s vs j e4))

  pub is_body : (n : ℕ) (t : List ℕ) → Octets (n ∷ t) → (vs : List Held) → bits_of n (8 - length es) 1 ≡ 0 → AreItems n 8 es t vs
      → (body (made es)).read (n ∷ t) ≡ got (n, vs) (suc (length t))
  unfolding body indicator
  is_body n t o vs s a =
      let lt : n < 256 = ltb→lt n 256 (and_l (ltb n 256) _ o) in
      let k : length (made es) < 9 = let l : length (made es) ≡ length es = length_items es in omega arith in
      let s1 : no_spare (made es) n ≡ true = sym (spare_bits n (length (made es)) lt k) ∙ eq-eqb (n % 2 ^ (8 - length (made es))) 0 (sym (spare_is n es) ∙ s) in
      let e : (row (flags n) (made es)).read t ≡ got vs (length t)
      = ap₂ (λ ds x. (row ds (made es)).read x) (flags-from n lt) (sym (append-nil t)) ∙ is_row n a h (and_r (ltb n 256) _ o) [] in
      let one : 1 + length t ≡ suc (length t) = omega arith in
      rw (number_one n t, s1, e, one) refl

  -- ---- the field: read exactly where its first LEN octets have the layout

  IsEmpty : List ℕ → Type 0
  IsEmpty [] = Unit {0}
  IsEmpty (x ∷ xs) = ⊥

  empty≢ {ℓ} : {X : Type ℓ} {x : ℕ} {xs : List ℕ} → [] ≡ x ∷ xs → X
  unfolding IsEmpty
  empty≢ e = absurd (subst IsEmpty e tt)

  pub field_is : (s : List ℕ) → Octets s → (r : Contents) → read_frame (body (made es)) s ≡ accepted r → HasLayout es (take (len_of s) s) r
  unfolding read_frame len_of
  field_is [] o r e = refused≢accepted e
  field_is (len ∷ t) o r e =
      not_refused (ltb len 2) 3 0 _ e λ e1 f1.
      not_refused (ltb (suc (length t)) len) 2 0 _ f1 λ e2 f2.
      let m : ℕ = len - 1 in
      let a : 2 ≤ len = ltb-false len 2 e1 in
      let b : len ≤ suc (length t) = ltb-false (suc (length t)) len e2 in
      let em : len ≡ suc m = omega arith in
      let g : BodyRead es (take m t) r m = body_is (take m t) (octets_take m t (and_r (ltb len 256) _ o)) r m (settled m _ r f2) in
      let f : take len (len ∷ t) ≡ len ∷ take m t = ap (λ k. take k (len ∷ t)) em in
      let l : length (take len (len ∷ t)) ≡ len = length-take-le len (len ∷ t) b in
      let q : take m t ≡ r.0 ∷ g.rest = sym (take-take m m t (le_refl m)) ∙ g.octets in record {
        rest = g.rest;
        octets = f ∙ ap₂ ◌∷◌ (sym l) q;
        spare = g.spare;
        items = g.items;
      }

  pub is_field : (s : List ℕ) → Octets s → (r : Contents) → HasLayout es (take (len_of s) s) r → read_frame (body (made es)) s ≡ accepted r
  unfolding len_of settle
  is_field [] o r l = empty≢ l.octets
  is_field (zero ∷ t) o r l = empty≢ l.octets
  is_field (suc m ∷ t) o r l =
      let hd : suc m ≡ suc (length (take m t)) = head-eq_of_cons-eq l.octets in
      let tl : take m t ≡ r.0 ∷ l.rest = tail-eq_of_cons-eq l.octets in
      let n : length (take m t) ≡ suc (length l.rest) = ap length tl in
      let k : m ≤ length t = omega (arith, length-take m t) in
      let sm : suc m - 1 ≡ m = omega arith in
      let e : (body (made es)).read (take (suc m - 1) t) ≡ got r (suc (length l.rest))
      = ap (λ x. (body (made es)).read (take x t)) sm ∙ ap (body (made es)).read tl
      ∙ is_body r.0 l.rest (subst Octets tl (octets_take m t (and_r (ltb (suc m) 256) _ o))) r.1 l.spare l.items in
      let q : suc (length l.rest) ≡ suc m - 1 = omega arith in
      frame_whole (body (made es)) (suc m) t (omega arith) (omega arith) ∙ rw (e, eq-eqb (suc (length l.rest)) (suc m - 1) q) refl
