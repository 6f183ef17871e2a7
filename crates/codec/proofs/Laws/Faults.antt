-- A field is refused exactly by its first fault, and at its place: lines, chains, subfields, items, the row of items, LEN. Each level both ways.
use Rattle.std.proofs.Math.Path.{◌≡◌, refl, sym, ap, ap₂, subst}
use Rattle.std.proofs.Common.{◌∙◌, subst₂, not-suc-le-zero, le_of_suc-le-suc, ltb→lt, length-take, length-drop, take-append-drop}
use Rattle.std.specs.Prelude.{Bool, T, ltb, leb, ℤ, pos, drop}
use Rattle.std.proofs.Math.Bool.{true, false}
use mathlib.Core.List.{List, [], ◌∷◌, ◌++◌, tail-eq_of_cons-eq}
use Prim.Native.Nat.{ℕ, zero, suc, ◌+◌, ◌-◌, ◌*◌, ◌≤◌, ◌<◌}
use Prim.Native.String.{String}
use native.Mathlib.Omega.{arith}
use Rattle.std.proofs.Math.Dec.{eqb}
use Rattle.std.proofs.Math.ListN.{length, take, length-append}
use Rattle.std.proofs.Math.Seq.{drop-append_seam, length-take-le}
use borrow.Author.Tests.{eqb-true, eqb-false, ltb-true, ltb-false, leb-true, leb-false, ne_eqb}
use Rattle.codec.specs.Pick.{pick}
use Rattle.codec.specs.Codec.{Octets, Res, got, bad, map_res, shift, and_then, check, Codec, opt, pair_up, seq}
use Rattle.codec.specs.Line.{Held, Line, count, clear, nums, in_limits, line}
use Rattle.codec.specs.Item.{slots_of, slots, nothing, beside, chain, is_one, subfields, item}
use Rattle.codec.specs.Field.{first_flag, next_flags, place, row, flags, no_spare, indicator, Contents, body}
use Rattle.codec.specs.Frame.{Outcome, accepted, refused, settle, read_frame}
use Rattle.codec.specs.Printed.{Structure, Entry, compound, fixed, index_of, number_names, adjacent, right_all, right_entry, right}
use Rattle.codec.specs.Made.{pieces_of, line_of, parts_of, subfields_of, item_of, made}
use Rattle.codec.specs.Meaning.{big_endian, bits_of, numbers_of, IsLine, zeros_for, fx_bit, flag_of, zeros_in, AreItems, len_of}
use Rattle.codec.specs.Faults.{front_of, LineFault, not_whole, spare_set, out_of_range, ChainFault, at_part, no_further, behind_part, SubfieldFault, at_subfield, behind_subfield, no_subfield, ItemFault, in_chain, in_subfields, in_fixed, ItemsFault, at_item, behind_item, no_item, Opens, FieldFault, empty, small, short, indicator_spare, at_items, octets_left}
use Rattle.codec.proofs.Laws.Tests.{and_l, and_r, holds, fails, not_one}
use Rattle.codec.proofs.Laws.Codec.{octets_front, octets_rest, octets_take, octets_drop, bad≢got, number_one}
use Rattle.codec.proofs.Laws.Line.{digits_of, line_short, line_spare, line_limit, line_there}
use Rattle.codec.proofs.Laws.Flags.{spare_bits}
use Rattle.codec.proofs.Laws.Frame.{refused≢accepted, frame_small, frame_short, frame_bad, frame_left}
use Rattle.codec.proofs.Laws.Printed.{LineRead, line_is, is_line, run_bits, digits_are, numbers_are, clear_tested, tested_clear, within_tested, tested_within}
use Rattle.codec.proofs.Laws.Meaning.{fx_is, ChainRead, chain_is, is_chain, read_chain, rest_of, right_first, right_others, fx_lt, one_is, not_one_is, is_one_lem, right_sub, right_subs, sub_of, there_read, absent_read, right_chain, right_below, right_fixed, ItemRead, item_is_lem, is_an_item, zeros_in_lem, flags_from, flags-from, bit_lt, right_entry_lem, right_entries, is_row, length_items, spare_is, BodyRead, body_is}

-- ---- a reading that was refused, by the ways of putting codecs together

got≢bad {ℓ} : {X : Type ℓ} {A : Type 0} {a : A} {n e p : ℕ} → got a n ≡ bad e p → X
got≢bad q = bad≢got (sym q)

fell-map {ℓ} : {X : Type ℓ} {A B : Type 0} (f : A → B) (m : Res A) {e p : ℕ} → map_res f m ≡ bad e p → (m ≡ bad e p → X) → X
fell-map f (got a n) q k = got≢bad q
fell-map f (bad n j) {e} {p} q k = let en : n ≡ e = cc in let ej : j ≡ p = cc in k (ap₂ bad en ej)

fell-check {ℓ} : {X : Type ℓ} {A : Type 0} (n : ℕ) (t : A → Bool) (m : Res A) {e p : ℕ} → check n t m ≡ bad e p → (m ≡ bad e p → X)
    → ((a : A) (i : ℕ) → m ≡ got a i → t a ≡ false → e ≡ n → p ≡ 0 → X) → X
fell-check {X = X} n t (got a i) {e} {p} q k l = go (t a) refl q
  where
    go : (b : Bool) → t a ≡ b → pick b (got a i) (bad n 0) ≡ bad e p → X
    go true et h = got≢bad h
    go false et h = l a i refl et (cc) (cc)
fell-check n t (bad e p) q k l = k q

fell-then {ℓ} : {X : Type ℓ} {A B : Type 0} (xs : List ℕ) (m : Res A) (f : A → List ℕ → Res B) {e p : ℕ} → and_then xs m f ≡ bad e p → (m ≡ bad e p → X)
    → ((a : A) (i k : ℕ) → m ≡ got a i → f a (drop i xs) ≡ bad e k → p ≡ i + k → X) → X
fell-then {X = X} {B = B} xs (got a i) f {e} {p} q k l = go (f a (drop i xs)) refl q
  where
    go : (r : Res B) → f a (drop i xs) ≡ r → shift i r ≡ bad e p → X
    go (got b j) er h = got≢bad h
    go (bad n j) er h = let en : n ≡ e = cc in let ep : i + j ≡ p = cc in l a i j refl (er ∙ ap (λ x. bad x j) en) (sym ep)
fell-then xs (bad n j) f {e} {p} q k l = let en : n ≡ e = cc in let ej : j ≡ p = cc in k (ap₂ bad en ej)

fell-beside {ℓ} : {X : Type ℓ} (m : ℕ) (c : Codec Held) (d : Held → Codec Held) (xs : List ℕ) {e p : ℕ} → (beside m c d).read xs ≡ bad e p → (c.read xs ≡ bad e p → X)
    → ((a : Held) (i k : ℕ) → c.read xs ≡ got a i → (d a).read (drop i xs) ≡ bad e k → p ≡ i + k → X) → X
unfolding beside
fell-beside m c d xs q k l =
    fell-map {A = Held × Held} {B = (ℕ × ℕ) × List ℤ} (λ a. ((a.0.0, a.1.0), a.0.1 ++ a.1.1)) (and_then xs (c.read xs) (λ a r. map_res (pair_up a) ((d a).read r))) q λ q1.
    fell-then xs (c.read xs) (λ a r. map_res (pair_up a) ((d a).read r)) q1 k λ a i j ea e2 ep.
    fell-map (pair_up a) ((d a).read (drop i xs)) e2 λ e3.
    l a i j ea e3 ep

fell-seq {ℓ} : {A B : Type 0} {X : Type ℓ} (c : Codec A) (d : A → Codec B) (xs : List ℕ) {e p : ℕ} → (seq c d).read xs ≡ bad e p → (c.read xs ≡ bad e p → X)
    → ((a : A) (i k : ℕ) → c.read xs ≡ got a i → (d a).read (drop i xs) ≡ bad e k → p ≡ i + k → X) → X
fell-seq c d xs q k l =
    fell-then xs (c.read xs) (λ a r. map_res (pair_up a) ((d a).read r)) q k λ a i j ea e2 ep.
    fell-map (pair_up a) ((d a).read (drop i xs)) e2 λ e3.
    l a i j ea e3 ep

beside_first : (m : ℕ) (c : Codec Held) (d : Held → Codec Held) (xs : List ℕ) {e p : ℕ} → c.read xs ≡ bad e p → (beside m c d).read xs ≡ bad e p
unfolding beside
beside_first m c d xs q = rw q refl

beside-second : (m : ℕ) (c : Codec Held) (d : Held → Codec Held) (os rest : List ℕ) (a : Held) {e k : ℕ} → c.read (os ++ rest) ≡ got a (length os) → (d a).read rest ≡ bad e k
    → (beside m c d).read (os ++ rest) ≡ bad e (length os + k)
unfolding beside
beside-second m c d os rest a q r = rw (q, drop-append_seam os rest, r) refl

seq-second : {A B : Type 0} (c : Codec A) (d : A → Codec B) (os rest : List ℕ) (a : A) {e k : ℕ} → c.read (os ++ rest) ≡ got a (length os) → (d a).read rest ≡ bad e k
    → (seq c d).read (os ++ rest) ≡ bad e (length os + k)
seq-second c d os rest a q r = rw (q, drop-append_seam os rest, r) refl

-- the octets that were read, and those behind them, are all the octets: a fault behind them is one of the whole
whole : {n : ℕ} (F : List ℕ → ℕ → ℕ → Type 0) (xs : List ℕ) (i k p : ℕ) → i ≤ length xs → p ≡ i + k → F (take i xs ++ drop i xs) n (length (take i xs) + k) → F xs n p
whole {n} F xs i k p h e f =
    subst₂ (λ x y. F x n y) (take-append-drop i xs) (ap (◌+ k) (length-take-le i xs h) ∙ sym e) f

-- ---- a line

module _ (fx flag : ℕ) (s : Structure) (h : T (adjacent (8 * s.octets) fx s.runs)) (xs : List ℕ) (o : Octets xs) where
  abbrev l : Line
  l = line_of fx flag s

  module _ (w : s.octets ≤ length xs) where
    abbrev os : List ℕ
    os = take s.octets xs

    clear_is : clear l.pieces (digits_of l xs) ≡ clear (pieces_of s.runs) (run_bits (big_endian os) s.runs)
    clear_is = ap (clear l.pieces) (digits_are fx flag s h os (octets_take s.octets xs o) (length-take-le s.octets xs w))

    limits_are : in_limits l.pieces (nums l.pieces (digits_of l xs)) ≡ in_limits (pieces_of s.runs) (numbers_of (big_endian os) s.runs)
    limits_are = ap (in_limits l.pieces) (numbers_are fx flag s h os (octets_take s.octets xs o) (length-take-le s.octets xs w))

  pub line_faulty : {n : ℕ} → LineFault s xs n → (line (line_of fx flag s)).read xs ≡ bad n 0
  line_faulty (not_whole w) = line_short l xs w
  line_faulty (spare_set w x) = line_spare l xs w (clear_is w ∙ fails _ (λ t. x (tested_clear (front_of s xs) s.runs t)))
  line_faulty (out_of_range w c x) =
      line_limit l xs w (clear_is w ∙ holds _ (clear_tested (front_of s xs) s.runs c)) (limits_are w ∙ fails _ (λ t. x (tested_within (front_of s xs) s.runs t)))

  pub faulty_line : (n k : ℕ) → (line (line_of fx flag s)).read xs ≡ bad n k → LineFault s xs n × (0 ≡ k)
  faulty_line n k e = whole_or (leb s.octets (length xs)) refl
    where
      by : {m : ℕ} → (line (line_of fx flag s)).read xs ≡ bad m 0 → LineFault s xs m → LineFault s xs n × (0 ≡ k)
      by {m} q f = let g : bad m 0 ≡ bad n k = sym q ∙ e in let en : m ≡ n = cc in let ek : 0 ≡ k = cc in (subst (LineFault s xs) en f, ek)

      ranges : (w : s.octets ≤ length xs) → clear l.pieces (digits_of l xs) ≡ true → (b : Bool) → in_limits l.pieces (nums l.pieces (digits_of l xs)) ≡ b → LineFault s xs n × (0 ≡ k)
      ranges w c true q = got≢bad (sym (line_there l xs w c q) ∙ e)
      ranges w c false q =
          by (line_limit l xs w c q) (out_of_range w (tested_clear (front_of s xs) s.runs (subst T (sym (sym (clear_is w) ∙ c)) tt)) λ y.
          let z : true ≡ false = sym (holds _ (within_tested (front_of s xs) s.runs y)) ∙ sym (limits_are w) ∙ q in let i : ◌≡◌ {A = ℕ} 0 1 = cc in omega arith)

      spares : (w : s.octets ≤ length xs) → (b : Bool) → clear l.pieces (digits_of l xs) ≡ b → LineFault s xs n × (0 ≡ k)
      spares w true q = ranges w q (in_limits l.pieces (nums l.pieces (digits_of l xs))) refl
      spares w false q =
          by (line_spare l xs w q) (spare_set w λ y.
          let z : true ≡ false = sym (holds _ (clear_tested (front_of s xs) s.runs y)) ∙ sym (clear_is w) ∙ q in let i : ◌≡◌ {A = ℕ} 0 1 = cc in omega arith)

      whole_or : (b : Bool) → leb s.octets (length xs) ≡ b → LineFault s xs n × (0 ≡ k)
      whole_or true q = spares (leb-true s.octets (length xs) q) (clear l.pieces (digits_of l xs)) refl
      whole_or false q = let w : length xs < s.octets = leb-false s.octets (length xs) q in by (line_short l xs w) (not_whole w)

-- ---- a chain

-- only a chain of some parts has one
abbrev Some : List Structure → Type 0
Some [] = ⊥
Some (p ∷ ps) = Unit {0}

chain_some : {ps : List Structure} {xs : List ℕ} {n k : ℕ} → ChainFault ps xs n k → Some ps
chain_some (at_part f) = tt
chain_some (no_further rest i f) = tt
chain_some (behind_part i f c) = tt

chain_at_lem : (p : Structure) (ps : List Structure) (xs : List ℕ) (n : ℕ) → (line (line_of 1 0 p)).read xs ≡ bad n 0 → read_chain (p ∷ ps) xs ≡ bad n 0
unfolding chain
chain_at_lem p [] xs n e = rw e refl
chain_at_lem p (q ∷ qs) xs n e = rw (beside_first (count (pieces_of p.runs)) (line (line_of 1 0 p)) (rest_of q qs) xs e) refl

chain_behind : (p : Structure) (ps : List Structure) (os rest : List ℕ) (zs : List ℤ) (n k : ℕ) → (line (line_of 1 0 p)).read (os ++ rest) ≡ got (1, zs) (length os) → ChainFault ps rest n k
    → read_chain ps rest ≡ bad n k → read_chain (p ∷ ps) (os ++ rest) ≡ bad n (length os + k)
unfolding chain
chain_behind p [] os rest zs n k e f r = absurd (chain_some f)
chain_behind p (q ∷ qs) os rest zs n k e f r = rw (beside-second (count (pieces_of p.runs)) (line (line_of 1 0 p)) (rest_of q qs) os rest (1, zs) e r) refl

part_read : (p : Structure) (ps : List Structure) → T (right_all 1 (p ∷ ps)) → (os rest : List ℕ) → Octets os → (zs : List ℤ) → IsLine p os zs → fx_bit os ≡ 1
    → (line (line_of 1 0 p)).read (os ++ rest) ≡ got (1, zs) (length os)
part_read p ps h os rest o zs i f =
    is_line 1 0 p (right_first p ps h) os o zs i rest ∙ ap (λ x. got (x, zs) (length os)) (sym (fx_is os) ∙ f)

pub chain_faulty : {ps : List Structure} {xs : List ℕ} {n k : ℕ} → ChainFault ps xs n k → T (right_all 1 ps) → Octets xs → read_chain ps xs ≡ bad n k
unfolding chain
chain_faulty (at_part {p = p} {ps = ps} {xs = xs} {n = n} f) h o = chain_at_lem p ps xs n (line_faulty 1 0 p (right_first p ps h) xs o f)
chain_faulty (no_further {p = p} {os = os} {zs = zs} rest i f) h o = rw (part_read p [] h os rest (octets_front os rest o) zs i f) refl
chain_faulty (behind_part {p = p} {ps = ps} {os = os} {rest = rest} {zs = zs} {n = n} {k = k} i f c) h o =
    chain_behind p ps os rest zs n k (part_read p ps h os rest (octets_front os rest o) zs i f) c (chain_faulty c (right_others p ps h) (octets_rest os rest o))

-- a part that was read, and FX in it
fx_of_lem : (p : Structure) (xs : List ℕ) (a : Held) (i : ℕ) (r : LineRead 1 p xs a i) → a.0 ≡ 1 → fx_bit (take i xs) ≡ 1
fx_of_lem p xs a i r e = fx_is (take i xs) ∙ sym r.below ∙ e

pub faulty_chain : (p : Structure) (qs : List Structure) → T (right_all 1 (p ∷ qs)) → (xs : List ℕ) → Octets xs → (n k : ℕ) → (chain (line_of 1 0 p) (parts_of qs)).read xs ≡ bad n k
    → ChainFault (p ∷ qs) xs n k
unfolding chain
faulty_chain p [] h xs o n k e =
    fell-map {A = Held} {B = Held} (λ a. (1, a.1)) (check 7 (λ a. eqb a.0 0) ((line (line_of 1 0 p)).read xs)) e λ e1.
    fell-check {A = Held} 7 (λ a. eqb a.0 0) ((line (line_of 1 0 p)).read xs) e1
    (λ e2. let f = faulty_line 1 0 p (right_first p [] h) xs o n k e2 in subst (ChainFault (p ∷ []) xs n) f.1 (at_part f.0))
    λ a i e2 t en ek.
    let r : LineRead 1 p xs a i = line_is 1 0 p (right_first p [] h) xs o a i e2 in
    let lt : a.0 < 2 = fx_lt p xs a i r in
    let ne : a.0 ≡ 0 → ⊥ = eqb-false a.0 0 t in
    let one : a.0 ≡ 1 = fx_one a.0 lt ne in
    subst₂ (λ x y. ChainFault (p ∷ []) xs x y) (sym en) (sym ek)
    (subst (λ x. ChainFault (p ∷ []) x 7 0) (take-append-drop i xs) (no_further (drop i xs) r.is (fx_of_lem p xs a i r one)))
  where
    fx_one : (x : ℕ) → x < 2 → (x ≡ 0 → ⊥) → x ≡ 1
    fx_one zero lt ne = absurd (ne refl)
    fx_one (suc zero) lt ne = refl
    fx_one (suc (suc x)) lt ne = absurd (omega arith)
faulty_chain p (q ∷ qs) h xs o n k e =
    fell-map {A = (ℕ × ℕ) × List ℤ} {B = Held} (λ a. (suc a.0.1, a.1)) ((beside (count (pieces_of p.runs)) (line (line_of 1 0 p)) (rest_of q qs)).read xs) e λ e1.
    fell-beside (count (pieces_of p.runs)) (line (line_of 1 0 p)) (rest_of q qs) xs e1
    (λ e2. let f = faulty_line 1 0 p (right_first p (q ∷ qs) h) xs o n k e2 in subst (ChainFault (p ∷ q ∷ qs) xs n) f.1 (at_part f.0))
    λ a i j ea ed ep. go a i j ea ep (faulty_chain q qs (right_others p (q ∷ qs) h) (drop i xs) (octets_drop i xs o) n j) (eqb a.0 1) refl ed
  where
    go : (a : Held) (i j : ℕ) → (line (line_of 1 0 p)).read xs ≡ got a i → k ≡ i + j
        → ((chain (line_of 1 0 q) (parts_of qs)).read (drop i xs) ≡ bad n j → ChainFault (q ∷ qs) (drop i xs) n j) → (b : Bool) → eqb a.0 1 ≡ b
        → (opt (nothing (slots_of (parts_of (q ∷ qs)))) b (chain (line_of 1 0 q) (parts_of qs))).read (drop i xs) ≡ bad n j → ChainFault (p ∷ q ∷ qs) xs n k
    go a i j ea ep ih true eb ed =
        let r : LineRead 1 p xs a i = line_is 1 0 p (right_first p (q ∷ qs) h) xs o a i ea in
        whole (ChainFault (p ∷ q ∷ qs)) xs i j k r.within ep (behind_part r.is (fx_of_lem p xs a i r (eqb-true a.0 1 eb)) (ih ed))
    go a i j ea ep ih false eb ed = got≢bad ed

-- ---- subfields

module _ (names : List String) (bits : List ℤ) where
  sub_there : (s : Structure) (xs : List ℕ) (n : ℕ) → flag_of names bits s ≡ pos 1 → (line (line_of 0 (index_of s.name names) s)).read xs ≡ bad n 0
      → (sub_of names bits s).read xs ≡ bad n 0
  sub_there s xs n f e = rw (is_one_lem (flag_of names bits s) f) e

  pub subfield_faulty : {ss : List Structure} {xs : List ℕ} {n k : ℕ} → SubfieldFault names bits ss xs n k → T (right_all 0 ss) → Octets xs
      → (subfields bits (subfields_of names ss)).read xs ≡ bad n k
  unfolding subfields
  subfield_faulty (at_subfield {s = s} {ss = ss} {xs = xs} {n = n} f l) h o =
      rw (beside_first (count (pieces_of s.runs)) (sub_of names bits s) (λ a. subfields bits (subfields_of names ss)) xs
      (sub_there s xs n f (line_faulty 0 (index_of s.name names) s (right_sub s ss h) xs o l))) refl
  subfield_faulty (behind_subfield {s = s} {ss = ss} {os = os} {rest = rest} {zs = zs} f l c) h o =
      rw (beside-second (count (pieces_of s.runs)) (sub_of names bits s) (λ a. subfields bits (subfields_of names ss)) os rest (0, zs)
      (there_read names bits s (right_sub s ss h) os (octets_front os rest o) zs l f rest) (subfield_faulty c (right_subs s ss h) (octets_rest os rest o))) refl
  subfield_faulty (no_subfield {s = s} {ss = ss} {xs = xs} {n = n} {k = k} f c) h o =
      rw (beside-second (count (pieces_of s.runs)) (sub_of names bits s) (λ a. subfields bits (subfields_of names ss)) [] xs (0, zeros_for (s ∷ []))
      (absent_read names bits s f xs) (subfield_faulty c (right_subs s ss h) o)) (ap (bad n) (omega arith))

  pub faulty_subfield : (ss : List Structure) → T (right_all 0 ss) → (xs : List ℕ) → Octets xs → (n k : ℕ) → (subfields bits (subfields_of names ss)).read xs ≡ bad n k
      → SubfieldFault names bits ss xs n k
  unfolding subfields
  faulty_subfield [] h xs o n k e = got≢bad e
  faulty_subfield (s ∷ ss) h xs o n k e =
      fell-map {A = (ℕ × ℕ) × List ℤ} {B = Held} (λ a. (0, a.1)) ((beside (count (pieces_of s.runs)) (sub_of names bits s) (λ a. subfields bits (subfields_of names ss))).read xs) e λ e1.
      fell-beside (count (pieces_of s.runs)) (sub_of names bits s) (λ a. subfields bits (subfields_of names ss)) xs e1
      (λ e2. here (is_one (flag_of names bits s)) refl e2)
      λ a i j ea ed ep. behind a i j (faulty_subfield ss (right_subs s ss h) (drop i xs) (octets_drop i xs o) n j ed) ep (is_one (flag_of names bits s)) refl ea
    where
      here : (b : Bool) → is_one (flag_of names bits s) ≡ b → (opt (nothing (count (pieces_of s.runs))) b (line (line_of 0 (index_of s.name names) s))).read xs ≡ bad n k
          → SubfieldFault names bits (s ∷ ss) xs n k
      here true eb e2 =
          let f = faulty_line 0 (index_of s.name names) s (right_sub s ss h) xs o n k e2 in
          subst (SubfieldFault names bits (s ∷ ss) xs n) f.1 (at_subfield (one_is (flag_of names bits s) eb) f.0)
      here false eb e2 = got≢bad e2

      behind : (a : Held) (i j : ℕ) → SubfieldFault names bits ss (drop i xs) n j → k ≡ i + j → (b : Bool) → is_one (flag_of names bits s) ≡ b
          → (opt (nothing (count (pieces_of s.runs))) b (line (line_of 0 (index_of s.name names) s))).read xs ≡ got a i → SubfieldFault names bits (s ∷ ss) xs n k
      behind a i j f ep true eb ea =
          let r : LineRead 0 s xs a i = line_is 0 (index_of s.name names) s (right_sub s ss h) xs o a i ea in
          whole (SubfieldFault names bits (s ∷ ss)) xs i j k r.within ep (behind_subfield (one_is (flag_of names bits s) eb) r.is f)
      behind a i j f ep false eb ea =
          let i0 : 0 ≡ i = cc in
          let ek : j ≡ k = omega arith in
          no_subfield (not_one_is (flag_of names bits s) eb) (subst₂ (λ x y. SubfieldFault names bits ss (drop x xs) n y) (sym i0) ek f)

-- ---- an item

module _ (name : String) (p : Structure) (qs ss : List Structure) where
  abbrev chain_of : Codec Held
  chain_of = chain (line_of 1 0 p) (parts_of qs)

  abbrev below_of : Held → Codec Held
  below_of a = subfields a.1 (subfields_of (number_names (p ∷ qs)) ss)

pub item_faulty : {e : Entry} {xs : List ℕ} {n k : ℕ} → ItemFault e xs n k → T (right_entry e) → Octets xs → (item (item_of e)).read xs ≡ bad n k
unfolding item
item_faulty (in_chain {name = name} {p = p} {qs = qs} {ss = ss} {xs = xs} f) h o =
    rw (beside_first (slots_of (parts_of (p ∷ qs))) (chain_of name p qs ss) (below_of name p qs ss) xs (chain_faulty f (right_chain name p qs ss h) o)) refl
item_faulty (in_subfields {name = name} {p = p} {qs = qs} {ss = ss} {os = os} {rest = rest} {m = m} {zs = zs} c f) h o =
    rw (beside-second (slots_of (parts_of (p ∷ qs))) (chain_of name p qs ss) (below_of name p qs ss) os rest (m, zs)
    (is_chain c (right_chain name p qs ss h) (octets_front os rest o) rest)
    (subfield_faulty (number_names (p ∷ qs)) zs f (right_below name p qs ss h) (octets_rest os rest o))) refl
item_faulty (in_fixed {s = s} {xs = xs} f) h o = line_faulty 0 0 s (right_fixed s h) xs o f

pub faulty_item : (e : Entry) → T (right_entry e) → (xs : List ℕ) → Octets xs → (n k : ℕ) → (item (item_of e)).read xs ≡ bad n k → ItemFault e xs n k
unfolding item
faulty_item (compound name p qs ss) h xs o n k e =
    fell-map {A = (ℕ × ℕ) × List ℤ} {B = Held} (λ a. (a.0.0, a.1)) ((beside (slots_of (parts_of (p ∷ qs))) (chain_of name p qs ss) (below_of name p qs ss)).read xs) e λ e1.
    fell-beside (slots_of (parts_of (p ∷ qs))) (chain_of name p qs ss) (below_of name p qs ss) xs e1
    (λ e2. in_chain (faulty_chain p qs (right_chain name p qs ss h) xs o n k e2))
    λ a i j ea ed ep.
    let r : ChainRead (p ∷ qs) xs a i = chain_is p qs (right_chain name p qs ss h) xs o a i ea in
    whole (ItemFault (compound name p qs ss)) xs i j k r.within ep
    (in_subfields r.is (faulty_subfield (number_names (p ∷ qs)) a.1 ss (right_below name p qs ss h) (drop i xs) (octets_drop i xs o) n j ed))
faulty_item (fixed s) h xs o n k e =
    let f = faulty_line 0 0 s (right_fixed s h) xs o n k e in subst (ItemFault (fixed s) xs n) f.1 (in_fixed f.0)

-- ---- the row of items

module _ (ind : ℕ) where
  abbrev place_for : ℕ → Entry → Codec Held
  place_for b e = place (bits_of ind (suc b) (suc b)) (item_of e)

  abbrev row_for : ℕ → List Entry → Codec (List Held)
  row_for b es = row (flags_from ind b) (made es)

  pub row_faulty : {b : ℕ} {es : List Entry} {xs : List ℕ} {n k : ℕ} → ItemsFault ind b es xs n k → T (right es) → Octets xs → (row_for b es).read xs ≡ bad n k
  unfolding row first_flag next_flags flags_from
  row_faulty (at_item {b = b} {e = e} {es = es} f i) h o = rw (f, item_faulty i (right_entry_lem e es h) o) refl
  row_faulty (behind_item {b = b} {e = e} {es = es} {os = os} {rest = rest} {m = m} {zs = zs} f i c) h o =
      let p : (place_for b e).read (os ++ rest) ≡ got (m, zs) (length os) = rw f (is_an_item i (right_entry_lem e es h) (octets_front os rest o) rest) in
      rw (seq-second (place_for b e) (λ v. row_for b es) os rest (m, zs) p (row_faulty c (right_entries e es h) (octets_rest os rest o))) refl
  row_faulty (no_item {b = b} {e = e} {es = es} {xs = xs} {n = n} {k = k} f c) h o =
      let p : (place_for b e).read xs ≡ got (0, zeros_in e) 0 = rw f (ap (λ z. got (0, z) 0) (zeros_in_lem e)) in
      rw (seq-second (place_for b e) (λ v. row_for b es) [] xs (0, zeros_in e) p (row_faulty c (right_entries e es h) o)) (ap (bad n) (omega arith))

  pub faulty_row : (b : ℕ) (es : List Entry) → length es ≤ b → T (right es) → (xs : List ℕ) → Octets xs → (n k : ℕ) → (row_for b es).read xs ≡ bad n k → ItemsFault ind b es xs n k
  unfolding row first_flag next_flags flags_from
  faulty_row b [] few h xs o n k q = got≢bad q
  faulty_row zero (e ∷ es) few h xs o n k q = absurd (not-suc-le-zero few)
  faulty_row (suc b) (e ∷ es) few h xs o n k q =
      fell-map {A = Held × List Held} {B = List Held} (λ p. p.0 ∷ p.1) ((seq (place_for b e) (λ v. row_for b es)).read xs) q λ q1.
      fell-seq (place_for b e) (λ v. row_for b es) xs q1
      (λ q2. here (eqb (bits_of ind (suc b) (suc b)) 1) refl q2)
      λ a i j ea ed ep. behind a i j (faulty_row b es (le_of_suc-le-suc few) (right_entries e es h) (drop i xs) (octets_drop i xs o) n j ed) ep (eqb (bits_of ind (suc b) (suc b)) 1) refl ea
    where
      here : (x : Bool) → eqb (bits_of ind (suc b) (suc b)) 1 ≡ x → (opt (nothing (slots (item_of e))) x (item (item_of e))).read xs ≡ bad n k → ItemsFault ind (suc b) (e ∷ es) xs n k
      here true eb q2 = at_item (eqb-true (bits_of ind (suc b) (suc b)) 1 eb) (faulty_item e (right_entry_lem e es h) xs o n k q2)
      here false eb q2 = got≢bad q2

      behind : (a : Held) (i j : ℕ) → ItemsFault ind b es (drop i xs) n j → k ≡ i + j → (x : Bool) → eqb (bits_of ind (suc b) (suc b)) 1 ≡ x
          → (opt (nothing (slots (item_of e))) x (item (item_of e))).read xs ≡ got a i → ItemsFault ind (suc b) (e ∷ es) xs n k
      behind a i j f ep true eb ea =
          let r : ItemRead e xs a i = item_is_lem e (right_entry_lem e es h) xs o a i ea in
          whole (ItemsFault ind (suc b) (e ∷ es)) xs i j k r.within ep (behind_item (eqb-true (bits_of ind (suc b) (suc b)) 1 eb) r.is f)
      behind a i j f ep false eb ea =
          let i0 : 0 ≡ i = cc in
          let ek : j ≡ k = omega arith in
          no_item (not_one (bits_of ind (suc b) (suc b)) (bit_lt ind (suc b)) eb) (subst₂ (λ x y. ItemsFault ind b es (drop x xs) n y) (sym i0) ek f)

-- ---- what follows LEN: the indicator and the items

module _ (es : List Entry) (h : T (right es)) (few : length es ≤ 8) (ind : ℕ) (rest : List ℕ) (o : Octets (ind ∷ rest)) where
  ind_lt : ind < 256
  ind_lt = ltb→lt ind 256 (and_l (ltb ind 256) _ o)

  -- whether the places behind the last item are 0
  spare_tested : eqb (bits_of ind (8 - length es) 1) 0 ≡ no_spare (made es) ind
  spare_tested =
      let k : length (made es) < 9 = let l : length (made es) ≡ length es = length_items es in omega arith in
      ap (λ x. eqb x 0) (spare_is ind es) ∙ spare_bits ind (length (made es)) ind_lt k

  body_spare : (bits_of ind (8 - length es) 1 ≡ 0 → ⊥) → (body (made es)).read (ind ∷ rest) ≡ bad 4 0
  unfolding body indicator
  body_spare x = rw (number_one ind rest, sym spare_tested ∙ ne_eqb (bits_of ind (8 - length es) 1) 0 x) refl

  module _ (z : bits_of ind (8 - length es) 1 ≡ 0) where
    clear_places : no_spare (made es) ind ≡ true
    clear_places = sym spare_tested ∙ ap (λ x. eqb x 0) z

    body_items : (n k : ℕ) → ItemsFault ind 8 es rest n k → (body (made es)).read (ind ∷ rest) ≡ bad n (1 + k)
    unfolding body indicator
    body_items n k f =
        let e : (row (flags ind) (made es)).read rest ≡ bad n k = ap (λ ds. (row ds (made es)).read rest) (flags-from ind ind_lt) ∙ row_faulty ind f h (and_r (ltb ind 256) _ o) in
        rw (number_one ind rest, clear_places, e) refl

    body_left : (os us : List ℕ) (vs : List Held) → rest ≡ os ++ us → AreItems ind 8 es os vs → (body (made es)).read (ind ∷ rest) ≡ got (ind, vs) (1 + length os)
    unfolding body indicator
    body_left os us vs er a =
        let e : (row (flags ind) (made es)).read rest ≡ got vs (length os)
        = ap₂ (λ ds x. (row ds (made es)).read x) (flags-from ind ind_lt) er ∙ is_row ind a h (octets_front os us (subst Octets er (and_r (ltb ind 256) _ o))) us in
        rw (number_one ind rest, clear_places, e) refl

  -- what a refusal behind LEN tells
  body-fell {ℓ} : {X : Type ℓ} (n k : ℕ) → (body (made es)).read (ind ∷ rest) ≡ bad n k → ((bits_of ind (8 - length es) 1 ≡ 0 → ⊥) → n ≡ 4 → k ≡ 0 → X)
      → ((j : ℕ) → bits_of ind (8 - length es) 1 ≡ 0 → ItemsFault ind 8 es rest n j → k ≡ 1 + j → X) → X
  unfolding body indicator
  body-fell {X = X} n k e f g = go (no_spare (made es) ind) refl
    where
      rows : no_spare (made es) ind ≡ true → (r : Res (List Held)) → (row (flags ind) (made es)).read rest ≡ r → X
      rows t (got vs j) er =
          let q : ◌≡◌ {A = Res Contents} (got (ind, vs) (1 + j)) (bad n k) = sym (rw (number_one ind rest, t, er) refl) ∙ e in got≢bad q
      rows t (bad m j) er =
          let q : bad m (1 + j) ≡ bad n k = sym (rw (number_one ind rest, t, er) refl) ∙ e in
          let em : m ≡ n = cc in
          let ek : 1 + j ≡ k = cc in
          g j (eqb-true (bits_of ind (8 - length es) 1) 0 (spare_tested ∙ t))
          (faulty_row ind 8 es few h rest (and_r (ltb ind 256) _ o) n j (ap (λ ds. (row ds (made es)).read rest) (sym (flags-from ind ind_lt)) ∙ er ∙ ap (λ x. bad x j) em)) (sym ek)

      go : (t : Bool) → no_spare (made es) ind ≡ t → X
      go true t = rows t ((row (flags ind) (made es)).read rest) refl
      go false t =
          let q : bad 4 0 ≡ bad n k = sym (rw (number_one ind rest, t) refl) ∙ e in
          let en : 4 ≡ n = cc in
          let ek : 0 ≡ k = cc in
          f (eqb-false (bits_of ind (8 - length es) 1) 0 (spare_tested ∙ t)) (sym en) (sym ek)

-- ---- the field: refused exactly by its fault

-- a field with LEN and all that it counts: what follows LEN
record Followed (len : ℕ) (t : List ℕ) (ind : ℕ) (rest : List ℕ) : Type 0 where
  least : 2 ≤ len
  enough : len ≤ suc (length t)
  follows : take (len - 1) t ≡ ind ∷ rest

followed : (len : ℕ) (t : List ℕ) (ind : ℕ) (rest : List ℕ) → Opens (len ∷ t) ind rest → Followed len t ind rest
unfolding len_of
followed len t ind rest p =
    let l : len ≡ 2 + length rest = p.long in
    let e : len ≡ suc (len - 1) = omega arith in
    let q : take len (len ∷ t) ≡ len ∷ take (len - 1) t = ap (λ k. take k (len ∷ t)) e in
    let f : take (len - 1) t ≡ ind ∷ rest = tail-eq_of_cons-eq (sym q ∙ p.octets) in
    let n : length (take (len - 1) t) ≡ suc (length rest) = ap length f in
    record { least = omega arith; enough = omega (arith, length-take (len - 1) t); follows = f }

opens : (len : ℕ) (t : List ℕ) (ind : ℕ) (rest : List ℕ) → 2 ≤ len → len ≤ suc (length t) → take (len - 1) t ≡ ind ∷ rest → Opens (len ∷ t) ind rest
unfolding len_of
opens len t ind rest a b f =
    let e : len ≡ suc (len - 1) = omega arith in
    let n : length (take (len - 1) t) ≡ suc (length rest) = ap length f in
    let m : length (take (len - 1) t) ≡ len - 1 = length-take-le (len - 1) t (omega arith) in
    record { octets = ap (λ k. take k (len ∷ t)) e ∙ ap (len ∷◌) f; long = omega arith }

-- no octets open a field
opens_none : {ind : ℕ} {rest : List ℕ} → Opens [] ind rest → ⊥
unfolding len_of
opens_none p = let l : 0 ≡ 2 + _ = p.long in omega arith

refused_same : {A : Type 0} {n p m q : ℕ} (F : ℕ → ℕ → Type 0) → ◌≡◌ {A = Outcome A} (refused n p) (refused m q) → F n p → F m q
refused_same {n = n} {p = p} {m = m} {q = q} F e f = let en : n ≡ m = cc in let ep : p ≡ q = cc in subst₂ F en ep f

accepted≢refused {ℓ} : {X : Type ℓ} {A : Type 0} {r : A} {n p : ℕ} → accepted r ≡ refused n p → X
accepted≢refused e = refused≢accepted (sym e)

-- octets behind the last item
left_over : (es : List Entry) → T (right es) → length es ≤ 8 → (len : ℕ) (t : List ℕ) → 2 ≤ len → len ≤ suc (length t) → (ind : ℕ) (rest : List ℕ) → take (len - 1) t ≡ ind ∷ rest → Octets (ind ∷ rest)
    → (r : Contents) (k : ℕ) → (body (made es)).read (ind ∷ rest) ≡ got r k → (k ≡ len - 1 → ⊥) → FieldFault es (len ∷ t) 9 (suc k)
left_over es h few len t a b ind rest f oo r k e x =
    let g : BodyRead es (ind ∷ rest) r k = body_is es h few (ind ∷ rest) oo r k e in
    let us : List ℕ = drop k (ind ∷ rest) in
    let all : r.0 ∷ (g.rest ++ us) ≡ ind ∷ rest = ap (◌++ us) (sym g.octets) ∙ take-append-drop k (ind ∷ rest) in
    let m : length (take (len - 1) t) ≡ len - 1 = length-take-le (len - 1) t (omega arith) in
    let w : k ≤ length (ind ∷ rest) = g.within in
    let l : length (take (len - 1) t) ≡ length (ind ∷ rest) = ap length f in
    let some : 1 ≤ length us = omega (arith, length-drop k (ind ∷ rest), positive (len - 1) k x) in
    let n : length (take k (ind ∷ rest)) ≡ k = length-take-le k (ind ∷ rest) w in
    let size : length (take k (ind ∷ rest)) ≡ suc (length g.rest) = ap length g.octets in
    let place : 2 + length g.rest ≡ suc k = omega arith in
    subst (FieldFault es (len ∷ t) 9) place (octets_left us (opens len t r.0 (g.rest ++ us) a b (f ∙ sym all)) g.spare g.items some)
  where
    positive : (m k : ℕ) → (k ≡ m → ⊥) → (m ≡ k → ⊥)
    positive m k x e = x (sym e)

module _ (es : List Entry) (h : T (right es)) (few : length es ≤ 8) where
  abbrev frame : List ℕ → Outcome Contents
  frame s = read_frame (body (made es)) s

  module _ (len : ℕ) (t : List ℕ) (o : Octets (len ∷ t)) (ind : ℕ) (rest : List ℕ) (p : Opens (len ∷ t) ind rest) where
    abbrev after : Followed len t ind rest
    after = followed len t ind rest p

    rest_octets : Octets (ind ∷ rest)
    rest_octets = subst Octets after.follows (octets_take (len - 1) t (and_r (ltb len 256) _ o))

    -- as the body reads what follows LEN, so does the frame
    frame-fell : {n k : ℕ} → (body (made es)).read (ind ∷ rest) ≡ bad n k → frame (len ∷ t) ≡ refused n (suc k)
    frame-fell e = frame_bad (body (made es)) len t after.least after.enough (ap (body (made es)).read after.follows ∙ e)

    frame_spare : (bits_of ind (8 - length es) 1 ≡ 0 → ⊥) → frame (len ∷ t) ≡ refused 4 1
    frame_spare x = frame-fell (body_spare es h few ind rest rest_octets x)

    frame_items : {n k : ℕ} → bits_of ind (8 - length es) 1 ≡ 0 → ItemsFault ind 8 es rest n k → frame (len ∷ t) ≡ refused n (2 + k)
    frame_items {n} {k} z f = frame-fell (body_items es h few ind rest rest_octets z n k f) ∙ ap (refused n) (omega arith)

    frame_over : (os us : List ℕ) {vs : List Held} → rest ≡ os ++ us → bits_of ind (8 - length es) 1 ≡ 0 → AreItems ind 8 es os vs → 1 ≤ length us → frame (len ∷ t) ≡ refused 9 (2 + length os)
    unfolding len_of
    frame_over os us {vs} er z a some =
        let e : (body (made es)).read (take (len - 1) t) ≡ got (ind, vs) (1 + length os)
        = ap (body (made es)).read after.follows ∙ body_left es h few ind rest rest_octets z os us vs er a in
        let n : length rest ≡ length os + length us = ap length er ∙ length-append os us in
        let l : len ≡ 2 + length rest = p.long in
        frame_left (body (made es)) len t after.least after.enough e (λ q. omega arith) ∙ ap (refused 9) (omega arith)

  pub field_faulty : {s : List ℕ} {n q : ℕ} → FieldFault es s n q → Octets s → read_frame (body (made es)) s ≡ refused n q
  unfolding read_frame
  field_faulty empty o = refl
  field_faulty (small {len = len} {t = t} k) o = frame_small (body (made es)) len t k
  field_faulty (short {len = len} {t = t} a b) o = frame_short (body (made es)) len t a b
  field_faulty (indicator_spare {s = []} p x) o = absurd (opens_none p)
  field_faulty (indicator_spare {s = len ∷ t} {rest = rest} {indicator = ind} p x) o = frame_spare len t o ind rest p x
  field_faulty (at_items {s = []} p z f) o = absurd (opens_none p)
  field_faulty (at_items {s = len ∷ t} {rest = rest} {indicator = ind} p z f) o = frame_items len t o ind rest p z f
  field_faulty (octets_left {s = []} rest p z a k) o = absurd (opens_none p)
  field_faulty (octets_left {s = len ∷ t} {os = os} {indicator = ind} rest p z a k) o = frame_over len t o ind (os ++ rest) p os rest refl z a k

  -- ---- and every refusal is one

  module _ (len : ℕ) (t : List ℕ) (o : Octets (len ∷ t)) (a : 2 ≤ len) (b : len ≤ suc (length t)) (n q : ℕ) where
    rest_faulty : (ind : ℕ) (rest : List ℕ) → take (len - 1) t ≡ ind ∷ rest → Octets (ind ∷ rest) → (r : Res Contents) → (body (made es)).read (ind ∷ rest) ≡ r
        → settle (len - 1) r ≡ refused n q → FieldFault es (len ∷ t) n q
    unfolding settle
    rest_faulty ind rest f oo (bad m k) e g =
        body-fell es h few ind rest oo m k e
        (λ x em ek. refused_same (FieldFault es (len ∷ t)) g
        (subst₂ (λ y z. FieldFault es (len ∷ t) y z) (sym em) (ap suc (sym ek)) (indicator_spare (opens len t ind rest a b f) x)))
        λ j z i ek. refused_same (FieldFault es (len ∷ t)) g
        (subst (FieldFault es (len ∷ t) m) (let w : 2 + j ≡ suc k = omega arith in w) (at_items (opens len t ind rest a b f) z i))
    rest_faulty ind rest f oo (got r k) e g = go (eqb k (len - 1)) refl g
      where
        go : (x : Bool) → eqb k (len - 1) ≡ x → pick x (accepted r) (refused 9 (suc k)) ≡ refused n q → FieldFault es (len ∷ t) n q
        go true x g1 = accepted≢refused g1
        go false x g1 = refused_same (FieldFault es (len ∷ t)) g1 (left_over es h few len t a b ind rest f oo r k e (eqb-false k (len - 1) x))

  pub faulty_field : (s : List ℕ) → Octets s → (n q : ℕ) → read_frame (body (made es)) s ≡ refused n q → FieldFault es s n q
  unfolding read_frame
  faulty_field [] o n q e = refused_same (FieldFault es []) e empty
  faulty_field (len ∷ t) o n q e = least (ltb len 2) refl e
    where
      follow : (a : 2 ≤ len) (b : len ≤ suc (length t)) (xs : List ℕ) → take (len - 1) t ≡ xs → settle (len - 1) ((body (made es)).read (take (len - 1) t)) ≡ refused n q
          → FieldFault es (len ∷ t) n q
      follow a b [] f g = let m : length (take (len - 1) t) ≡ len - 1 = length-take-le (len - 1) t (omega arith) in let z : length (take (len - 1) t) ≡ 0 = ap length f in absurd (omega arith)
      follow a b (ind ∷ rest) f g =
          rest_faulty len t o a b n q ind rest f (subst Octets f (octets_take (len - 1) t (and_r (ltb len 256) _ o))) ((body (made es)).read (ind ∷ rest)) refl
          (subst (λ x. settle (len - 1) ((body (made es)).read x) ≡ refused n q) f g)

      enough : 2 ≤ len → (x : Bool) → ltb (suc (length t)) len ≡ x → pick x (refused 2 0) (settle (len - 1) ((body (made es)).read (take (len - 1) t))) ≡ refused n q → FieldFault es (len ∷ t) n q
      enough a true x g = refused_same (FieldFault es (len ∷ t)) g (short a (ltb-true (suc (length t)) len x))
      enough a false x g = follow a (ltb-false (suc (length t)) len x) (take (len - 1) t) refl g

      least : (x : Bool) → ltb len 2 ≡ x → pick x (refused 3 0) (pick (ltb (suc (length t)) len) (refused 2 0) (settle (len - 1) ((body (made es)).read (take (len - 1) t)))) ≡ refused n q
          → FieldFault es (len ∷ t) n q
      least true x g = refused_same (FieldFault es (len ∷ t)) g (small (ltb-true len 2 x))
      least false x g = enough (ltb-false len 2 x) (ltb (suc (length t)) len) refl g

-- ---- the numbers of refusal of a field are from 2 to 9

abbrev Told : ℕ → Type 0
Told n = (5 ≤ n) × (n ≤ 8)

line_told : {s : Structure} {xs : List ℕ} {n : ℕ} → LineFault s xs n → Told n
line_told (not_whole w) = (omega arith, omega arith)
line_told (spare_set w x) = (omega arith, omega arith)
line_told (out_of_range w c x) = (omega arith, omega arith)

chain_told : {ps : List Structure} {xs : List ℕ} {n k : ℕ} → ChainFault ps xs n k → Told n
chain_told (at_part f) = line_told f
chain_told (no_further rest i f) = (omega arith, omega arith)
chain_told (behind_part i f c) = chain_told c

subfield_told : {names : List String} {bits : List ℤ} {ss : List Structure} {xs : List ℕ} {n k : ℕ} → SubfieldFault names bits ss xs n k → Told n
subfield_told (at_subfield f l) = line_told l
subfield_told (behind_subfield f l c) = subfield_told c
subfield_told (no_subfield f c) = subfield_told c

item_told : {e : Entry} {xs : List ℕ} {n k : ℕ} → ItemFault e xs n k → Told n
item_told (in_chain f) = chain_told f
item_told (in_subfields c f) = subfield_told f
item_told (in_fixed f) = line_told f

items_told : {ind b : ℕ} {es : List Entry} {xs : List ℕ} {n k : ℕ} → ItemsFault ind b es xs n k → Told n
items_told (at_item f i) = item_told i
items_told (behind_item f i c) = items_told c
items_told (no_item f c) = items_told c

pub fault_number : {es : List Entry} {s : List ℕ} {n q : ℕ} → FieldFault es s n q → (2 ≤ n) × (n ≤ 9)
fault_number empty = (omega arith, omega arith)
fault_number (small k) = (omega arith, omega arith)
fault_number (short a b) = (omega arith, omega arith)
fault_number (indicator_spare p x) = (omega arith, omega arith)
fault_number (at_items {n = n} p z f) = let t : Told n = items_told f in let lo : 5 ≤ n = t.0 in let hi : n ≤ 8 = t.1 in (omega arith, omega arith)
fault_number (octets_left rest p z a k) = (omega arith, omega arith)
