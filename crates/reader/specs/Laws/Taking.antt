-- The taking of numbers: pieces into slots, a line that is there or not, the parts of a chain, and subfields, each behind what was taken before it.
use Rattle.std.proofs.Math.Path.{◌≡◌, refl, sym, ap, ap₂, subst}
use Rattle.std.proofs.Common.{◌∙◌, eq-eqb, ne_eqb, eqb-true, lt-ltb, le-ltb, ltb→lt, eqb→eq, length-append}
use Rattle.std.specs.Prelude.{Bool, ltb, leb, ℤ, take, drop}
use Rattle.std.proofs.Math.Bool.{true, false}
use mathlib.Core.List.{List, [], ◌∷◌, ◌++◌, map}
use Prim.Native.Nat.{ℕ, zero, suc, ◌+◌, ◌-◌, ◌*◌, ◌^◌, ◌/◌, ◌%◌, ◌≤◌, ◌<◌}
use native.Mathlib.Omega.{arith}
use Rattle.std.proofs.Math.Dec.{T, eqb, leb→le}
use Rattle.std.proofs.Math.IntN.{pos}
use Rattle.std.proofs.Math.ListN.{length, get_or, replicate, length-drop, get_or-map}
use Rattle.std.proofs.Math.Seq.{sets, length-sets}
use Rattle.codec.specs.Pick.{pick}
use Rattle.codec.specs.Radix.{total, cut, join, eights}
use Rattle.codec.specs.Codec.{Res, got, bad, map_res, check, shift, opt}
use Rattle.codec.specs.Line.{Held, Piece, to_num, widths, line, fills}
use Rattle.codec.specs.Item.{slots_of, slots, nothing, chain, is_one, flagged, item}
use Rattle.codec.specs.Field.{flags}
use Rattle.codec.proofs.Laws.Tests.{and_l, and_r}
use Rattle.codec.proofs.Laws.Radix.{total-eights}
use Rattle.codec.proofs.Laws.Line.{whole_of}
use Rattle.codec.proofs.Laws.Sets.{sets_append}
use Rattle.codec.proofs.Laws.Long.{LongBy, many}
use Rattle.papers.specs.Papers.{SLOTS}
use Rattle.lengths.specs.declared.Format.{Format}
use Rattle.lengths.specs.Lines.{placed_at, line_at, first_at, count_at, kind_of, piece_of, pieces_from, narrow, format_of}
use Rattle.lengths.specs.Laws.Lines.{line_filled}
use Rattle.lengths.specs.Laws.Formats.{format_octets, format_first}
use Rattle.shapes.specs.Shapes.{item_at, lines_from, parts_ok, flags_under, item_of}
use Rattle.reader.specs.Steps.{run, line_run}
use Rattle.reader.specs.Numbers.{nums_at, num_of}
use Rattle.reader.specs.Taking.{is_got, opt_run, line_opt, LineTaken, OptTaken, Stops, ItemTaken}
use Rattle.reader.specs.Seen.{goes_on}
use Rattle.reader.specs.Slots.{Ready}
use Rattle.reader.specs.Laws.Steps.{sets_zeros, ready_after}
use Rattle.reader.specs.Laws.Lines.{numbers_are}
use Rattle.reader.specs.Items.{extend, more}
use Rattle.reader.specs.Chains.{chain_at}
use Rattle.reader.specs.Laws.Chains.{line_many, part_bad, part_then}
use Rattle.reader.specs.Laws.Items.{Begins, begins_more, begins_itself, chain-many, more_many, more_from, item_from}
use Rattle.reader.specs.Laws.Onward.{part_fx}
use Rattle.reader.specs.Laws.Parts.{line_held, fx_octet, bits, Bits, line_bits}

-- ---- pieces

pub num_none : (kind w n next : ℕ) → kind ≡ 0 → num_of kind w n next ≡ []
unfolding num_of
num_none kind w n next e = rw (eq-eqb kind 0 e) refl

pub num_some : (kind w n next : ℕ) → (kind ≡ 0 → ⊥) → num_of kind w n next ≡ to_num (kind_of kind) w (n / 2 ^ next % 2 ^ w) ∷ []
unfolding num_of
num_some kind w n next e = rw (ne_eqb kind 0 e) refl

-- what is still to be stored: left pieces of a code below bit next of n, from a slot of m on; then the slots are what they are to be
pub record Storing (l end : List ℤ) (n : ℕ) (m : List ℤ) (slot left code next : ℕ) : Type 0 where
  pub low : next ≤ 48
  pub thin : T (narrow (pieces_from left code))
  pub long : length m ≡ length l
  pub room : slot + length (nums_at (pieces_from left code) n next) ≤ length m
  pub same : sets m slot (nums_at (pieces_from left code) n next) ≡ end

-- the first of them, which is the lowest octet of the code
module _ (code left n shift : ℕ) (h : left ≡ 0 → ⊥) where
  abbrev w : ℕ
  w = code % 256 % 32

  abbrev k : ℕ
  k = code % 256 / 32

  abbrev qs : List Piece
  qs = pieces_from (left - 1) (code / 256)

  -- by whether it is spare
  one_more : (nums_at (pieces_from left code) n shift ≡ num_of k w n (shift - w) ++ nums_at qs n (shift - w)) × (T (narrow (pieces_from left code)) → ((k ≡ 0 → ⊥) → w ≤ 24) × T (narrow qs))
  unfolding pieces_from piece_of nums_at num_of narrow
  one_more = go left h (eqb k 0) refl
    where
      go : (left : ℕ) → (left ≡ 0 → ⊥) → (b : Bool) → eqb k 0 ≡ b → (nums_at (pieces_from left code) n shift ≡ num_of k w n (shift - w) ++ nums_at (pieces_from (left - 1) (code / 256)) n (shift - w))
          × (T (narrow (pieces_from left code)) → ((k ≡ 0 → ⊥) → w ≤ 24) × T (narrow (pieces_from (left - 1) (code / 256))))
      go zero h b e = absurd (h refl)
      go (suc i) h true e = let q : suc i - 1 ≡ i = omega arith in rw (e, q) (refl, λ u. (λ x. absurd (x (eqb-true k 0 e)), u))
      go (suc i) h false e = let q : suc i - 1 ≡ i = omega arith in rw (e, q) (refl, λ u. (λ _. leb→le w 24 (and_l (leb w 24) _ u), and_r (leb w 24) _ u))

  module _ {l end m : List ℤ} {slot : ℕ} (s : Storing l end n m slot left code shift) where
    nums_long : length (nums_at (pieces_from left code) n shift) ≡ length (num_of k w n (shift - w)) + length (nums_at qs n (shift - w))
    nums_long = ap length one_more.0 ∙ length-append (num_of k w n (shift - w)) (nums_at qs n (shift - w))

    -- it has a slot, if it holds a number
    pub piece_fits_lem : (k ≡ 0 → ⊥) → (w ≤ 24) × (slot < length m)
    piece_fits_lem e = ((one_more.1 s.thin).0 e, let one : length (num_of k w n (shift - w)) ≡ 1 = ap length (num_some k w n (shift - w) e) in omega (arith, one, nums_long, s.room))

    pub store_more : {next : ℕ} → next ≡ shift - w → {rest : ℕ} → rest ≡ left - 1 → {r : ℕ} {q : List ℤ} → (r ≡ length (num_of k w n next)) × (q ≡ sets m slot (num_of k w n next)) → Storing l end n q (slot + r) rest (code / 256) next
    store_more {next} en {rest} es {r} {q} p =
        let er : r ≡ length (num_of k w n (shift - w)) = p.0 ∙ ap (λ j. length (num_of k w n j)) en in
        let eq : q ≡ sets m slot (num_of k w n (shift - w)) = p.1 ∙ ap (λ j. sets m slot (num_of k w n j)) en in
        let el : length q ≡ length m = ap length eq ∙ length-sets m slot (num_of k w n (shift - w)) in
        subst (λ j. Storing l end n q (slot + r) j (code / 256) next) (sym es) (subst (Storing l end n q (slot + r) (left - 1) (code / 256)) (sym en) (record {
          low = omega (arith, s.low);
          thin = (one_more.1 s.thin).1;
          long = el ∙ s.long;
          room = omega (arith, s.room, nums_long, er, el);
          same = ap₂ (λ x j. sets x (slot + j) (nums_at qs n (shift - w))) eq er ∙ sym (sets_append m slot (num_of k w n (shift - w)) (nums_at qs n (shift - w))) ∙ ap (sets m slot) (sym one_more.0) ∙ s.same;
        }))

-- ---- a line, by its format

pub line_taken : (xs : List ℕ) (at b base : ℕ) (l : List ℤ) {r : Format} (er : r ≡ format_of (placed_at b)) → (line_at b).octets ≤ length xs - at → {n : ℕ} → (n ≡ join (eights r.octets) (take r.octets (drop at xs))) × (n < 2 ^ (8 * r.octets))
    → {m : List ℤ} → m ≡ sets l (base + r.first) (nums_at (pieces_from r.runs r.pieces) n (8 * r.octets)) → LineTaken l (base + first_at b) (line_run b xs at) (at + (line_at b).octets) (at + r.octets) m
line_taken xs at b base l {r} er h {n} en {m} em = record {
  long = ap length em ∙ length-sets l (base + r.first) (nums_at (pieces_from r.runs r.pieces) n (8 * r.octets));
  at_next = ap (at +◌) (format_octets b er);
  kept = λ v e ex.
      let g : r.octets ≤ length xs - at = omega (arith, h, format_octets b er) in
      em ∙ ap₂ (λ j zs. sets l (base + j) zs) (format_first b er) (numbers_are xs at b er g en.0 en.1 ∙ sym (ap (λ (w : Held). w.1) (line_held b xs at ex).holds));
}

-- ---- what was taken of a reading that has c parts, up to place a

pub record TakenTo (l : List ℤ) (slot : ℕ) (x : Res Held) (c a : ℕ) (m : List ℤ) : Type 0 where
  pub item : ItemTaken l slot x c m
  pub place : (v : Held) (n : ℕ) → x ≡ got v n → n ≡ a

made : {l : List ℤ} {slot : ℕ} {x : Res Held} {c : ℕ} {m : List ℤ} → length m ≡ length l → (Ready l slot → (v : Held) (n : ℕ) → x ≡ got v n → m ≡ sets l slot v.1) → ((v : Held) (n : ℕ) → x ≡ got v n → c ≡ v.0) → ItemTaken l slot x c m
made p q r = record { taken = record { long = p; kept = q }; parts = r }

-- nothing is there, and the slots are zeros as they were
absent : (l : List ℤ) (slot k : ℕ) {x : Res Held} {a : ℕ} → x ≡ got (0, replicate k (pos 0)) a → {m : List ℤ} → length m ≡ length l → (Ready l slot → m ≡ l) → TakenTo l slot x 0 a m
absent l slot k {x} {a} e {m} long same = record {
  item = made long (λ ready v n ex. same ready ∙ sym (sets_zeros k l slot ready.zeros) ∙ ap (λ (w : Held). sets l slot w.1) (is v n ex)) (λ v n ex. ap (λ (w : Held). w.0) (is v n ex));
  place = λ v n ex. cc;
}
  where
    is : (v : Held) (n : ℕ) → x ≡ got v n → ◌≡◌ {A = Held} (0, replicate k (pos 0)) v
    is v n ex = cc

-- the numbers u behind the numbers v: q are the slots after both
behind_both : {l m q : List ℤ} {slot next : ℕ} (v u : List ℤ) {w : List ℤ} → Ready l slot → m ≡ sets l slot v → next ≡ slot + length v → (Ready m next → q ≡ sets m next u) → w ≡ v ++ u → q ≡ sets l slot w
behind_both {l} {slot = slot} v u ready em es k ew = k (ready_after ready v em es) ∙ ap₂ (λ i j. sets i j u) em es ∙ sym (sets_append l slot v u) ∙ ap (sets l slot) (sym ew)

-- ---- a line that is there or not

module _ (l : List ℤ) (h : length l ≡ SLOTS) (slot b : ℕ) (xs : List ℕ) (a : ℕ) {t : Bool} where
  pub opt_there : t ≡ true → {r : ℕ} {m : List ℤ} → LineTaken l slot (line_run b xs a) (a + (line_at b).octets) r m → OptTaken l slot b t xs a r m
  unfolding line_opt line_run
  opt_there e {r} {m} k = subst (λ u. OptTaken l slot b u xs a r m) (sym e) (record { taken = record { long = k.long; kept = λ _. k.kept }; sized = k.long ∙ h; at_next = k.at_next })

  pub opt_absent : t ≡ false → OptTaken l slot b t xs a a l
  unfolding line_opt
  opt_absent e = subst (λ u. OptTaken l slot b u xs a a l) (sym e) (record { taken = (absent l slot (count_at b) refl refl (λ _. refl)).item.taken; sized = h; at_next = omega arith })

pub opt_as : {l : List ℤ} {slot b : ℕ} {t u : Bool} {xs : List ℕ} {a r : ℕ} {m : List ℤ} → t ≡ u → OptTaken l slot b t xs a r m → OptTaken l slot b u xs a r m
opt_as {l} {slot} {b} {xs = xs} {a} {r} {m} e o = subst (λ u. OptTaken l slot b u xs a r m) e o

-- a further part of one octet, and the place behind it
pub stops_on : (xs : List ℕ) (a : ℕ) → Stops xs a → {r k : ℕ} → k ≡ 1 → r ≡ a + pick (goes_on xs a) k 0 → Stops xs r
stops_on xs a s {r} {k} ek = go (goes_on xs a) refl
  where
    go : (t : Bool) → goes_on xs a ≡ t → r ≡ a + pick t k 0 → Stops xs r
    go true e er =
        let x : a ≡ s.end → ⊥ = λ q. absurd (let z : ◌≡◌ {A = Bool} true false = sym e ∙ ap (goes_on xs) q ∙ s.over in let y : ◌≡◌ {A = ℕ} 0 1 = cc in omega arith) in
        record { some = omega (arith, s.some); end = s.end; ahead = omega (arith, s.ahead, x, er, ek); within = s.within; over = s.over }
    go false e er = record { some = omega (arith, s.some); end = s.end; ahead = omega (arith, s.ahead, er); within = s.within; over = s.over }

-- and it is there
pub stops_room : (xs : List ℕ) (a : ℕ) → Stops xs a → {k : ℕ} → k ≡ 1 → a + pick (goes_on xs a) k 0 ≤ length xs
stops_room xs a s {k} ek = let u = stops_on xs a s {r = a + pick (goes_on xs a) k 0} ek refl in omega (arith, u.ahead, u.within)

-- ---- readings that found something

-- what was found before, where a reading goes on from it
map_back {ℓ} : {A B : Type 0} {X : Type ℓ} (f : A → B) (y : Res A) {w : B} {n : ℕ} → map_res f y ≡ got w n → ((u : A) → y ≡ got u n → w ≡ f u → X) → X
map_back f (got u k) {w} {n} e h = let ek : k ≡ n = cc in let ew : w ≡ f u = cc in h u (ap (got u) ek) ew
map_back f (bad q p) {w} {n} e h = let z : ◌≡◌ {A = ℕ} 0 1 = cc in absurd (omega arith)

got_of {ℓ} : {A : Type 0} {X : Type ℓ} (x : Res A) → T (is_got x) → ((a : A) (n : ℕ) → x ≡ got a n → X) → X
got_of (got a n) t h = h a n refl
got_of (bad e p) t h = absurd t

-- the next place of a line that is there or not, within the octets
opt_place : (b : ℕ) (t : Bool) (xs : List ℕ) (a : ℕ) {v : Held} {n : ℕ} → line_opt b t xs a ≡ got v n → n ≡ a + pick t (line_at b).octets 0
unfolding line_opt line_run
opt_place b true xs a ex = (line_held b xs a ex).next
opt_place b false xs a {v} {n} ex = cc

opt_within : (b : ℕ) (t : Bool) (xs : List ℕ) (a : ℕ) {v : Held} {n : ℕ} → line_opt b t xs a ≡ got v n → a ≤ length xs → n ≤ length xs
unfolding line_opt line_run
opt_within b true xs a ex h = let g = line_held b xs a ex in omega (arith, g.next, g.there, length-drop a xs)
opt_within b false xs a {v} {n} ex h = let en : n ≡ a + 0 = cc in omega arith

-- ---- the parts of a chain: each is there if the one before says so

abbrev pub rest_run : ℕ → ℕ → Bool → List ℕ → ℕ → Res Held
rest_run b left t xs a = run (opt (nothing (slots_of (lines_from b (suc left)))) t (chain (line_at b) (lines_from (b + 1) left))).read xs a

-- a chain of one part is its line
alone_back : (at : ℕ) (m : Res Held) {v : Held} {n : ℕ} → shift at (map_res {A = Held} {B = Held} (λ v. (1, v.1)) (check 7 (λ v. eqb v.0 0) m)) ≡ got v n → (shift at m ≡ got (0, v.1) n) × (v.0 ≡ 1)
alone_back at (bad e p) {v} {n} h = let z : ◌≡◌ {A = ℕ} 0 1 = cc in absurd (omega arith)
alone_back at (got u k) {v} {n} h = go (eqb u.0 0) refl h
  where
    go : (t : Bool) → eqb u.0 0 ≡ t → shift at (map_res {A = Held} {B = Held} (λ v. (1, v.1)) (pick t (got u k) (bad 7 0))) ≡ got v n → (got u (at + k) ≡ got (0, v.1) n) × (v.0 ≡ 1)
    go false e q = let z : ◌≡◌ {A = ℕ} 0 1 = cc in absurd (omega arith)
    go true e q =
        let ev : v ≡ (1, u.1) = cc in
        let en : at + k ≡ n = cc in
        ((λ i. got (eqb-true u.0 0 e i, ap (λ (w : Held). w.1) (sym ev) i) (en i)), ap (λ (w : Held). w.0) ev)

unmoved : {l : List ℤ} {slot b : ℕ} {xs : List ℕ} {a r : ℕ} {m : List ℤ} → OptTaken l slot b false xs a r m → Ready l slot → m ≡ l
unfolding line_opt
unmoved {l} {slot} {b} {a = a} o ready = o.taken.kept ready (0, replicate (count_at b) (pos 0)) (a + 0) refl ∙ sets_zeros (count_at b) l slot ready.zeros

-- the first part, and the others behind it
after_part : (b left : ℕ) (xs : List ℕ) (a : ℕ) → (line_at b).fx ≡ 1 → {r : ℕ} → r ≡ a + (line_at b).octets → {v : Held} {n : ℕ} → rest_run b (suc left) true xs a ≡ got v n → {X : Type 0}
    → ((u w : Held) → line_run b xs a ≡ got u r → rest_run (b + 1) left (goes_on xs r) xs r ≡ got w n → v ≡ (suc w.0, u.1 ++ w.1) → X) → X
after_part b left xs a f {r} er {v} {n} ex {X} h = go (line_run b xs a) refl
  where
    go : (y : Res Held) → line_run b xs a ≡ y → X
    go (bad e p) ey = let z : ◌≡◌ {A = ℕ} 0 1 = (let q : bad e p ≡ got v n = sym (part_bad b xs a (suc left) ey) ∙ ex in cc) in absurd (omega arith)
    go (got u k) ey =
        let ek : k ≡ r = (line_held b xs a ey).next ∙ sym er in
        let fx : eqb u.0 1 ≡ goes_on xs r = ap (λ i. eqb i 1) (fx_octet b xs a f {v = u.1} ey) ∙ ap (goes_on xs) ek in
        map_back (λ (w : Held). (suc w.0, u.1 ++ w.1)) (rest_run (b + 1) left (goes_on xs r) xs r)
        (ap₂ (λ s j. map_res {A = Held} (λ w. (suc w.0, u.1 ++ w.1)) (rest_run (b + 1) left s xs j)) (sym fx) (sym ek) ∙ sym (part_then b xs a left ey) ∙ ex)
        (λ w ew ev. h u w (ey ∙ ap (got u) ek) ew ev)

module _ {l : List ℤ} {slot b : ℕ} {t : Bool} {xs : List ℕ} {a r : ℕ} {m : List ℤ} (o : OptTaken l slot b t xs a r m) where
  -- the last part that a chain can have
  pub chain_last : TakenTo l slot (rest_run b 0 t xs a) (pick t 1 0) r m
  unfolding chain lines_from line_opt line_run
  chain_last = go t o
    where
      go : (t : Bool) → OptTaken l slot b t xs a r m → TakenTo l slot (rest_run b 0 t xs a) (pick t 1 0) r m
      go true o = record {
        item = made o.taken.long (λ ready v n ex. o.taken.kept ready (0, v.1) n (alone_back a ((line (line_at b)).read (drop a xs)) ex).0) (λ v n ex. sym (alone_back a ((line (line_at b)).read (drop a xs)) ex).1);
        place = λ v n ex. opt_place b true xs a (alone_back a ((line (line_at b)).read (drop a xs)) ex).0 ∙ sym o.at_next;
      }
      go false o = subst (λ i. TakenTo l slot (rest_run b 0 false xs a) 0 i m) (sym o.at_next) (absent l slot (slots_of (lines_from b 1)) refl o.taken.long (unmoved o))

  -- the part before the others: r is where they begin
  module _ (left : ℕ) (f : (line_at b).fx ≡ 1) {next : ℕ} (en : next ≡ slot + count_at b) where
    pub chain_on : (t ≡ false → goes_on xs a ≡ false) → {c e : ℕ} {q : List ℤ} → TakenTo m next (rest_run (b + 1) left (goes_on xs r) xs r) c e q → TakenTo l slot (rest_run b (suc left) t xs a) (pick t 1 0 + c) e q
    unfolding line_opt line_run
    chain_on g {c} {e} {q} w = go t g o
      where
        go : (t : Bool) → (t ≡ false → goes_on xs a ≡ false) → OptTaken l slot b t xs a r m → TakenTo l slot (rest_run b (suc left) t xs a) (pick t 1 0 + c) e q
        go true g o = record {
          item = made (w.item.taken.long ∙ o.taken.long)
              (λ ready v n ex. after_part b left xs a f o.at_next ex λ u x eu ew ev.
              behind_both u.1 x.1 ready (o.taken.kept ready u r eu) (en ∙ ap (slot +◌) (sym (line_many b xs a {c = u.0} {v = u.1} eu))) (λ rm. w.item.taken.kept rm x n ew) (ap (λ (z : Held). z.1) ev))
              (λ v n ex. after_part b left xs a f o.at_next ex λ u x eu ew ev. let z = ap (λ (y : Held). y.0) ev in omega (arith, w.item.parts x n ew, z));
          place = λ v n ex. after_part b left xs a f o.at_next ex λ u x eu ew ev. w.place x n ew;
        }
        go false g o =
            let er : r ≡ a + 0 = o.at_next in
            let k : ℕ = slots_of (lines_from (b + 1) (suc left)) in
            let ew : rest_run (b + 1) left (goes_on xs r) xs r ≡ got (0, replicate k (pos 0)) (a + 0)
            = ap₂ (λ s j. rest_run (b + 1) left s xs j) (ap (goes_on xs) er ∙ ap (goes_on xs) (omega arith) ∙ g refl) er ∙ ap (got (0, replicate k (pos 0))) (omega arith) in
            let ec : 0 + c ≡ 0 = omega (arith, w.item.parts (0, replicate k (pos 0)) (a + 0) ew) in
            subst (λ i. TakenTo l slot (rest_run b (suc left) false xs a) i e q) (sym ec) (subst (λ i. TakenTo l slot (rest_run b (suc left) false xs a) 0 i q) (w.place _ _ ew)
            (absent l slot (slots_of (lines_from b (suc (suc left)))) refl (w.item.taken.long ∙ o.taken.long) λ ready.
            let em : m ≡ l = unmoved o ready in
            let rm : Ready m next = record { len = ap length em ∙ ready.len; zeros = λ j h. ap (λ x. get_or x j (pos 0)) em ∙ ready.zeros j (omega (arith, en, h)) } in
            w.item.taken.kept rm _ _ ew ∙ sets_zeros k m next rm.zeros ∙ em))

-- the first part is always there
pub first_on : (b : ℕ) (xs : List ℕ) (at : ℕ) {l : List ℤ} (h : length l ≡ SLOTS) {slot r : ℕ} {m : List ℤ} → LineTaken l slot (line_run b xs at) (at + (line_at b).octets) r m
    → (left : ℕ) → (line_at b).fx ≡ 1 → {next : ℕ} → next ≡ slot + count_at b → {c e : ℕ} {q : List ℤ} → TakenTo m next (rest_run (b + 1) left (goes_on xs r) xs r) c e q → TakenTo l slot (chain_at b xs at (suc left)) (1 + c) e q
first_on b xs at {l} h {slot} k left f en w = chain_on (opt_there l h slot b xs at {t = true} refl k) left f en (λ e. let z : ◌≡◌ {A = ℕ} 0 1 = cc in absurd (omega arith)) w

-- so many parts that the octet of their count holds them
pub few : (t : Bool) → pick t 1 0 ≤ 1
few true = omega arith
few false = omega arith

-- ---- subfields: ts are the bits of the chain's parts, the flags among them

-- what was read up to place a begins with them
pub record Reached (ts xs : List ℕ) (x : Res Held) (a : ℕ) : Type 0 where
  pub place : (v : Held) (n : ℕ) → x ≡ got v n → n ≡ a
  pub leads : (v : Held) (n : ℕ) → x ≡ got v n → Begins xs (map pos ts) v.1

abbrev pub flag_in : List ℕ → ℕ → Bool
flag_in ts b = eqb (get_or ts (line_at b).flag 0) 1

-- the octets of n subfields from line b on
unfoldable pub span_from : List ℕ → ℕ → ℕ → ℕ
span_from ts b zero = 0
span_from ts b (suc n) = pick (flag_in ts b) (line_at b).octets 0 + span_from ts (b + 1) n

module _ (ts xs : List ℕ) (b : ℕ) (f : (line_at b).flag < length (map pos ts)) {x : Res Held} {a : ℕ} (s : Reached ts xs x a) where
  -- a subfield is read behind what was read before
  more-back {ℓ} : {X : Type ℓ} {w : Held} {n : ℕ} → more (line_at b) xs x ≡ got w n → ((v u : Held) → x ≡ got v a → line_opt b (flag_in ts b) xs a ≡ got u n → w ≡ (v.0, v.1 ++ u.1) → X) → X
  unfolding more line_opt is_one Begins
  more-back {X = X} {w} {n} ex h = go x refl ex
    where
      go : (y : Res Held) → x ≡ y → more (line_at b) xs y ≡ got w n → X
      go (bad e p) ey q = let z : ◌≡◌ {A = ℕ} 0 1 = cc in absurd (omega arith)
      go (got v k) ey q =
          let ek : k ≡ a = s.place v k ey in
          let et : flag_in ts b ≡ flagged v.1 (line_at b) = ap is_one (sym ((s.leads v k ey).1 (line_at b).flag f ∙ get_or-map pos ts (line_at b).flag 0)) in
          map_back (λ (u : Held). (v.0, v.1 ++ u.1)) (line_opt b (flag_in ts b) xs a)
          (ap₂ (λ t j. extend v (line_opt b t xs j)) et (sym ek) ∙ q) (λ u eu ew. h v u (ey ∙ ap (got v) ek) eu ew)

  reached_on : Reached ts xs (more (line_at b) xs x) (a + pick (flag_in ts b) (line_at b).octets 0)
  reached_on = record {
    place = λ w n ex. more-back ex λ v u ev eu ew. opt_place b (flag_in ts b) xs a eu;
    leads = λ w n ex. more-back ex λ v u ev eu ew. subst (Begins xs (map pos ts)) (ap (λ (z : Held). z.1) (sym ew)) (begins_more xs (map pos ts) v.1 u.1 (s.leads v a ev));
  }

-- so an item that was found is all there
more_from_bad : (b n : ℕ) (xs : List ℕ) (x : Res Held) → T (is_got (more_from b n xs x)) → T (is_got x)
unfolding more_from more
more_from_bad b zero xs x t = t
more_from_bad b (suc n) xs (got v k) t = tt
more_from_bad b (suc n) xs (bad e p) t = more_from_bad (b + 1) n xs (bad e p) t

room : (ts xs : List ℕ) (b n : ℕ) (x : Res Held) {a : ℕ} → T (flags_under (length (map pos ts)) (lines_from b n)) → Reached ts xs x a → a ≤ length xs → T (is_got (more_from b n xs x)) → a + span_from ts b n ≤ length xs
unfolding span_from more_from flags_under lines_from
room ts xs b zero x {a} f s h t = omega arith
room ts xs b (suc n) x {a} f s h t =
    let k : ℕ = length (map pos ts) in
    let g : (line_at b).flag < k = ltb→lt (line_at b).flag k (and_l (ltb (line_at b).flag k) _ f) in
    let a' : ℕ = a + pick (flag_in ts b) (line_at b).octets 0 in
    let h' : a' ≤ length xs = got_of (more (line_at b) xs x) (more_from_bad (b + 1) n xs (more (line_at b) xs x) t) λ w i ew. more-back ts xs b g s ew λ v u ev eu e.
    subst (◌≤ length xs) (opt_place b (flag_in ts b) xs a eu) (opt_within b (flag_in ts b) xs a eu h) in
    omega (arith, room ts xs (b + 1) n (more (line_at b) xs x) {a = a'} (and_r (ltb (line_at b).flag k) _ f) (reached_on ts xs b g s) h' t)

-- what was taken up to a subfield, in k slots
pub record SoFar (ts xs : List ℕ) (l : List ℤ) (base : ℕ) (x : Res Held) (k c a : ℕ) (m : List ℤ) : Type 0 where
  pub item : ItemTaken l base x c m
  pub reached : Reached ts xs x a
  pub count_is : LongBy many k x

pub sub_on : {ts xs : List ℕ} {l : List ℤ} {base : ℕ} {x : Res Held} {c a : ℕ} {m : List ℤ} (b : ℕ) → (line_at b).flag < length (map pos ts) → SoFar ts xs l base x (first_at b) c a m
    → {r : ℕ} {q : List ℤ} → OptTaken m (base + first_at b) b (flag_in ts b) xs a r q → SoFar ts xs l base (more (line_at b) xs x) (first_at b + count_at b) c r q
sub_on {ts} {xs} {l} {base} {x} {c} {a} {m} b f s {r} {q} o = record {
  item = made (o.taken.long ∙ s.item.taken.long)
      (λ ready w n ex. more-back ts xs b f s.reached ex λ v u ev eu ew.
      behind_both v.1 u.1 ready (s.item.taken.kept ready v a ev) (ap (base +◌) (sym (subst (LongBy many (first_at b)) ev s.count_is))) (λ rm. o.taken.kept rm u n eu) (ap (λ (z : Held). z.1) ew))
      (λ w n ex. more-back ts xs b f s.reached ex λ v u ev eu ew. s.item.parts v a ev ∙ ap (λ (z : Held). z.0) (sym ew));
  reached = subst (Reached ts xs (more (line_at b) xs x)) (sym o.at_next) (reached_on ts xs b f s.reached);
  count_is = more_many (line_at b) xs (first_at b) x s.count_is;
}

-- before the first subfield: the chain was taken, and its numbers are ts
begun : (b left : ℕ) (ts xs : List ℕ) (at : ℕ) {l : List ℤ} {base c a : ℕ} {m : List ℤ} → TakenTo l base (chain_at b xs at left) c a m → ((v : Held) (n : ℕ) → chain_at b xs at left ≡ got v n → v.1 ≡ map pos ts)
    → SoFar ts xs l base (chain_at b xs at left) (slots_of (lines_from b (suc left))) c a m
unfolding lines_from
begun b left ts xs at w h = record {
  item = w.item;
  reached = record { place = w.place; leads = λ v n ex. subst (Begins xs (map pos ts)) (sym (h v n ex)) (begins_itself xs (map pos ts)) };
  count_is = chain-many (line_at b) (lines_from (b + 1) left) xs at;
}

-- ---- the bits of a part, as flags

bits_are : (j o : ℕ) → bits j o ≡ map pos (take j (take 7 (flags o)))
unfolding cut total
bits_are j o = ap (λ ds. map pos (take j ds)) (ap₂ ◌∷◌ (omega arith) (ap₂ ◌∷◌ (omega arith) (ap₂ ◌∷◌ (omega arith) (ap₂ ◌∷◌ (omega arith) (ap₂ ◌∷◌ (omega arith) (ap₂ ◌∷◌ (omega arith) (ap₂ ◌∷◌ (omega arith) refl)))))))

-- ---- a chain that was found is all there, and its last part does not go on

part_some : (b : ℕ) → (line_at b).fx ≡ 1 → 1 ≤ (line_at b).octets
unfolding fills
part_some b f = omega (arith, f, total-eights (line_at b).octets, eqb→eq (total (eights (line_at b).octets)) (total (widths (line_at b).pieces) + (line_at b).fx) (line_filled b))

chain_over : (b left : ℕ) (xs : List ℕ) (a : ℕ) → T (parts_ok b left) → {v : Held} {n : ℕ} → chain_at b xs a left ≡ got v n → (a + (line_at b).octets ≤ n) × (n ≤ length xs) × (goes_on xs n ≡ false)
unfolding chain lines_from line_run parts_ok
chain_over b zero xs a k {v} ex =
    let f = part_fx b 0 k in
    let e = (alone_back a ((line (line_at b)).read (drop a xs)) ex).0 in
    let p = line_held b xs a e in
    (omega (arith, p.next), omega (arith, p.next, p.there, part_some b f, length-drop a xs), ap (λ i. eqb i 1) (sym (fx_octet b xs a f {v = v.1} e)))
chain_over b (suc left) xs a k {n = n} ex =
    let r : ℕ = a + (line_at b).octets in
    after_part b left xs a (part_fx b (suc left) k) {r = r} refl ex λ u w eu ew ev.
    go (goes_on xs r) refl u w eu ew λ e. chain_over (b + 1) left xs r (and_r (eqb (first_at (b + 1)) (first_at b + count_at b)) _ (and_r (eqb (line_at b).fx 1) _ k)) e
  where
    go : (t : Bool) → goes_on xs (a + (line_at b).octets) ≡ t → (u w : Held) → line_run b xs a ≡ got u (a + (line_at b).octets) → rest_run (b + 1) left t xs (a + (line_at b).octets) ≡ got w n
        → (rest_run (b + 1) left true xs (a + (line_at b).octets) ≡ got w n → (a + (line_at b).octets + (line_at (b + 1)).octets ≤ n) × (n ≤ length xs) × (goes_on xs n ≡ false))
        → (a + (line_at b).octets ≤ n) × (n ≤ length xs) × (goes_on xs n ≡ false)
    go true et u w eu ew ih = let o = ih ew in (omega (arith, o.0), o.1, o.2)
    go false et u w eu ew ih =
        let en : n ≡ a + (line_at b).octets + 0 = cc in
        let p = line_held b xs a eu in
        (omega arith, omega (arith, p.there, part_some b (part_fx b (suc left) k), length-drop a xs), ap (goes_on xs) (omega arith) ∙ et)

-- ---- an item: the chain of left further parts behind line b, and n subfields

pub record Compound (K b left n : ℕ) : Type 0 where
  pub shape : item_at K ≡ item_of b left n
  pub start : first_at b ≡ 0
  pub parts : T (parts_ok b left)
  pub under : T (flags_under (slots_of (lines_from b (suc left))) (lines_from (b + 1 + left) n))

module _ {K b left n : ℕ} (d : Compound K b left n) (xs : List ℕ) (at : ℕ) {there : Bool} (et : there ≡ true) where
  item_is_lem : more_from (b + 1 + left) n xs (chain_at b xs at left) ≡ opt_run K there xs at
  unfolding opt_run
  item_is_lem = sym (item_from b left n xs at d.under) ∙ ap (λ it. run (item it).read xs at) (sym d.shape) ∙ rw et refl

  pub item_ends : {l : List ℤ} {base : ℕ} {m : List ℤ} {c r : ℕ} → ItemTaken l base (more_from (b + 1 + left) n xs (chain_at b xs at left)) c m → r ≡ c → ItemTaken l base (opt_run K there xs at) r m
  item_ends {l} {base} {m} {c} {r} s e = subst (λ j. ItemTaken l base (opt_run K there xs at) j m) (sym e) (subst (λ x. ItemTaken l base x c m) item_is_lem s)

  pub at_base : {l : List ℤ} {base c a : ℕ} {m : List ℤ} → TakenTo l (base + first_at b) (chain_at b xs at left) c a m → TakenTo l base (chain_at b xs at left) c a m
  at_base {l} {base} {c} {a} {m} w = let z : base + first_at b ≡ base = omega (arith, d.start) in subst (λ i. TakenTo l i (chain_at b xs at left) c a m) z w

  module _ (t : T (is_got (opt_run K there xs at))) where
    ahead : Stops xs (at + (line_at b).octets)
    ahead = got_of (chain_at b xs at left) (more_from_bad (b + 1 + left) n xs (chain_at b xs at left) (subst (λ x. T (is_got x)) (sym item_is_lem) t)) λ v e ex.
        let o = chain_over b left xs at d.parts ex in
        record { some = omega (arith, part_some b (part_fx b left d.parts)); end = e; ahead = o.0; within = o.1; over = o.2 }

    pub part_there : at + (line_at b).octets ≤ length xs
    part_there = omega (arith, ahead.ahead, ahead.within)

    pub chain_ahead : {r : ℕ} → r ≡ at + (line_at b).octets → Stops xs r
    chain_ahead e = subst (Stops xs) (sym e) ahead

    -- its subfields, behind the chain, whose numbers are ts
    item_room : {ts : List ℕ} {e : ℕ} → Reached ts xs (chain_at b xs at left) e → e ≤ length xs → T (flags_under (length (map pos ts)) (lines_from (b + 1 + left) n)) → e + span_from ts (b + 1 + left) n ≤ length xs
    item_room {ts} {e} s h f = room ts xs (b + 1 + left) n (chain_at b xs at left) f s h (subst (λ x. T (is_got x)) (sym item_is_lem) t)

-- behind a chain of one part of j flags
pub record Flagged (K b j n : ℕ) : Type 0 where
  pub item : Compound K b 0 n
  pub part_bits : Bits b j

abbrev pub flags_of : ℕ → List ℕ → ℕ → List ℕ
flags_of j xs at = take j (take 7 (flags (get_or xs at 0)))

module _ {K b j n : ℕ} (d : Flagged K b j n) (xs : List ℕ) (at : ℕ) {there : Bool} (et : there ≡ true) {l : List ℤ} (h : length l ≡ SLOTS) (base : ℕ) {r : ℕ} {m : List ℤ}
    (k : LineTaken l (base + first_at b) (line_run b xs at) (at + (line_at b).octets) r m) where
  leads : (v : Held) (n : ℕ) → chain_at b xs at 0 ≡ got v n → v.1 ≡ map pos (flags_of j xs at)
  unfolding chain lines_from line_run
  leads v n ex = line_bits b j d.part_bits xs at {w = (0, v.1)} (alone_back at ((line (line_at b)).read (drop at xs)) ex).0 ∙ bits_are j (get_or xs at 0)

  pub one_begun : SoFar (flags_of j xs at) xs l base (chain_at b xs at 0) (slots_of (lines_from b 1)) 1 r m
  one_begun = begun b 0 (flags_of j xs at) xs at (at_base d.item xs at et (chain_last (opt_there l h (base + first_at b) b xs at refl k))) leads

  pub one_room : T (is_got (opt_run K there xs at)) → T (flags_under (length (map pos (flags_of j xs at))) (lines_from (b + 1 + 0) n)) → r + span_from (flags_of j xs at) (b + 1 + 0) n ≤ length xs
  one_room t f = item_room d.item xs at et t one_begun.reached (subst (◌≤ length xs) (sym k.at_next) (part_there d.item xs at et t)) f

-- behind a chain of seven flags and one more, whose octet is there if the first part goes on
abbrev pub second_of : List ℕ → ℕ → ℕ
second_of xs a = pick (goes_on xs a) (get_or xs a 0) 0

pub second_is : (xs : List ℕ) (a : ℕ) {r k q : ℕ} → k ≡ 1 → r ≡ a + pick (goes_on xs a) k 0 → q ≡ pick (ltb a r) (get_or xs a 0) 0 → q ≡ second_of xs a
second_is xs a {r} {k} {q} e = go (goes_on xs a)
  where
    go : (t : Bool) → r ≡ a + pick t k 0 → q ≡ pick (ltb a r) (get_or xs a 0) 0 → q ≡ pick t (get_or xs a 0) 0
    go true er eq = eq ∙ ap (λ u. pick u (get_or xs a 0) 0) (lt-ltb a r (omega arith))
    go false er eq = eq ∙ ap (λ u. pick u (get_or xs a 0) 0) (le-ltb a r (omega arith))

abbrev pub two_flags : List ℕ → ℕ → ℕ → List ℕ
two_flags xs at q = take 7 (flags (get_or xs at 0)) ++ take 1 (flags q)

pub record Twice (K b n : ℕ) : Type 0 where
  pub item : Compound K b 1 n
  pub first_bits : Bits b 7
  pub second_bits : Bits (b + 1) 1
  pub one : slots_of (lines_from (b + 1) 1) ≡ 1
  pub next : first_at (b + 1) ≡ first_at b + count_at b

module _ {K b n : ℕ} (d : Twice K b n) (xs : List ℕ) (at : ℕ) {there : Bool} (et : there ≡ true) {l : List ℤ} (h : length l ≡ SLOTS) (base : ℕ) {r : ℕ} {m : List ℤ}
    (k : LineTaken l (base + first_at b) (line_run b xs at) (at + (line_at b).octets) r m) {e : ℕ} {q : List ℤ} (o : OptTaken m (base + first_at (b + 1)) (b + 1) (goes_on xs r) xs r e q) where
  both_lead : (v : Held) (n : ℕ) → chain_at b xs at 1 ≡ got v n → v.1 ≡ map pos (two_flags xs at (second_of xs r))
  unfolding cut chain lines_from line_run
  both_lead v n ex = after_part b 0 xs at (part_fx b 1 d.item.parts) k.at_next ex λ u w eu ew ev.
      ap (λ (z : Held). z.1) ev ∙ ap₂ ◌++◌ (line_bits b 7 d.first_bits xs at eu ∙ bits_are 7 (get_or xs at 0)) (by (goes_on xs r) w ew)
    where
      by : (t : Bool) (w : Held) → rest_run (b + 1) 0 t xs r ≡ got w n → w.1 ≡ map pos (take 1 (flags (pick t (get_or xs r 0) 0)))
      by true w ew = line_bits (b + 1) 1 d.second_bits xs r {w = (0, w.1)} (alone_back r ((line (line_at (b + 1))).read (drop r xs)) ew).0 ∙ bits_are 1 (get_or xs r 0)
      by false w ew = let e : w ≡ (0, replicate (slots_of (lines_from (b + 1) 1)) (pos 0)) = cc in ap (λ (z : Held). z.1) e ∙ ap (λ j. replicate j (pos 0)) d.one

  pub two_begun : SoFar (two_flags xs at (second_of xs r)) xs l base (chain_at b xs at 1) (slots_of (lines_from b 2)) (1 + pick (goes_on xs r) 1 0) e q
  two_begun = begun b 1 (two_flags xs at (second_of xs r)) xs at (at_base d.item xs at et (first_on b xs at h k 0 (part_fx b 1 d.item.parts) (omega (arith, d.next)) (chain_last o))) both_lead

  pub two_room : T (is_got (opt_run K there xs at)) → Stops xs e → T (flags_under (length (map pos (two_flags xs at (second_of xs r)))) (lines_from (b + 1 + 1) n)) → e + span_from (two_flags xs at (second_of xs r)) (b + 1 + 1) n ≤ length xs
  two_room t s f = item_room d.item xs at et t two_begun.reached (omega (arith, s.ahead, s.within)) f

-- an item that is not there
pub item_absent : (K : ℕ) (xs : List ℕ) (at : ℕ) {there : Bool} → there ≡ false → (l : List ℤ) (base : ℕ) → ItemTaken l base (opt_run K there xs at) 0 l
unfolding opt_run
item_absent K xs at {there} e l base = (absent l base (slots (item_at K)) {x = opt_run K there xs at} {a = at + 0} (rw e refl) refl (λ _. refl)).item

-- ---- an item that is one line

module _ (b : ℕ) (xs : List ℕ) (at : ℕ) {there : Bool} where
  pub line_within : there ≡ true → T (is_got (line_opt b there xs at)) → (line_at b).octets ≤ length xs - at
  unfolding line_opt line_run
  line_within e t = got_of (line_run b xs at) (subst (λ u. T (is_got (line_opt b u xs at))) e t) λ v n ex. omega (arith, (line_held b xs at ex).there, length-drop at xs)

  pub line_item : there ≡ true → (line_at b).fx ≡ 0 → {l : List ℤ} {base slot r : ℕ} {m : List ℤ} → slot ≡ base → LineTaken l slot (line_run b xs at) (at + (line_at b).octets) r m → ItemTaken l base (line_opt b there xs at) 0 m
  unfolding line_opt line_run
  line_item e f {l} {base} {slot} {r} {m} es k = subst (λ u. ItemTaken l base (line_opt b u xs at) 0 m) (sym e) (record {
    taken = record { long = k.long; kept = λ _ v n ex. k.kept v n ex ∙ ap (λ j. sets l j v.1) es };
    parts = λ v n ex. let z : v.0 ≡ whole_of (line_at b) (drop at xs) % 2 ^ 0 = ap (λ (w : Held). w.0) (line_held b xs at ex).holds ∙ ap (λ j. whole_of (line_at b) (drop at xs) % 2 ^ j) f in omega arith;
  })

  pub line_absent : there ≡ false → (l : List ℤ) (base : ℕ) → ItemTaken l base (line_opt b there xs at) 0 l
  unfolding line_opt
  line_absent e l base = (absent l base (count_at b) {x = line_opt b there xs at} {a = at + 0} (rw e refl) refl (λ _. refl)).item
