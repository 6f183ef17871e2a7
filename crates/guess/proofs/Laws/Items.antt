-- An item: the line of its parts, then the lines of its parts or of its subfields.
use Rattle.std.specs.Prelude.{◌≡◌, refl, Bool, true, false, ◌&&◌, T, eqb, ltb, ℤ, length, take, drop}
use Rattle.std.proofs.Common.{sym, ap, ap₂, ◌∙◌, le_of_eq, arith, eqb→eq, length-append, take-append-drop, drop_of_length-le, length-drop, take_all, take_at, drop_at, drop-drop}
use Rattle.std.proofs.Math.Path.{subst}
use mathlib.Core.List.{List, [], ◌∷◌, ◌++◌, append-nil}
use Prim.Native.Nat.{ℕ, suc, ◌-◌, ◌^◌, ◌≤◌, ◌<◌}
use Rattle.std.proofs.Math.Dec.{ltb→lt}
use Rattle.codec.specs.Pick.{pick}
use Rattle.codec.specs.Line.{Line, Held, count, line as lineCodec}
use Rattle.codec.specs.Item.{Item, chained, single, slots_of, lines_of, zeros, beside, chain, subfields, item, good_lines, good_item}
use Rattle.codec.proofs.Laws.Tests.{and_in, and_l, and_r, holds}
use Rattle.codec.proofs.Laws.Item.{beside_first, beside-second, chain_length}
use Rattle.papers.specs.Names.{text, Key, hidden, shown, angle, pressure, Named}
use Rattle.scope.specs.Sheet.{key_line, decimal, number_text, numbers_text, parts_there, subfields_there, lines_there, lines_text, chain_text, item_text}
use Rattle.guess.specs.Lines.{behind_feed, behind_feeds}
use Rattle.guess.proofs.Laws.Fits.{without, whole, whole_append, Fits, by_lines, fits_nil, fits_open, fits_split, fits_join, fits_then}
use Rattle.guess.specs.Guess.{bounded_in, taken_lines, left_lines, begins, open_in, bits, count_in, behind_count, there_in, keys_in, item_numbers, item_in, item_left}
use Rattle.guess.proofs.Laws.Numbers.{line_whole, line_has, line_until, line_feeds, value_is, bounded_back, bounded_in_lem, decimal-clean, key_begins}
use Rattle.guess.proofs.Laws.Groups.{lines_ok, listed_lines, lines_whole, keep_lines, lines_ok_lem, starts_any, starts_right, heads_of, Begins, lines_begin, allowed, heads_apart, keep_groups, open_allowed, open_length, listed_length}
use Rattle.guess.proofs.Laws.Okay.{lines_length, chain_lines, lines_chain, subfields_lines, lines_subfields, single_lines, lines_single}
use Rattle.guess.proofs.Laws.Flags.{ones_of, all_bits, ones-bits, bits-ones, length-bits, bit_lines, part_flags, flags_parts, in_order, there_ones, there_length, parts_length}

-- ---- a line with a number within bounds: the parts of a chain, and the length of a field

module _ (k : List ℕ) (nk : T (without 10 k)) (ns : T (without 61 k)) (lo hi v : ℕ) (big : hi < 2 ^ 64) (least : lo ≤ v) (most : v ≤ hi) (t : List ℕ) where
  bounded_line : (n : ℕ) (K : ℕ → List ℕ → Type 0) → Fits (suc n) (key_line k (decimal v)) t K → bounded_in lo hi t ≡ v
  bounded_line n K h =
      bounded_back lo hi t v big least most (value_is k (decimal v) t ns (sym (line_until k (decimal v) nk (decimal-clean v)) ∙ (fits_open n (key_line k (decimal v)) t K (line_has k (decimal v)) h).0))

  pub keep_bounded : (n : ℕ) (K K' : ℕ → List ℕ → Type 0) → Fits n (key_line k (decimal v)) t K
      → (bounded_in lo hi t ≡ v → (m : ℕ) → K (suc m) (behind_feed t) → K' (suc m) (behind_feed t)) → Fits n (key_line k (decimal (bounded_in lo hi t))) t K'
  unfolding behind_feeds
  keep_bounded n K K' h c =
      by_lines n _ t K' λ m en.
      let e : bounded_in lo hi t ≡ v = bounded_line m K (subst (λ j. Fits j (key_line k (decimal v)) t K) en h) in
      subst (λ y. Fits n (key_line k (decimal y)) t K') (sym e)
      (fits_then n (key_line k (decimal v)) t K K' (line_whole k (decimal v)) h
      (subst (λ j. (m : ℕ) → K (suc m) (behind_feeds j t) → K' (suc m) (behind_feeds j t)) (sym (line_feeds k (decimal v) nk (decimal-clean v))) (c e)))

-- ---- the parts

unfoldable pub least_parts : Item → ℕ
least_parts (chained p qs ss) = 1
least_parts (single l) = 0

unfoldable pub most_parts : Item → ℕ
most_parts (chained p qs ss) = length (p ∷ qs)
most_parts (single l) = 0

unfoldable pub chain_key : Named → List ℕ
chain_key nm = nm.name ++ text ".chain"

-- what is asked of an item's names: the key of the parts
unfoldable pub chain_named : Named → Bool
unfolding chain_key without
chain_named nm = without 10 (chain_key nm) && without 61 (chain_key nm)

chain_whole : (it : Item) (nm : Named) (n : ℕ) → T (whole (chain_text it nm n))
unfolding chain_text whole
chain_whole (chained p [] ss) nm n = tt
chain_whole (chained p (q ∷ qs) ss) nm n = line_whole (nm.name ++ text ".chain") (decimal n)
chain_whole (single l) nm n = tt

keep_count : (it : Item) (nm : Named) → T (chain_named nm) → most_parts it < 1000 → (v : ℕ) → least_parts it ≤ v → v ≤ most_parts it → (n : ℕ) (t : List ℕ) (K K' : ℕ → List ℕ → Type 0) → Fits n (chain_text it nm v) t K
    → (count_in it t ≡ v → (m : ℕ) → K (suc m) (behind_count it t) → K' (suc m) (behind_count it t)) → Fits n (chain_text it nm (count_in it t)) t K'
unfolding chain_named chain_key most_parts least_parts chain_text count_in behind_count
keep_count (chained p [] ss) nm q h v a b n t K K' f c = let e : 1 ≡ v = omega arith in fits_nil n t K K' f (c e)
keep_count (chained p (x ∷ qs) ss) nm q h v a b n t K K' f c =
    keep_bounded (nm.name ++ text ".chain") (and_l (without 10 (chain_key nm)) _ q) (and_r (without 10 (chain_key nm)) _ q) 1 (length (p ∷ x ∷ qs)) v (omega arith) a b t n K K' f c
keep_count (single l) nm q h v a b n t K K' f c = let e : 0 ≡ v = omega arith in fits_nil n t K K' f (c e)

count_in_lem : (it : Item) (t : List ℕ) → (least_parts it ≤ count_in it t) × (count_in it t ≤ most_parts it)
unfolding least_parts most_parts count_in
count_in_lem (chained p [] ss) t = (omega arith, omega arith)
count_in_lem (chained p (q ∷ qs) ss) t = bounded_in_lem 1 (length (p ∷ q ∷ qs)) t (omega arith)
count_in_lem (single l) t = (omega arith, omega arith)

-- ---- the flags of subfields print nothing

unfoldable pub all_hidden : List Key → Bool
all_hidden [] = true
all_hidden (hidden ∷ ks) = all_hidden ks
all_hidden (shown k ∷ ks) = false
all_hidden (angle k ∷ ks) = false
all_hidden (pressure k ∷ ks) = false

unfoldable pub hidden_first : List Line → List (List Key) → Bool
unfolding all_hidden
hidden_first [] ks = true
hidden_first (l ∷ ls) [] = false
hidden_first (l ∷ ls) (k ∷ ks) = all_hidden k && hidden_first ls ks

numbers_hidden : (ks : List Key) (zs : List ℤ) → T (all_hidden ks) → numbers_text ks zs ≡ []
unfolding all_hidden numbers_text number_text
numbers_hidden [] zs h = refl
numbers_hidden (hidden ∷ ks) [] h = refl
numbers_hidden (hidden ∷ ks) (z ∷ zs) h = numbers_hidden ks zs h
numbers_hidden (shown k ∷ ks) zs h = absurd h
numbers_hidden (angle k ∷ ks) zs h = absurd h
numbers_hidden (pressure k ∷ ks) zs h = absurd h

pick_nil : (b : Bool) (x : List ℕ) → x ≡ [] → pick b x [] ≡ []
pick_nil true x e = e
pick_nil false x e = refl

hidden_lines : (ls : List Line) (ks : List (List Key)) → T (hidden_first ls ks) → (n : ℕ) (us : List Bool) (ms : List Line) (zs : List ℤ)
    → lines_text (parts_there n ls ++ us) ks (ls ++ ms) zs ≡ lines_text us (drop (length ls) ks) ms (drop (slots_of ls) zs)
unfolding hidden_first parts_there slots_of lines_text
hidden_lines [] ks h n us ms zs = refl
hidden_lines (l ∷ ls) [] h n us ms zs = absurd h
hidden_lines (l ∷ ls) (k ∷ ks) h n us ms zs =
    let c : ℕ = count l.pieces in
    ap (◌++ lines_text (parts_there (n - 1) ls ++ us) ks (ls ++ ms) (drop c zs)) (pick_nil (ltb 0 n) (numbers_text k (take c zs)) (numbers_hidden k (take c zs) (and_l (all_hidden k) _ h)))
    ∙ hidden_lines ls ks (and_r (all_hidden k) _ h) (n - 1) us ms (drop c zs)
    ∙ ap (lines_text us (drop (length ls) ks) ms) (drop-drop (slots_of ls) c zs)

-- ---- what is asked of an item's names, and what it may begin with

unfoldable pub named_right : Item → Named → Bool
unfolding chain_named listed_lines hidden_first bit_lines in_order
named_right (chained p qs []) nm = listed_lines nm.keys (p ∷ qs)
named_right (chained p qs (s ∷ ss)) nm =
    hidden_first (p ∷ qs) nm.keys && (listed_lines (drop (length (p ∷ qs)) nm.keys) (s ∷ ss) && (bit_lines (p ∷ qs) && (in_order 0 (s ∷ ss) && eqb (slots_of (p ∷ qs)) (length (s ∷ ss)))))
named_right (single l) nm = listed_lines nm.keys (l ∷ [])

unfoldable pub item_heads : Item → Named → List (List ℕ)
unfolding keys_in heads_of
item_heads it nm = ((nm.name ++ text ".chain") ++ (61 ∷ [])) ∷ heads_of (keys_in it nm)

-- no subfield's first key is how another begins, nor what comes behind the item; of the other items nothing is asked
unfoldable pub behind_right : Item → Named → List (List ℕ) → Bool
unfolding heads_apart keys_in
behind_right (chained p qs []) nm hs = true
behind_right (chained p qs (s ∷ ss)) nm hs = heads_apart (keys_in (chained p qs (s ∷ ss)) nm) hs
behind_right (single l) nm hs = true

-- ---- the lines behind that of the parts

abbrev rest : Item → Named → Held → List ℕ
rest it nm v = lines_text (lines_there it v) nm.keys (lines_of it) v.1

-- of parts without subfields
parts_text : (p : Line) (qs : List Line) (nm : Named) (v : Held) → rest (chained p qs []) nm v ≡ lines_text (parts_there v.0 (p ∷ qs)) nm.keys (p ∷ qs) v.1
unfolding lines_there lines_of subfields_there
parts_text p qs nm v = ap₂ (λ x y. lines_text x nm.keys (p ∷ y) v.1) (append-nil (parts_there v.0 (p ∷ qs))) (append-nil qs)

-- of subfields
subs_text : (p : Line) (qs : List Line) (s : Line) (ss : List Line) (nm : Named) → T (hidden_first (p ∷ qs) nm.keys) → (v : Held)
    → rest (chained p qs (s ∷ ss)) nm v ≡ lines_text (subfields_there v.1 (s ∷ ss)) (drop (length (p ∷ qs)) nm.keys) (s ∷ ss) (drop (slots_of (p ∷ qs)) v.1)
unfolding lines_there lines_of
subs_text p qs s ss nm h v = hidden_lines (p ∷ qs) nm.keys h v.0 (subfields_there v.1 (s ∷ ss)) (s ∷ ss) v.1

-- ---- what an item holds, said of its lines

parts_held : (p : Line) (qs : List Line) (v : Held) → T ((item (chained p qs [])).okay v) → T (lines_ok (parts_there v.0 (p ∷ qs)) (p ∷ qs) v.1) × (1 ≤ v.0) × (v.0 ≤ length (p ∷ qs))
unfolding item slots_of subfields_there
parts_held p qs v o =
    let N : ℕ = slots_of (p ∷ qs) in
    let x : T ((chain p qs).okay (v.0, take N v.1)) = beside_first N (chain p qs) (λ a. subfields a.1 []) (chain_length p qs) ((v.0, 0), v.1) o in
    let y : T ((subfields (take N v.1) []).okay (0, drop N v.1)) = beside-second N (chain p qs) (λ a. subfields a.1 []) (chain_length p qs) ((v.0, 0), v.1) o in
    let z : length (drop N v.1) ≡ 0 = lines_length [] [] (drop N v.1) (subfields_lines (take N v.1) [] (drop N v.1) y) in
    let e : take N v.1 ≡ v.1 = take_all N v.1 (omega (arith, z, length-drop N v.1)) in
    let c = chain_lines p qs v.0 (take N v.1) x in
    (subst (λ w. T (lines_ok (parts_there v.0 (p ∷ qs)) (p ∷ qs) w)) e c.0, c.1, c.2)

-- the names of an item with subfields
module _ (p : Line) (qs : List Line) (s : Line) (ss : List Line) (nm : Named) (q : T (named_right (chained p qs (s ∷ ss)) nm)) where
  named_hidden : T (hidden_first (p ∷ qs) nm.keys)
  unfolding named_right
  named_hidden = and_l (hidden_first (p ∷ qs) nm.keys) _ q

  named_listed : T (listed_lines (drop (length (p ∷ qs)) nm.keys) (s ∷ ss))
  unfolding named_right
  named_listed = and_l (listed_lines (drop (length (p ∷ qs)) nm.keys) (s ∷ ss)) _ (and_r (hidden_first (p ∷ qs) nm.keys) _ q)

  named_others : T (bit_lines (p ∷ qs) && (in_order 0 (s ∷ ss) && eqb (slots_of (p ∷ qs)) (length (s ∷ ss))))
  unfolding named_right
  named_others = and_r (listed_lines (drop (length (p ∷ qs)) nm.keys) (s ∷ ss)) _ (and_r (hidden_first (p ∷ qs) nm.keys) _ q)

  named_bits : T (bit_lines (p ∷ qs))
  named_bits = and_l (bit_lines (p ∷ qs)) _ named_others

  named_order : T (in_order 0 (s ∷ ss))
  named_order = and_l (in_order 0 (s ∷ ss)) _ (and_r (bit_lines (p ∷ qs)) _ named_others)

  named_many : slots_of (p ∷ qs) ≡ length (s ∷ ss)
  named_many = eqb→eq (slots_of (p ∷ qs)) (length (s ∷ ss)) (and_r (in_order 0 (s ∷ ss)) _ (and_r (bit_lines (p ∷ qs)) _ named_others))

  -- the subfields that flags in front of other numbers tell
  flags_there : (fl zs : List ℤ) → length fl ≡ slots_of (p ∷ qs) → subfields_there (fl ++ zs) (s ∷ ss) ≡ ones_of fl
  flags_there fl zs e =
      there_ones 0 (s ∷ ss) (fl ++ zs) named_order (omega (arith, length-append fl zs, e, named_many))
      ∙ ap ones_of (take_at fl zs (length (s ∷ ss)) (e ∙ named_many))

  flags-alone : (fl : List ℤ) → length fl ≡ slots_of (p ∷ qs) → subfields_there fl (s ∷ ss) ≡ ones_of fl
  flags-alone fl e = ap (λ x. subfields_there x (s ∷ ss)) (sym (append-nil fl)) ∙ flags_there fl [] e

record SubsHeld (p : Line) (qs : List Line) (s : Line) (ss : List Line) (nm : Named) (v : Held) : Type 0 where
  flags_bits : T (all_bits (take (slots_of (p ∷ qs)) v.1))
  flags_allowed : T (allowed (slots_of (take v.0 (p ∷ qs))) (ones_of (take (slots_of (p ∷ qs)) v.1)))
  lines_hold : T (lines_ok (ones_of (take (slots_of (p ∷ qs)) v.1)) (s ∷ ss) (drop (slots_of (p ∷ qs)) v.1))
  lines_many : length (ones_of (take (slots_of (p ∷ qs)) v.1)) ≡ length (s ∷ ss)
  text_is : rest (chained p qs (s ∷ ss)) nm v ≡ lines_text (ones_of (take (slots_of (p ∷ qs)) v.1)) (drop (length (p ∷ qs)) nm.keys) (s ∷ ss) (drop (slots_of (p ∷ qs)) v.1)
  parts_are : (1 ≤ v.0) × (v.0 ≤ length (p ∷ qs))

subs_held : (p : Line) (qs : List Line) (s : Line) (ss : List Line) (nm : Named) → T (named_right (chained p qs (s ∷ ss)) nm) → (v : Held) → T ((item (chained p qs (s ∷ ss))).okay v) → SubsHeld p qs s ss nm v
unfolding item
subs_held p qs s ss nm q v o =
    let N : ℕ = slots_of (p ∷ qs) in
    let fl : List ℤ = take N v.1 in
    let x : T ((chain p qs).okay (v.0, fl)) = beside_first N (chain p qs) (λ a. subfields a.1 (s ∷ ss)) (chain_length p qs) ((v.0, 0), v.1) o in
    let y : T ((subfields fl (s ∷ ss)).okay (0, drop N v.1)) = beside-second N (chain p qs) (λ a. subfields a.1 (s ∷ ss)) (chain_length p qs) ((v.0, 0), v.1) o in
    let nf : length fl ≡ N = chain_length p qs (v.0, fl) x in
    let c = chain_lines p qs v.0 fl x in
    let r = part_flags (p ∷ qs) v.0 fl (named_bits p qs s ss nm q) c.0 in
    let e1 : subfields_there fl (s ∷ ss) ≡ ones_of fl = flags-alone p qs s ss nm q fl nf in
    let e2 : subfields_there v.1 (s ∷ ss) ≡ ones_of fl = ap (λ z. subfields_there z (s ∷ ss)) (sym (take-append-drop N v.1)) ∙ flags_there p qs s ss nm q fl (drop N v.1) nf in
    record {
      flags_bits = r.0;
      flags_allowed = r.1;
      lines_hold = subst (λ w. T (lines_ok w (s ∷ ss) (drop N v.1))) e1 (subfields_lines fl (s ∷ ss) (drop N v.1) y);
      lines_many = ap length (sym e1) ∙ there_length fl (s ∷ ss);
      text_is = subs_text p qs s ss nm (named_hidden p qs s ss nm q) v ∙ ap (λ w. lines_text w (drop (length (p ∷ qs)) nm.keys) (s ∷ ss) (drop N v.1)) e2;
      parts_are = (c.1, c.2);
    }

-- ---- what a text tells of the lines

abbrev told : Item → Named → ℕ → List ℕ → Held
told it nm c t = (c, item_numbers it nm (there_in it nm c t) t)

abbrev left : Item → Named → ℕ → List ℕ → List ℕ
left it nm c t = left_lines (there_in it nm c t) (keys_in it nm) t

keep_rest : (it : Item) (nm : Named) → T (good_item it) → T (named_right it nm) → (hs : List (List ℕ)) → T (behind_right it nm hs) → (v : Held) → T ((item it).okay v)
    → (n : ℕ) (t : List ℕ) (K K' : ℕ → List ℕ → Type 0) → Begins hs K → Fits n (rest it nm v) t K
    → ((told it nm v.0 t).1 ≡ v.1 → (m : ℕ) → K (suc m) (left it nm v.0 t) → K' (suc m) (left it nm v.0 t)) → Fits n (rest it nm (told it nm v.0 t)) t K'
unfolding good_item good_lines named_right behind_right item item_numbers there_in keys_in lines_there lines_of
keep_rest (single l) nm g q hs b v o n t K K' a h c =
    let r = single_lines l v (eqb→eq l.fx 0 (and_l (eqb l.fx 0) _ g)) o in
    keep_lines (true ∷ []) nm.keys (l ∷ []) v.1 q r.0 n t K K' h c
keep_rest (chained p qs []) nm g q hs b v o n t K K' a h c =
    subst (λ w. Fits n w t K') (sym (parts_text p qs nm (told (chained p qs []) nm v.0 t)))
    (keep_lines (parts_there v.0 (p ∷ qs)) nm.keys (p ∷ qs) v.1 q (parts_held p qs v o).0 n t K K' (subst (λ w. Fits n w t K) (parts_text p qs nm v) h) c)
keep_rest (chained p qs (s ∷ ss)) nm g q hs b v o n t K K' a h c =
    let N : ℕ = slots_of (p ∷ qs) in
    let ks : List (List Key) = drop (length (p ∷ qs)) nm.keys in
    let r = subs_held p qs s ss nm q v o in
    let fl : List ℤ = take N v.1 in
    let lim : ℕ = slots_of (take v.0 (p ∷ qs)) in
    let us : List Bool = open_in lim ks t in
    let zs : List ℤ = taken_lines us ks (s ∷ ss) t in
    let ql : T (listed_lines ks (s ∷ ss)) = named_listed p qs s ss nm q in
    let nu : length (bits us) ≡ N = length-bits us ∙ open_length lim ks t ∙ listed_length ks (s ∷ ss) ql ∙ sym (named_many p qs s ss nm q) in
    let out : rest (chained p qs (s ∷ ss)) nm (v.0, bits us ++ zs) ≡ lines_text us ks (s ∷ ss) zs
    = subs_text p qs s ss nm (named_hidden p qs s ss nm q) (v.0, bits us ++ zs) ∙ ap₂ (λ w u. lines_text w ks (s ∷ ss) u) (flags_there p qs s ss nm q (bits us) zs nu ∙ ones-bits us) (drop_at (bits us) zs N nu) in
    subst (λ w. Fits n w t K') (sym out)
    (keep_groups lim (ones_of fl) ks (s ∷ ss) (drop N v.1) ql r.lines_hold r.lines_many r.flags_allowed hs b n t K K' a (subst (λ w. Fits n w t K) r.text_is h)
    (λ eu ez. c (ap₂ (λ w u. bits w ++ u) eu ez ∙ ap (◌++ drop N v.1) (bits-ones fl r.flags_bits) ∙ take-append-drop N v.1)))

-- ---- the whole item

parts_in : (it : Item) (v : Held) → T (good_item it) → T ((item it).okay v) → (nm : Named) → T (named_right it nm) → (least_parts it ≤ v.0) × (v.0 ≤ most_parts it)
unfolding good_item good_lines least_parts most_parts item
parts_in (single l) v g o nm q = let r = single_lines l v (eqb→eq l.fx 0 (and_l (eqb l.fx 0) _ g)) o in (omega arith, omega (arith, r.1))
parts_in (chained p qs []) v g o nm q = let r = parts_held p qs v o in (r.1, r.2)
parts_in (chained p qs (s ∷ ss)) v g o nm q = (subs_held p qs s ss nm q v o).parts_are

-- all that is asked of an item and its names, hs being how what comes behind it may begin
unfoldable pub item_right : Item → Named → List (List ℕ) → Bool
item_right it nm hs = (good_item it && named_right it nm) && (chain_named nm && (ltb (most_parts it) 1_000 && behind_right it nm hs))

rest_begin : (it : Item) (nm : Named) → T (good_item it) → T (named_right it nm) → (v : Held) → T ((item it).okay v) → (hs : List (List ℕ)) (K : ℕ → List ℕ → Type 0) → Begins hs K
    → Begins (heads_of (keys_in it nm) ++ hs) (λ m x. Fits m (rest it nm v) x K)
unfolding good_item good_lines named_right item keys_in lines_there lines_of
rest_begin (single l) nm g q v o hs K a m x h = lines_begin (true ∷ []) nm.keys (l ∷ []) v.1 q (single_lines l v (eqb→eq l.fx 0 (and_l (eqb l.fx 0) _ g)) o).0 hs K a m x h
rest_begin (chained p qs []) nm g q v o hs K a m x h =
    lines_begin (parts_there v.0 (p ∷ qs)) nm.keys (p ∷ qs) v.1 q (parts_held p qs v o).0 hs K a m x (subst (λ w. Fits (suc m) w x K) (parts_text p qs nm v) h)
rest_begin (chained p qs (s ∷ ss)) nm g q v o hs K a m x h =
    let r = subs_held p qs s ss nm q v o in
    lines_begin (ones_of (take (slots_of (p ∷ qs)) v.1)) (drop (length (p ∷ qs)) nm.keys) (s ∷ ss) (drop (slots_of (p ∷ qs)) v.1) (named_listed p qs s ss nm q) r.lines_hold hs K a m x
    (subst (λ w. Fits (suc m) w x K) r.text_is h)

count_begin : (it : Item) (nm : Named) → T (chain_named nm) → (v : ℕ) (hs : List (List ℕ)) (K : ℕ → List ℕ → Type 0) → Begins hs K → Begins (((nm.name ++ text ".chain") ++ (61 ∷ [])) ∷ hs) (λ m x. Fits m (chain_text it nm v) x K)
unfolding chain_text chain_named chain_key starts_any Fits
count_begin (chained p [] ss) nm q v hs K a m x h = starts_right (((nm.name ++ text ".chain") ++ (61 ∷ [])) ∷ []) hs x (a m x h)
count_begin (chained p (y ∷ qs) ss) nm q v hs K a m x h =
    let k : List ℕ = nm.name ++ text ".chain" in
    let b : T (begins (k ++ (61 ∷ [])) x) = key_begins k (decimal v) x (sym (line_until k (decimal v) (and_l (without 10 (chain_key nm)) _ q) (decimal-clean v)) ∙ (fits_open m (key_line k (decimal v)) x K (line_has k (decimal v)) h).0) in
    rw (holds (begins (k ++ (61 ∷ [])) x) b) tt
count_begin (single l) nm q v hs K a m x h = starts_right (((nm.name ++ text ".chain") ++ (61 ∷ [])) ∷ []) hs x (a m x h)

told_okay : (it : Item) (nm : Named) → T (good_item it) → T (named_right it nm) → (c : ℕ) → least_parts it ≤ c → c ≤ most_parts it → (t : List ℕ) → T ((item it).okay (told it nm c t))
unfolding good_item named_right least_parts most_parts item item_numbers there_in keys_in beside slots_of zeros lines_ok
told_okay (single l) nm g q c a b t =
    let e : c ≡ 0 = omega arith in
    subst (λ j. T ((lineCodec l).okay (j, taken_lines (true ∷ []) nm.keys (l ∷ []) t))) (sym e) (lines_single l g (taken_lines (true ∷ []) nm.keys (l ∷ []) t) (lines_ok_lem (true ∷ []) nm.keys (l ∷ []) q refl t))
told_okay (chained p qs []) nm g q c a b t =
    let N : ℕ = slots_of (p ∷ qs) in
    let ts : List Bool = parts_there c (p ∷ qs) in
    let zs : List ℤ = taken_lines ts nm.keys (p ∷ qs) t in
    let o : T (lines_ok ts (p ∷ qs) zs) = lines_ok_lem ts nm.keys (p ∷ qs) q (parts_length c (p ∷ qs)) t in
    let n : length zs ≡ N = lines_length ts (p ∷ qs) zs o in
    and_in ((chain p qs).okay (c, take N zs)) _
    (subst (λ z. T ((chain p qs).okay (c, z))) (sym (take_all N zs (le_of_eq n))) (lines_chain p qs (and_l (good_lines 1 (p ∷ qs)) _ g) c zs a b o))
    (subst (λ z. T ((subfields (take N zs) []).okay (0, z))) (sym (drop_of_length-le zs {i = N} (le_of_eq n))) (lines_subfields (take N zs) [] (and_r (good_lines 1 (p ∷ qs)) _ g) [] tt))
told_okay (chained p qs (s ∷ ss)) nm g q c a b t =
    let N : ℕ = slots_of (p ∷ qs) in
    let ks : List (List Key) = drop (length (p ∷ qs)) nm.keys in
    let lim : ℕ = slots_of (take c (p ∷ qs)) in
    let us : List Bool = open_in lim ks t in
    let zs : List ℤ = taken_lines us ks (s ∷ ss) t in
    let ql : T (listed_lines ks (s ∷ ss)) = named_listed p qs s ss nm q in
    let lu : length us ≡ length (s ∷ ss) = open_length lim ks t ∙ listed_length ks (s ∷ ss) ql in
    let nu : length (bits us) ≡ N = length-bits us ∙ lu ∙ sym (named_many p qs s ss nm q) in
    let e1 : take N (bits us ++ zs) ≡ bits us = take_at (bits us) zs N nu in
    let e2 : drop N (bits us ++ zs) ≡ zs = drop_at (bits us) zs N nu in
    let e3 : subfields_there (bits us) (s ∷ ss) ≡ us = flags-alone p qs s ss nm q (bits us) nu ∙ ones-bits us in
    and_in ((chain p qs).okay (c, take N (bits us ++ zs))) _
    (subst (λ z. T ((chain p qs).okay (c, z))) (sym e1)
    (lines_chain p qs (and_l (good_lines 1 (p ∷ qs)) _ g) c (bits us) a b (flags_parts (p ∷ qs) c us (named_bits p qs s ss nm q) (lu ∙ sym (named_many p qs s ss nm q)) (open_allowed lim ks t))))
    (subst (λ z. T ((subfields z (s ∷ ss)).okay (0, drop N (bits us ++ zs)))) (sym e1)
    (subst (λ z. T ((subfields (bits us) (s ∷ ss)).okay (0, z))) (sym e2)
    (lines_subfields (bits us) (s ∷ ss) (and_r (good_lines 1 (p ∷ qs)) _ g) zs (subst (λ w. T (lines_ok w (s ∷ ss) zs)) (sym e3) (lines_ok_lem us ks (s ∷ ss) ql lu t)))))

module _ (it : Item) (nm : Named) (hs : List (List ℕ)) (q : T (item_right it nm hs)) where
  right_good : T (good_item it)
  unfolding item_right
  right_good = and_l (good_item it) _ (and_l (good_item it && named_right it nm) _ q)

  right_named : T (named_right it nm)
  unfolding item_right
  right_named = and_r (good_item it) _ (and_l (good_item it && named_right it nm) _ q)

  right_chain : T (chain_named nm)
  unfolding item_right
  right_chain = and_l (chain_named nm) _ (and_r (good_item it && named_right it nm) _ q)

  right_parts : most_parts it < 1_000
  unfolding item_right
  right_parts = ltb→lt (most_parts it) 1_000 (and_l (ltb (most_parts it) 1_000) _ (and_r (chain_named nm) _ (and_r (good_item it && named_right it nm) _ q)))

  right_behind : T (behind_right it nm hs)
  unfolding item_right
  right_behind = and_r (ltb (most_parts it) 1_000) _ (and_r (chain_named nm) _ (and_r (good_item it && named_right it nm) _ q))

  pub keep_item : (v : Held) → T ((item it).okay v) → (n : ℕ) (t : List ℕ) (K K' : ℕ → List ℕ → Type 0) → Begins hs K → Fits n (item_text it nm v) t K
      → (item_in it nm t ≡ v → (m : ℕ) → K (suc m) (item_left it nm t) → K' (suc m) (item_left it nm t)) → Fits n (item_text it nm (item_in it nm t)) t K'
  unfolding item_text item_in item_left
  keep_item v o n t K K' a h c =
      let b = parts_in it v right_good o nm right_named in
      let t2 : List ℕ = behind_count it t in
      fits_join n (chain_text it nm (count_in it t)) (rest it nm (told it nm (count_in it t) t2)) t K' (chain_whole it nm (count_in it t))
      (keep_count it nm right_chain right_parts v.0 b.0 b.1 n t (λ m x. Fits m (rest it nm v) x K) (λ m x. Fits m (rest it nm (told it nm (count_in it t) t2)) x K')
      (fits_split n (chain_text it nm v.0) (rest it nm v) t K (chain_whole it nm v.0) h)
      (λ e m g.
      subst (λ j. ((told it nm j t2).1 ≡ v.1 → (i : ℕ) → K (suc i) (left it nm j t2) → K' (suc i) (left it nm j t2)) → Fits (suc m) (rest it nm (told it nm j t2)) t2 K') (sym e)
      (keep_rest it nm right_good right_named hs right_behind v o (suc m) t2 K K' a g) (λ ez. c (λ i. (e i, ez i)))))

  -- how a text begins that has a line in common with the item, or with what comes behind it
  pub item_begin : (v : Held) → T ((item it).okay v) → (K : ℕ → List ℕ → Type 0) → Begins hs K → Begins (item_heads it nm ++ hs) (λ m x. Fits m (item_text it nm v) x K)
  unfolding item_text item_heads starts_any
  item_begin v o K a m x h = count_begin it nm right_chain v.0 (heads_of (keys_in it nm) ++ hs) (λ m x. Fits m (rest it nm v) x K) (rest_begin it nm right_good right_named v o hs K a) m x
      (fits_split (suc m) (chain_text it nm v.0) (rest it nm v) x K (chain_whole it nm v.0) h)

  pub item_whole : (v : Held) → T (whole (item_text it nm v))
  unfolding item_text
  item_whole v = whole_append (chain_text it nm v.0) (rest it nm v) (chain_whole it nm v.0) (lines_whole (lines_there it v) nm.keys (lines_of it) v.1)

  -- the guess can be written, whatever the text
  pub item_okay : (t : List ℕ) → T ((item it).okay (item_in it nm t))
  unfolding item_in
  item_okay t = let c = count_in_lem it t in told_okay it nm right_good right_named (count_in it t) c.0 c.1 (behind_count it t)
