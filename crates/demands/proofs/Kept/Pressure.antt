-- 02, Ask 1 of the defined program: the sheet of a field with BPS has the two lines behind the number, and they say its set.
use Rattle.std.specs.Prelude.{◌≡◌, Bool, List, [], ◌∷◌, ◌++◌, ℕ, suc, ◌+◌, ◌≤◌, ◌<◌, ℤ, pos, negsuc, length, drop, ◌≤ℤ◌}
use Rattle.std.proofs.Math.Path.{refl, ap, subst, subst₂}
use Rattle.std.proofs.Common.{sym, ◌∙◌, append_assoc, append-nil, le_antisymm, arith, leb→le, le→leb}
use Rattle.std.proofs.Math.Bool.{true, false}
use borrow.Author.Tests.{eqb-true, eqb-false}
use Rattle.std.proofs.Math.Dec.{T, eqb, eqb_refl}
use Rattle.std.specs.Int.Signed.{mag, le_z_yes, ≤ℤ_refl}
use Rattle.codec.specs.Codec.{Octets}
use Rattle.codec.specs.Field.{first_flag, next_flags, uncons, flags, Contents}
use Rattle.codec.specs.Frame.{accepted}
use Rattle.codec.specs.Item.{lines_of}
use Rattle.codec.specs.Line.{Held, count}
use Rattle.codec.specs.Printed.{Entry, Structure, compound, fixed}
use Rattle.codec.specs.Meaning.{len_of, bits_of, meant, big_endian, numbers_of, IsLine, is_fixed, AreItems, item, no_item}
use Rattle.codec.proofs.Laws.Meaning.{flags_from, flags-from}
use Rattle.papers.specs.Cat021.{BPS, printed021, cat021}
use Rattle.papers.specs.Names.{text, pressure as pressed, names_of, names021}
use Rattle.papers.specs.Papers.{paper_of, printed_of}
use Rattle.layout.specs.declared.Record.{Record}
use Rattle.layout.specs.Record.{all_numbers, number_at}
use Rattle.scope.specs.Pressure.{eq_int, tenths_of, stands, sense_of}
use Rattle.scope.specs.Reading.{field_of}
use Rattle.scope.specs.Sheet.{decimal, signed_decimal, key_line, number_text, numbers_text, lines_there, lines_text, chain_text, item_text, row_text}
use Rattle.scope.specs.Sheet.{items_text, field_text, sheet_of}
use Rattle.scope.proofs.Laws.Pressure.{eq_int-same, stands_lowest, stands_highest, stands_between, number_of, number_few, some_number, one_number, own_tenths}
use Rattle.demands.specs.Terms.{record_of, IsField, bit_of}
use Rattle.demands.specs.Pressure.{Says, atmost, atleast, equal, SaysSet, OnSheet, Number, Pressure}
use Rattle.demands.specs.Defined.{program}
use Rattle.demands.proofs.Kept.Refusals.{field_was, indicator_small, items_are}
use Rattle.demands.proofs.Kept.Reads.{demand2}

-- ---- the two lines say the set

-- what is said by each word
record Means (d : ℤ) (w : List ℕ) (t : ℤ) : Type 0 where
  at_most : w ≡ text "atmost" → t ≤ℤ d
  at_least : w ≡ text "atleast" → d ≤ℤ t
  the_one : w ≡ text "equal" → t ≡ d

-- no two of them have as many letters
means : {d : ℤ} {w : List ℕ} {t : ℤ} → Says d w t → Means d w t
means (atmost h) = record { at_most = λ e. h; at_least = λ e. absurd (omega (arith, ap length e)); the_one = λ e. absurd (omega (arith, ap length e)) }
means (atleast h) = record { at_most = λ e. absurd (omega (arith, ap length e)); at_least = λ e. h; the_one = λ e. absurd (omega (arith, ap length e)) }
means equal = record { at_most = λ e. absurd (omega (arith, ap length e)); at_least = λ e. absurd (omega (arith, ap length e)); the_one = λ e. refl }

module _ (n : ℕ) where
  -- between the ends the one setting is said
  said_alone : {w : List ℕ} → w ≡ text "equal" → ((t : ℤ) → stands (pos n) t ≡ eq_int t (tenths_of (pos n))) → SaysSet n (tenths_of (pos n)) w
  unfolding eq_int
  said_alone {w} e a = record {
    stood_for = λ t h. subst T (sym (a t ∙ ap (λ x. eq_int x (pos (8_000 + n))) ((means h).the_one e))) (eqb_refl (8_000 + n));
    said = λ t h. subst₂ (Says (pos (8_000 + n))) (sym e) (sym (eq_int-same t (pos (8_000 + n)) (subst T (a t) h))) equal;
  }

  set_said : SaysSet n (tenths_of (pos n)) (sense_of (pos n))
  unfolding stands sense_of eq_int
  set_said = go (eqb n 0) (eqb n 4_095) refl refl
    where
      go : (a b : Bool) → eqb n 0 ≡ a → eqb n 4_095 ≡ b → SaysSet n (tenths_of (pos n)) (sense_of (pos n))
      go true b e f =
          let z : n ≡ 0 = eqb-true n 0 e in
          rw z (record { stood_for = λ t h. ((means h).at_most refl).le; said = λ t h. atmost (le_z_yes h) })
      go false true e f =
          let z : n ≡ 4_095 = eqb-true n 4_095 f in
          rw z (record { stood_for = λ t h. ((means h).at_least refl).le; said = λ t h. atleast (le_z_yes h) })
      go false false e f = said_alone (rw (e, f) refl) (stands_between n (eqb-false n 0 e) (eqb-false n 4_095 f))

-- ---- the set determines both lines

-- a setting from d' on that is above d, and one down from d that is below d'
abbrev above : ℤ → ℤ → ℤ
above d d' = pos (suc (mag d + mag d'))

abbrev below : ℤ → ℤ → ℤ
below d d' = negsuc (suc (mag d + mag d'))

from_on : (d d' : ℤ) → d' ≤ℤ above d d'
from_on d (pos b) = le_z_yes (le→leb b (suc (mag d + b)) (omega arith))
from_on d (negsuc b) = le_z_yes tt

not_under : (d d' : ℤ) → above d d' ≤ℤ d → ⊥
not_under (pos a) d' h = absurd (omega (arith, leb→le (suc (a + mag d')) a h.le))
not_under (negsuc a) d' h = h.le

down_from : (d d' : ℤ) → below d d' ≤ℤ d
down_from (pos a) d' = le_z_yes tt
down_from (negsuc a) d' = le_z_yes (le→leb a (suc (a + mag d')) (omega arith))

not_over : (d d' : ℤ) → d' ≤ℤ below d d' → ⊥
not_over d (pos b) h = h.le
not_over d (negsuc b) h = absurd (omega (arith, leb→le (suc (mag d + b)) b h.le))

neither-less : (y z : ℤ) → y ≤ℤ z → z ≤ℤ y → y ≡ z
neither-less (pos a) (pos b) h k = ap pos (le_antisymm (leb→le a b h.le) (leb→le b a k.le))
neither-less (pos a) (negsuc b) h k = absurd h.le
neither-less (negsuc a) (pos b) h k = absurd k.le
neither-less (negsuc a) (negsuc b) h k = ap negsuc (le_antisymm (leb→le a b k.le) (leb→le b a h.le))

-- what one word says no other does
module _ (d d' : ℤ) where
  ends_differ : ((t : ℤ) → Says d' (text "atleast") t → Says d (text "atmost") t) → ⊥
  ends_differ f = not_under d d' ((means (f (above d d') (atleast (from_on d d')))).at_most refl)

  low_many : ((t : ℤ) → Says d (text "atmost") t → Says d' (text "equal") t) → ⊥
  low_many f =
      let e : below d d' ≡ d' = (means (f (below d d') (atmost (down_from d d')))).the_one refl in
      not_over d d' (subst (◌≤ℤ below d d') e (≤ℤ_refl (below d d')))

  high_many : ((t : ℤ) → Says d (text "atleast") t → Says d' (text "equal") t) → ⊥
  high_many f =
      let e : above d' d ≡ d' = (means (f (above d' d) (atleast (from_on d' d)))).the_one refl in
      not_under d' d (subst (above d' d ≤ℤ◌) e (≤ℤ_refl (above d' d)))

-- two pairs of lines that say the same of every setting, and say some, are the same
same_lines : {d d' : ℤ} {w w' : List ℕ} {t : ℤ} → Says d w t → Says d' w' t → ((t : ℤ) → Says d w t → Says d' w' t)
    → ((t : ℤ) → Says d' w' t → Says d w t) → (d ≡ d') × (w ≡ w')
same_lines {d} {d'} (atmost h) (atmost k) to fro =
    (neither-less d d' ((means (to d (atmost (≤ℤ_refl d)))).at_most refl) ((means (fro d' (atmost (≤ℤ_refl d')))).at_most refl), refl)
same_lines {d} {d'} (atleast h) (atleast k) to fro =
    (neither-less d d' ((means (fro d' (atleast (≤ℤ_refl d')))).at_least refl) ((means (to d (atleast (≤ℤ_refl d)))).at_least refl), refl)
same_lines equal equal to fro = (refl, refl)
same_lines {d} {d'} (atmost h) (atleast k) to fro = absurd (ends_differ d d' fro)
same_lines {d} {d'} (atleast h) (atmost k) to fro = absurd (ends_differ d' d to)
same_lines {d} {d'} (atmost h) equal to fro = absurd (low_many d d' to)
same_lines {d} {d'} equal (atmost k) to fro = absurd (low_many d' d fro)
same_lines {d} {d'} (atleast h) equal to fro = absurd (high_many d d' to)
same_lines {d} {d'} equal (atleast k) to fro = absurd (high_many d' d fro)

set_lines : (m n : ℕ) (d d' : ℤ) (w w' : List ℕ) → m ≤ 4_095 → ((t : ℤ) → stands (pos m) t ≡ stands (pos n) t)
    → SaysSet m d w → SaysSet n d' w' → (d ≡ d') × (w ≡ w')
set_lines m n d d' w w' h e p q =
    let to : (t : ℤ) → Says d w t → Says d' w' t = λ t x. q.said t (subst T (e t) (p.stood_for t x)) in
    let own : Says d w (pos (8_000 + m)) = p.said (pos (8_000 + m)) (own_tenths m h) in
    same_lines own (to (pos (8_000 + m)) own) to (λ t x. p.said t (subst T (sym (e t)) (q.stood_for t x)))

-- ---- the first item of a field, which is there and has no chain

record First (b : Structure) (vs : List Held) : Type 0 where
  octets : List ℕ
  numbers : List ℤ
  others : List Held
  held : vs ≡ (0, numbers) ∷ others
  line : IsLine b octets numbers

first_item : {ind b : ℕ} {e : Structure} {es : List Entry} {os : List ℕ} {vs : List Held} → AreItems ind (suc b) (fixed e ∷ es) os vs
    → bits_of ind (suc b) (suc b) ≡ 1 → First e vs
first_item (item {vs = vs} d (is_fixed {os = os} {zs = zs} l) r) t = record { octets = os; numbers = zs; others = vs; held = refl; line = l }
first_item (no_item d r) t = absurd (omega arith)

first_bit : (n : ℕ) → n < 256 → first_flag (flags n) ≡ bits_of n 8 8
unfolding first_flag flags_from
first_bit n h = ap first_flag (flags-from n h)

-- ---- BPS: its number, and its lines on the sheet

abbrev structure_of : Entry → Structure
structure_of (fixed s) = s
structure_of (compound name p qs ss) = p

bps_number : (os : List ℕ) (zs : List ℤ) → IsLine (structure_of BPS) os zs → zs ≡ pos (bits_of (big_endian os) 12 1) ∷ []
unfolding numbers_of meant
bps_number os zs l = l.numbers

bps_few : (n : ℕ) → bits_of n 12 1 ≤ 4_095
unfolding bits_of
bps_few n = omega arith

bps_lines : (ds : List ℕ) (n : ℕ) (vs : List Held) → first_flag ds ≡ 1
    → row_text ds (paper_of 21) (names_of 21) ((0, pos n ∷ []) ∷ vs)
    ≡ number_text (pressed (text "BPS")) (pos n) ++ row_text (next_flags ds) (drop 1 (paper_of 21)) (drop 1 (names_of 21)) vs
unfolding row_text item_text chain_text lines_text lines_there numbers_text paper_of cat021 names_of names021 uncons count lines_of
bps_lines ds n vs e =
    let x : List ℕ = number_text (pressed (text "BPS")) (pos n) in
    rw e (ap (◌++ row_text (next_flags ds) (drop 1 (paper_of 21)) (drop 1 (names_of 21)) vs) (append-nil (x ++ []) ∙ append-nil x))

three_lines_lem : (n : ℕ) → number_text (pressed (text "BPS")) (pos n)
    ≡ key_line (text "BPS") (decimal n) ++ (key_line (text "BPS.tenths") (signed_decimal (tenths_of (pos n))) ++ key_line (text "BPS.sense") (sense_of (pos n)))
unfolding number_text
three_lines_lem n = refl

-- ---- the sheet, with what stands before the three lines and behind them

abbrev items_line : List ℕ → List ℕ
items_line ds = key_line (text "items") (items_text [] ds (names_of 21))

sheet_is : (s : List ℕ) (r : Contents) → field_of 21 s ≡ accepted r
    → sheet_of (21 ∷ s) ≡ key_line (text "cat") (decimal 21) ++ (key_line (text "len") (decimal (len_of s))
    ++ (items_line (flags r.0) ++ (row_text (flags r.0) (paper_of 21) (names_of 21) r.1 ++ key_line (text "end") (text "ok"))))
unfolding sheet_of
sheet_is s r e = ap (λ x. key_line (text "cat") (decimal 21) ++ field_text 21 s x) e

around : (c l i b t w r e : List ℕ) → c ++ (l ++ (i ++ (((b ++ (t ++ w)) ++ r) ++ e))) ≡ (c ++ (l ++ i)) ++ (b ++ (t ++ (w ++ (r ++ e))))
around c l i b t w r e = simp append_assoc refl

module _ (s : List ℕ) (o : Octets s) (f : Record) (h : IsField 21 s f) (there : bit_of f.items 1 ≡ 1) where
  bit : bits_of h.what.0 8 8 ≡ 1
  bit = ap (λ x. bit_of x 1) (sym (items_are 21 s o f h)) ∙ there

  first : First (structure_of BPS) h.what.1
  unfolding printed_of printed021
  first = first_item h.layout.items bit

  abbrev number : ℕ
  number = bits_of (big_endian first.octets) 12 1

  held : h.what.1 ≡ (0, pos number ∷ []) ∷ first.others
  held = first.held ∙ ap (λ (zs : List ℤ). (0, zs) ∷ first.others) (bps_number first.octets first.numbers first.line)

  number_is : Number f number
  unfolding record_of number_at all_numbers
  number_is = record {
    few = bps_few (big_endian first.octets);
    is = ap (λ (g : Record). number_at g.numbers 0) h.record_is ∙ ap (λ vs. number_at (record_of 21 (h.what.0, vs)).numbers 0) held;
  }

  abbrev bits : List ℕ
  bits = flags h.what.0

  abbrev others : List ℕ
  others = row_text (next_flags bits) (drop 1 (paper_of 21)) (drop 1 (names_of 21)) first.others

  shown : OnSheet (sheet_of (21 ∷ s)) number
  shown =
      let n : ℕ = number in
      let cat : List ℕ = key_line (text "cat") (decimal 21) in
      let len : List ℕ = key_line (text "len") (decimal (len_of s)) in
      let end : List ℕ = key_line (text "end") (text "ok") in
      let flag : first_flag bits ≡ 1 = first_bit h.what.0 (indicator_small 21 s o f h) ∙ bit in
      let row = ap (row_text bits (paper_of 21) (names_of 21)) held ∙ bps_lines bits n first.others flag ∙ ap (◌++ others) (three_lines_lem n) in record {
        before = cat ++ (len ++ items_line bits);
        behind = others ++ end;
        tenths = tenths_of (pos n);
        sense = sense_of (pos n);
        lines = sheet_is s h.what (field_was 21 s o f h) ∙ ap (λ x. cat ++ (len ++ (items_line bits ++ (x ++ end)))) row
            ∙ around cat len (items_line bits) (key_line (text "BPS") (decimal n)) (key_line (text "BPS.tenths") (signed_decimal (tenths_of (pos n))))
            (key_line (text "BPS.sense") (sense_of (pos n))) others end;
        set = set_said n;
      }

pub pressure : Pressure program
pressure = record {
  lowest = stands_lowest;
  highest = stands_highest;
  between = λ n p q t h. eq_int-same t (pos (8_000 + n)) (subst T (stands_between n p q t) h);
  some = λ t. (number_of t, number_few t, some_number t);
  one = one_number;
  printed = λ s f o h there out room.
      (number s o f h there, number_is s o f h there, (sheet_of (21 ∷ s), demand2.listed (21 ∷ s) out room, shown s o f h there));
  determined = set_lines;
}
