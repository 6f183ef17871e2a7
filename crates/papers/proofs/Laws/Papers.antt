-- What holds of every paper, by computed tests.
use Rattle.std.specs.Prelude.{◌≡◌, Bool, true, false, ◌&&◌, List, [], ℕ, ◌-◌, ◌^◌, ◌/◌, ◌≤◌, ◌<◌, T, eqb, leb, length, drop}
use Rattle.std.proofs.Math.Path.{refl}
use Rattle.std.proofs.Common.{ap, ◌∙◌, subst, arith, leb→le}
use Rattle.std.proofs.Math.Nat.{mod-one}
use Rattle.std.specs.Int.Bits.{bit_and}
use Rattle.std.proofs.lemmas.Nat.{and_mask}
use borrow.Author.Tests.{ne_eqb}
use Rattle.codec.specs.Pick.{pick}
use Rattle.codec.specs.Line.{count}
use Rattle.codec.specs.Item.{Item, slots_of, slots, octets_of, longest_item}
use Rattle.codec.specs.Field.{no_spare, good_items, longest_row, longest}
use Rattle.codec.specs.Printed.{Structure, Entry, run_names, adjacent, right_all, same_names, right_flags, right_entry, right, entry_names}
use Rattle.codec.specs.Mask.{spares_of}
use Rattle.codec.specs.Made.{made}
use Rattle.codec.specs.Meaning.{bits_of, Clear}
use Rattle.codec.proofs.Laws.Alone.{least_item, some_octets}
use Rattle.codec.proofs.Laws.Flags.{spare_bits}
use Rattle.codec.proofs.Laws.Meaning.{right_good}
use Rattle.papers.specs.Cat048.{indicator048, printed048, cat048}
use Rattle.papers.specs.Cat021.{indicator021, printed021, cat021}
use Rattle.papers.specs.Cat007.{indicator007, printed007, cat007}
use Rattle.papers.specs.Papers.{LONGEST, known, paper_of, printed_of, no_indicator, indicator_of, spare_of, items_of, longest_of, SLOTS, all_slots}

-- a fact of each paper, and of no paper, is a fact of every category's: of its indicator, its entries and its items
by_category : (P : Structure → List Entry → List Item → Type 0) → P indicator048 printed048 cat048 → P indicator021 printed021 cat021 → P indicator007 printed007 cat007 → P no_indicator [] [] → (cat : ℕ) → P (indicator_of cat) (printed_of cat) (paper_of cat)
unfolding indicator_of printed_of paper_of
by_category P a b c d cat = go (eqb cat 48) (eqb cat 21) (eqb cat 7)
  where
    go : (x y z : Bool) → P (pick x indicator048 (pick y indicator021 (pick z indicator007 no_indicator))) (pick x printed048 (pick y printed021 (pick z printed007 []))) (pick x cat048 (pick y cat021 (pick z cat007 [])))
    go true y z = a
    go false true z = b
    go false false true = c
    go false false false = d

pub by_paper : (P : List Item → Type 0) → P cat048 → P cat021 → P cat007 → P [] → (cat : ℕ) → P (paper_of cat)
by_paper P a b c d cat = by_category (λ s es its. P its) a b c d cat

pub by_printed : (P : List Entry → Type 0) → P printed048 → P printed021 → P printed007 → P [] → (cat : ℕ) → P (printed_of cat)
by_printed P a b c d cat = by_category (λ s es its. P es) a b c d cat

-- each paper is made from what is printed
pub made_paper : (cat : ℕ) → made (printed_of cat) ≡ paper_of cat
unfolding cat048 cat021 cat007
made_paper cat = by_category (λ s es its. made es ≡ its) refl refl refl refl cat

-- the runs of every structure follow each other from its highest bit down, and the bits of a primary subfield have the names of the subfields
pub right_paper : (cat : ℕ) → T (right (printed_of cat))
unfolding right right_entry right_all right_flags adjacent printed048 printed021 printed007
right_paper cat = by_printed (λ es. T (right es)) tt tt tt tt cat

-- so every line fills its octets
pub good_paper : (cat : ℕ) → T (good_items (paper_of cat))
good_paper cat = subst (λ its. T (good_items its)) (made_paper cat) (right_good (printed_of cat) (right_paper cat))

pub few_printed : (cat : ℕ) → length (printed_of cat) ≤ 8
unfolding printed048 printed021 printed007
few_printed cat = leb→le (length (printed_of cat)) 8 (by_printed (λ es. T (leb (length es) 8)) tt tt tt tt cat)

-- at most eight items, 77 numbers, 52 octets
pub few_items : (cat : ℕ) → items_of cat ≤ 8
unfolding cat048 cat021 cat007
few_items cat = leb→le (items_of cat) 8 (by_paper (λ its. T (leb (length its) 8)) tt tt tt tt cat)

pub few_slots : (cat : ℕ) → all_slots (paper_of cat) ≤ SLOTS
unfolding all_slots slots slots_of count cat048 cat021 cat007
few_slots cat = leb→le (all_slots (paper_of cat)) SLOTS (by_paper (λ its. T (leb (all_slots its) SLOTS)) tt tt tt tt cat)

pub few_octets : (cat : ℕ) → longest_of cat ≤ LONGEST
unfolding longest longest_row longest_item octets_of cat048 cat021 cat007
few_octets cat = leb→le (longest_of cat) LONGEST (by_paper (λ its. T (leb (longest its) LONGEST)) tt tt tt tt cat)

-- every item has an octet at least
pub some_octets_lem : (cat : ℕ) → T (some_octets (paper_of cat))
unfolding some_octets least_item cat048 cat021 cat007
some_octets_lem cat = by_paper (λ its. T (some_octets its)) tt tt tt tt cat

-- ---- the indicator

-- its runs follow each other, and its bits have the names of the items in their order
pub right_indicator : (cat : ℕ) → T (adjacent 8 0 (indicator_of cat).runs && same_names (run_names (indicator_of cat).runs) (entry_names (printed_of cat)))
unfolding adjacent printed048 printed021 printed007
right_indicator cat = by_category (λ s es its. T (adjacent 8 0 s.runs && same_names (run_names s.runs) (entry_names es))) tt tt tt tt cat

-- its spare places are those behind the last item
pub spare_behind : (cat : ℕ) → spare_of cat ≡ 2 ^ (8 - items_of cat) - 1
unfolding spares_of cat048 cat021 cat007
spare_behind cat = by_category (λ s es its. spares_of s.runs ≡ 2 ^ (8 - length its) - 1) refl refl refl refl cat

-- and those that are 0 in a field of the paper (codec: Meaning, HasLayout)
pub spare_meant : (cat ind : ℕ) → (Clear ind (indicator_of cat).runs → bits_of ind (8 - length (printed_of cat)) 1 ≡ 0) × (bits_of ind (8 - length (printed_of cat)) 1 ≡ 0 → Clear ind (indicator_of cat).runs)
unfolding Clear bits_of printed048 printed021 printed007
spare_meant cat ind =
    by_category (λ s es its. (Clear ind s.runs → bits_of ind (8 - length es) 1 ≡ 0) × (bits_of ind (8 - length es) 1 ≡ 0 → Clear ind s.runs))
    (λ q. q.0, λ e. (e, tt)) (λ q. mod-one (ind / 2 ^ 0), λ e. tt) (λ q. q.0, λ e. (e, tt)) (λ q. q.0, λ e. (e, tt)) cat

-- so one comparison with its mask is the test of every spare place
pub spare_places : (cat ind : ℕ) → ind < 256 → eqb (bit_and ind (spare_of cat)) 0 ≡ no_spare (paper_of cat) ind
spare_places cat ind h =
    let few : items_of cat ≤ 8 = few_items cat in
    ap (λ m. eqb (bit_and ind m) 0) (spare_behind cat) ∙ ap (λ m. eqb m 0) (and_mask ind (8 - items_of cat)) ∙ spare_bits ind (items_of cat) h (omega arith)

-- documents 000 and 004 lay out M5N, M4E, RPC and ERR alike
pub items_shared : drop 1 cat007 ≡ drop 1 cat048
unfolding cat048 cat007
items_shared = refl

-- ---- the paper of each category

module _ (cat : ℕ) where
  pub paper_048 : cat ≡ 48 → (paper_of cat ≡ cat048) × (known cat ≡ true)
  unfolding paper_of known
  paper_048 e = (rw e, rw e)

  pub paper_021 : cat ≡ 21 → (paper_of cat ≡ cat021) × (known cat ≡ true)
  unfolding paper_of known
  paper_021 e = (rw e, rw e)

  pub paper_007 : cat ≡ 7 → (paper_of cat ≡ cat007) × (known cat ≡ true)
  unfolding paper_of known
  paper_007 e = (rw e, rw e)

  pub paper_none : (cat ≡ 48 → ⊥) → (cat ≡ 21 → ⊥) → (cat ≡ 7 → ⊥) → (paper_of cat ≡ []) × (known cat ≡ false)
  unfolding paper_of known
  paper_none a b c =
      (rw (ne_eqb cat 48 a, ne_eqb cat 21 b, ne_eqb cat 7 c) refl, rw (ne_eqb cat 48 a, ne_eqb cat 21 b, ne_eqb cat 7 c) refl)

-- the three numbers of each category
pub numbers_048 : (length cat048 ≡ 5) × (longest cat048 ≡ 52)
unfolding longest longest_row longest_item octets_of cat048
numbers_048 = (refl, refl)

pub numbers_021 : (length cat021 ≡ 8) × (longest cat021 ≡ 31)
unfolding longest longest_row longest_item octets_of cat021
numbers_021 = (refl, refl)

pub numbers_007 : (length cat007 ≡ 5) × (longest cat007 ≡ 38)
unfolding longest longest_row longest_item octets_of cat007
numbers_007 = (refl, refl)

pub numbers_none : (length {A = Item} [] ≡ 0) × (longest [] ≡ 2)
unfolding longest longest_row
numbers_none = (refl, refl)
