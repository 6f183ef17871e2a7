-- What is wrong with octets that are no field of a paper, and where: the first check that fails, in the order of 01,
-- 'Numbers of refusal'. At each level the octets from a place on fail by a number, at so many octets behind that
-- place. What stands before the fault is right, as Meaning says it: no codec.
use Rattle.std.specs.Prelude.{◌≡◌, List, [], ◌∷◌, ◌++◌, ℕ, suc, ◌+◌, ◌-◌, ◌≤◌, ◌<◌, ℤ, pos, length, take}
use Prim.Native.String.{String}
use Rattle.codec.specs.Printed.{Structure, Entry, compound, fixed, number_names}
use Rattle.codec.specs.Meaning.{big_endian, bits_of, Clear, Within, IsLine, fx_bit, IsChain, flag_of, IsItem}
use Rattle.codec.specs.Meaning.{AreItems, len_of}

-- ---- a chain part or a subfield: "not wholly before LEN", a spare bit set, out of range

abbrev pub front_of : Structure → List ℕ → ℕ
front_of s xs = big_endian (take s.octets xs)

pub data LineFault (s : Structure) (xs : List ℕ) : ℕ → Type 0 where
  not_whole : length xs < s.octets → LineFault s xs 5
  spare_set : s.octets ≤ length xs → (Clear (front_of s xs) s.runs → ⊥) → LineFault s xs 6
  out_of_range : s.octets ≤ length xs → Clear (front_of s xs) s.runs → (Within (front_of s xs) s.runs → ⊥)
      → LineFault s xs 8

-- ---- "the chain parts come first, each tried for 5, 6, 7 in that order": FX set in the last part that the edition
-- defines is 7

pub data ChainFault : List Structure → List ℕ → ℕ → ℕ → Type 0 where
  at_part : {p : Structure} {ps : List Structure} {xs : List ℕ} {n : ℕ} → LineFault p xs n
      → ChainFault (p ∷ ps) xs n 0
  no_further : {p : Structure} {os : List ℕ} {zs : List ℤ} (rest : List ℕ) → IsLine p os zs → fx_bit os ≡ 1
      → ChainFault (p ∷ []) (os ++ rest) 7 0
  behind_part : {p : Structure} {ps : List Structure} {os rest : List ℕ} {zs : List ℤ} {n k : ℕ} → IsLine p os zs
      → fx_bit os ≡ 1 → ChainFault ps rest n k
      → ChainFault (p ∷ ps) (os ++ rest) n (length os + k)

-- ---- "then the subfields, each tried for 5, 6, 8"

pub data SubfieldFault (names : List String) (bits : List ℤ) : List Structure → List ℕ → ℕ → ℕ → Type 0 where
  at_subfield : {s : Structure} {ss : List Structure} {xs : List ℕ} {n : ℕ} → flag_of names bits s ≡ pos 1
      → LineFault s xs n → SubfieldFault names bits (s ∷ ss) xs n 0
  behind_subfield : {s : Structure} {ss : List Structure} {os rest : List ℕ} {zs : List ℤ} {n k : ℕ}
      → flag_of names bits s ≡ pos 1 → IsLine s os zs
      → SubfieldFault names bits ss rest n k → SubfieldFault names bits (s ∷ ss) (os ++ rest) n (length os + k)
  no_subfield : {s : Structure} {ss : List Structure} {xs : List ℕ} {n k : ℕ} → (flag_of names bits s ≡ pos 1 → ⊥)
      → SubfieldFault names bits ss xs n k
      → SubfieldFault names bits (s ∷ ss) xs n k

-- ---- an item: "An item without a chain is one subfield"

pub data ItemFault : Entry → List ℕ → ℕ → ℕ → Type 0 where
  in_chain : {name : String} {p : Structure} {qs ss : List Structure} {xs : List ℕ} {n k : ℕ}
      → ChainFault (p ∷ qs) xs n k → ItemFault (compound name p qs ss) xs n k
  in_subfields : {name : String} {p : Structure} {qs ss : List Structure} {os rest : List ℕ} {m : ℕ} {zs : List ℤ}
      {n k : ℕ} → IsChain (p ∷ qs) os m zs
      → SubfieldFault (number_names (p ∷ qs)) zs ss rest n k
      → ItemFault (compound name p qs ss) (os ++ rest) n (length os + k)
  in_fixed : {s : Structure} {xs : List ℕ} {n : ℕ} → LineFault s xs n → ItemFault (fixed s) xs n 0

-- ---- "the items in order"

pub data ItemsFault (indicator : ℕ) : ℕ → List Entry → List ℕ → ℕ → ℕ → Type 0 where
  at_item : {b : ℕ} {e : Entry} {es : List Entry} {xs : List ℕ} {n k : ℕ} → bits_of indicator (suc b) (suc b) ≡ 1
      → ItemFault e xs n k → ItemsFault indicator (suc b) (e ∷ es) xs n k
  behind_item : {b : ℕ} {e : Entry} {es : List Entry} {os rest : List ℕ} {m : ℕ} {zs : List ℤ} {n k : ℕ}
      → bits_of indicator (suc b) (suc b) ≡ 1 → IsItem e os m zs
      → ItemsFault indicator b es rest n k → ItemsFault indicator (suc b) (e ∷ es) (os ++ rest) n (length os + k)
  no_item : {b : ℕ} {e : Entry} {es : List Entry} {xs : List ℕ} {n k : ℕ} → bits_of indicator (suc b) (suc b) ≡ 0
      → ItemsFault indicator b es xs n k
      → ItemsFault indicator (suc b) (e ∷ es) xs n k

-- ---- a field: "2 for an empty slice; 3; 2 for a short one; 4; then the items in order; then 9"

-- the first LEN octets are there: LEN, the indicator and the rest
pub record Opens (s : List ℕ) (indicator : ℕ) (rest : List ℕ) : Type 0 where
  pub octets : take (len_of s) s ≡ len_of s ∷ indicator ∷ rest
  pub long : len_of s ≡ 2 + length rest

pub data FieldFault (paper : List Entry) : List ℕ → ℕ → ℕ → Type 0 where
  empty : FieldFault paper [] 2 0
  small : {len : ℕ} {t : List ℕ} → len < 2 → FieldFault paper (len ∷ t) 3 0
  short : {len : ℕ} {t : List ℕ} → 2 ≤ len → length (len ∷ t) < len → FieldFault paper (len ∷ t) 2 0
  indicator_spare : {s rest : List ℕ} {indicator : ℕ} → Opens s indicator rest
      → (bits_of indicator (8 - length paper) 1 ≡ 0 → ⊥) → FieldFault paper s 4 1
  at_items : {s rest : List ℕ} {indicator n k : ℕ} → Opens s indicator rest
      → bits_of indicator (8 - length paper) 1 ≡ 0 → ItemsFault indicator 8 paper rest n k
      → FieldFault paper s n (2 + k)
  octets_left : {s os : List ℕ} {indicator : ℕ} {vs : List (ℕ × List ℤ)} (rest : List ℕ)
      → Opens s indicator (os ++ rest) → bits_of indicator (8 - length paper) 1 ≡ 0
      → AreItems indicator 8 paper os vs → 1 ≤ length rest → FieldFault paper s 9 (2 + length os)
