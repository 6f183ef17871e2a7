-- What a field of a paper is, said of its octets and of the bits as the paper numbers them: no codec, no order of
-- checks. A relation at each level: these octets are such a line, chain, item, field, and these are its numbers.
use Rattle.std.specs.Prelude.{◌≡◌, List, [], ◌∷◌, ◌++◌, ℕ, suc, ◌+◌, ◌-◌, ◌*◌, ◌^◌, ◌/◌, ◌%◌, T, ℤ, pos, ◌-ℤ◌, length, get_or, replicate}
use Prim.Native.String.{String}
use Rattle.std.specs.Int.Signed.{le_z}
use Rattle.codec.specs.Printed.{Kind, plain, signed, limited, Run, spares, number, Structure, Entry, compound}
use Rattle.codec.specs.Printed.{fixed, index_of, number_names}

-- ---- bits and numbers

-- "Numbers have their high octet first"
unfoldable pub big_endian : List ℕ → ℕ
big_endian [] = 0
big_endian (o ∷ os) = o * 2 ^ (8 * length os) + big_endian os

-- bits hi/lo of a number; bit 1 is the lowest
unfoldable pub bits_of : ℕ → ℕ → ℕ → ℕ
bits_of n hi lo = n / 2 ^ (lo - 1) % 2 ^ (suc hi - lo)

-- two's complement of w bits: where the highest bit is 1 the number is 2 ^ w less
unfoldable pub twos : ℕ → ℕ → ℤ
twos w d = pos d -ℤ pos (2 ^ w * (d / 2 ^ (w - 1)))

-- the number that w bits stand for
unfoldable pub meant : Kind → ℕ → ℕ → ℤ
meant plain w d = pos d
meant signed w d = twos w d
meant (limited least most) w d = twos w d

abbrev pub value_of : ℕ → Kind → ℕ → ℕ → ℤ
value_of n k hi lo = meant k (suc hi - lo) (bits_of n hi lo)

-- ---- a line: a part, a subfield or a fixed item. n is its octets as one number

-- spare bits are 0
unfoldable pub Clear : ℕ → List Run → Type 0
Clear n [] = Unit {0}
Clear n (spares hi lo ∷ rs) = (bits_of n hi lo ≡ 0) × Clear n rs
Clear n (number k hi lo q ∷ rs) = Clear n rs

-- a number with limits is within them
abbrev pub Inside : Kind → ℤ → Type 0
Inside plain z = Unit {0}
Inside signed z = Unit {0}
Inside (limited least most) z = T (le_z least z) × T (le_z z most)

unfoldable pub Within : ℕ → List Run → Type 0
Within n [] = Unit {0}
Within n (spares hi lo ∷ rs) = Within n rs
Within n (number k hi lo q ∷ rs) = Inside k (value_of n k hi lo) × Within n rs

-- one number for each run that is not spare
unfoldable pub numbers_of : ℕ → List Run → List ℤ
numbers_of n [] = []
numbers_of n (spares hi lo ∷ rs) = numbers_of n rs
numbers_of n (number k hi lo q ∷ rs) = value_of n k hi lo ∷ numbers_of n rs

pub record IsLine (s : Structure) (os : List ℕ) (zs : List ℤ) : Type 0 where
  pub long : length os ≡ s.octets
  pub clear : Clear (big_endian os) s.runs
  pub within : Within (big_endian os) s.runs
  pub numbers : zs ≡ numbers_of (big_endian os) s.runs

-- what is absent has zeros
abbrev pub zeros_for : List Structure → List ℤ
zeros_for ss = replicate (length (number_names ss)) (pos 0)

-- ---- a chain: "one part, followed, where its FX bit is 1, by the rest of the chain". How many parts are there, and
-- the numbers of all that are defined

abbrev pub fx_bit : List ℕ → ℕ
fx_bit os = bits_of (big_endian os) 1 1

pub data IsChain : List Structure → List ℕ → ℕ → List ℤ → Type 0 where
  last : {p : Structure} {ps : List Structure} {os : List ℕ} {zs : List ℤ} → IsLine p os zs → fx_bit os ≡ 0
      → IsChain (p ∷ ps) os 1 (zs ++ zeros_for ps)
  more : {p : Structure} {ps : List Structure} {os rest : List ℕ} {n : ℕ} {zs ys : List ℤ} → IsLine p os zs
      → fx_bit os ≡ 1 → IsChain ps rest n ys
      → IsChain (p ∷ ps) (os ++ rest) (suc n) (zs ++ ys)

-- ---- the subfields: exactly those are there whose bit in the primary subfield is 1. names and bits are those of the
-- primary subfield

abbrev pub flag_of : List String → List ℤ → Structure → ℤ
flag_of names bits s = get_or bits (index_of s.name names) (pos 0)

pub data AreSubfields (names : List String) (bits : List ℤ) : List Structure → List ℕ → List ℤ → Type 0 where
  none : AreSubfields names bits [] [] []
  there : {s : Structure} {ss : List Structure} {os rest : List ℕ} {zs ys : List ℤ} → flag_of names bits s ≡ pos 1
      → IsLine s os zs → AreSubfields names bits ss rest ys
      → AreSubfields names bits (s ∷ ss) (os ++ rest) (zs ++ ys)
  absent : {s : Structure} {ss : List Structure} {rest : List ℕ} {ys : List ℤ} → (flag_of names bits s ≡ pos 1 → ⊥)
      → AreSubfields names bits ss rest ys
      → AreSubfields names bits (s ∷ ss) rest (zeros_for (s ∷ []) ++ ys)

-- ---- an item: its octets, the parts of its chain, its numbers

pub data IsItem : Entry → List ℕ → ℕ → List ℤ → Type 0 where
  is_compound : {name : String} {p : Structure} {qs ss : List Structure} {os rest : List ℕ} {n : ℕ} {zs ys : List ℤ}
      → IsChain (p ∷ qs) os n zs
      → AreSubfields (number_names (p ∷ qs)) zs ss rest ys → IsItem (compound name p qs ss) (os ++ rest) n (zs ++ ys)
  is_fixed : {s : Structure} {os : List ℕ} {zs : List ℤ} → IsLine s os zs → IsItem (fixed s) os 0 zs

abbrev pub zeros_in : Entry → List ℤ
zeros_in (compound name p qs ss) = zeros_for (p ∷ qs) ++ zeros_for ss
zeros_in (fixed s) = zeros_for (s ∷ [])

-- ---- the items behind each other, "in the order of their indicator bits, bit 8 first": the highest bit that is
-- looked at is that of the first item

pub data AreItems (indicator : ℕ) : ℕ → List Entry → List ℕ → List (ℕ × List ℤ) → Type 0 where
  end : {b : ℕ} → AreItems indicator b [] [] []
  item : {b : ℕ} {e : Entry} {es : List Entry} {os rest : List ℕ} {n : ℕ} {zs : List ℤ} {vs : List (ℕ × List ℤ)}
      → bits_of indicator (suc b) (suc b) ≡ 1 → IsItem e os n zs
      → AreItems indicator b es rest vs → AreItems indicator (suc b) (e ∷ es) (os ++ rest) ((n, zs) ∷ vs)
  no_item : {b : ℕ} {e : Entry} {es : List Entry} {rest : List ℕ} {vs : List (ℕ × List ℤ)}
      → bits_of indicator (suc b) (suc b) ≡ 0
      → AreItems indicator b es rest vs → AreItems indicator (suc b) (e ∷ es) rest ((0, zeros_in e) ∷ vs)

-- ---- a field. LEN, 0 where there is none

unfoldable pub len_of : List ℕ → ℕ
len_of [] = 0
len_of (len ∷ t) = len

-- LEN is its length, spare bits of the indicator are 0, and the rest is the items. held: the indicator, and the parts
-- and numbers of each item
pub record HasLayout (paper : List Entry) (field : List ℕ) (held : ℕ × List (ℕ × List ℤ)) : Type 0 where
  pub rest : List ℕ
  pub octets : field ≡ length field ∷ held.0 ∷ rest
  pub spare : bits_of held.0 (8 - length paper) 1 ≡ 0
  pub items : AreItems held.0 8 paper rest held.1
