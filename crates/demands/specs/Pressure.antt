-- Pressure at the two ends (02, Ask 1), its sentences quoted above the statements: first of the sets themselves, then of a
-- program, by what its sheets say. `stands n t` (scope: Pressure) is whether the number n can stand for a setting of t tenths
-- of hPa.
use Rattle.std.specs.Prelude.{◌≡◌, ◌≢◌, ◌∷◌, ◌++◌, ◌+◌, ◌≤◌, ◌≤ℤ◌}
use Rattle.demands.specs.Terms.{List, ℕ, T, ℤ, pos, le_z, length, Octets}
use Rattle.demands.specs.Terms.{Record, number_at, IsField, bit_of, handed_out}
use Rattle.demands.specs.Terms.{sheet_of, key_line, text, decimal, signed_decimal, stands}
use Rattle.demands.specs.Demands.{Program}

-- what `tenths` and `sense` together say of a setting of t tenths
pub data Says (tenths : ℤ) : List ℕ → ℤ → Type 0 where
  atmost : {t : ℤ} → t ≤ℤ tenths → Says tenths (text "atmost") t
  atleast : {t : ℤ} → tenths ≤ℤ t → Says tenths (text "atleast") t
  equal : Says tenths (text "equal") tenths

-- they say the set of settings that the number n can stand for
pub record SaysSet (n : ℕ) (tenths : ℤ) (sense : List ℕ) : Type 0 where
  pub stood_for : (t : ℤ) → Says tenths sense t → T (stands (pos n) t)
  pub said : (t : ℤ) → T (stands (pos n) t) → Says tenths sense t

-- a sheet has the number n, and behind it, one behind the other, the two lines that say its set. What stands around them is
-- said by `listed` (Demands), which has every octet of the sheet
pub record OnSheet (sheet : List ℕ) (n : ℕ) : Type 0 where
  pub before : List ℕ
  pub behind : List ℕ
  pub tenths : ℤ
  pub sense : List ℕ
  pub lines : sheet ≡ before ++ (key_line (text "BPS") (decimal n)
      ++ (key_line (text "BPS.tenths") (signed_decimal tenths) ++ (key_line (text "BPS.sense") sense ++ behind)))
  pub set : SaysSet n tenths sense

-- a number from 0 to 4,095, the one that the record of category 21 has for BPS
pub record Number (f : Record) (n : ℕ) : Type 0 where
  pub few : n ≤ 4_095
  pub is : number_at f.numbers 0 ≡ pos n

module _ (p : Program) where
  pub record Pressure : Type 0 where
    -- "BPS 0 means 800 hPa or less, and 4,095 means 1209.5 hPa or more"; between, "BPS is the barometric pressure setting of the
    -- aircraft minus 800 hPa" (003)
    pub lowest : (t : ℤ) → stands (pos 0) t ≡ le_z t (pos 8_000)
    pub highest : (t : ℤ) → stands (pos 4_095) t ≡ le_z (pos 12_095) t
    pub between : (n : ℕ) → n ≢ 0 → n ≢ 4_095 → (t : ℤ) → T (stands (pos n) t) → t ≡ pos (8_000 + n)
    -- so every setting belongs to exactly one number: the sets of two numbers never meet, and none is missing
    pub some : (t : ℤ) → (n : ℕ) × (n ≤ 4_095) × T (stands (pos n) t)
    pub one : (m n : ℕ) (t : ℤ) → m ≤ 4_095 → n ≤ 4_095 → T (stands (pos m) t) → T (stands (pos n) t) → m ≡ n
    -- "After `BPS.tenths` print `BPS.sense` .. The definition of the pressure becomes the set of settings that the number can
    -- stand for": of every field with BPS
    pub printed : (s : List ℕ) (f : Record) → Octets s → IsField 21 s f → bit_of f.items 1 ≡ 1
        → (out : List ℕ) → length (sheet_of (21 ∷ s)) ≤ length out
        → (n : ℕ) × Number f n × ((sheet : List ℕ) × (p.sheet (21 ∷ s) out ≡ handed_out sheet out) × OnSheet sheet n)
    -- and the set determines both lines: no other two say it
    pub determined : (m n : ℕ) (d d' : ℤ) (w w' : List ℕ) → m ≤ 4_095
        → ((t : ℤ) → stands (pos m) t ≡ stands (pos n) t) → SaysSet m d w → SaysSet n d' w' → (d ≡ d') × (w ≡ w')
