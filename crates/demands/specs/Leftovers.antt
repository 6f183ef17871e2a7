-- The exact angle (02, Ask 7), its sentences quoted above the statements: of a program's angles, then of its sheets.
-- `Exact n r l` (Angles) says of r millionths and a leftover l that they are those of the number n.
use Rattle.std.specs.Prelude.{◌≡◌, ◌≢◌, ◌++◌, ◌≤◌}
use Rattle.demands.specs.Terms.{List, [], ℕ, ℤ, pos, neg_ℤ, length, Exact}
use Rattle.demands.specs.Terms.{sheet_of, key_line, text, signed_decimal, handed_out}
use Rattle.demands.specs.Demands.{Program}

-- s stands nowhere in the word; the word does not end in s
abbrev pub Nowhere : List ℕ → List ℕ → Type 0
Nowhere s word = (before behind : List ℕ) → word ≢ before ++ (s ++ behind)

abbrev pub NotLast : List ℕ → List ℕ → Type 0
NotLast s word = (before : List ℕ) → word ≢ before ++ s

-- a line's key ends at its `=` and its value at its line feed, so a text has its lines in one way
pub record LineKey (key : List ℕ) : Type 0 where
  pub in_line : Nowhere (text "\n") key
  pub before_sign : Nowhere (text "=") key

-- the key of a latitude or of a longitude
pub data Coordinate : List ℕ → Type 0 where
  latitude : (item : List ℕ) → Coordinate (item ++ text ".LAT")
  longitude : (item : List ℕ) → Coordinate (item ++ text ".LON")

-- its three lines, under one key: the number, its millionths and what they leave
abbrev pub three_lines : List ℕ → ℤ → ℤ → ℤ → List ℕ
three_lines key n r l = key_line key (signed_decimal n)
    ++ (key_line (key ++ text ".udeg") (signed_decimal r) ++ key_line (key ++ text ".left") (signed_decimal l))

-- a text made of lines: a latitude or a longitude with its `.udeg` and its `.left` behind it, or something else.
-- Which numbers stand on a sheet is said by `listed` (Demands), which has every octet of it
pub data Lines : List ℕ → Type 0 where
  none : Lines []
  angle : {key rest : List ℕ} (n r l : ℤ) → LineKey key → Coordinate key → Exact n r l → Lines rest
      → Lines (three_lines key n r l ++ rest)
  other : {key value rest : List ℕ} → LineKey key → Nowhere (text "\n") value
      → NotLast (text ".LAT") key → NotLast (text ".LON") key → NotLast (text ".udeg") key → NotLast (text ".left") key
      → Lines rest → Lines (key_line key value ++ rest)

module _ (p : Program) where
  pub record Leftovers : Type 0 where
    -- "The angle now comes with its leftover: the number times 703,125 equals the millionths times 32,768 plus the leftover,
    -- which lies from -16,384 to 16,384. Halves still go away from zero", for every number; and no other two are so
    pub exact : (n : ℤ) → Exact n (p.udeg n) (p.left n)
    pub one : (n r l : ℤ) → Exact n r l → (r ≡ p.udeg n) × (l ≡ p.left n)
    -- "so 16,384 leaves -16,384"
    pub half_up : p.left (pos 16_384) ≡ neg_ℤ (pos 16_384)
    pub half_down : p.left (neg_ℤ (pos 16_384)) ≡ pos 16_384
    -- "compares positions across software and loses the last digit": two numbers of which both are the same are one number
    pub number : (m n : ℤ) → p.udeg m ≡ p.udeg n → p.left m ≡ p.left n → m ≡ n
    -- "The sheet gets a line ending `.left` after each `.udeg`, with the same key before it"
    pub lines : (s out : List ℕ) → length (sheet_of s) ≤ length out
        → (sheet : List ℕ) × (p.sheet s out ≡ handed_out sheet out) × Lines sheet
