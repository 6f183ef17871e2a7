-- The taking of numbers: what the slots hold after it, where the reading of the octets found something.
use Rattle.std.specs.Prelude.{◌≡◌, Option, Some, None, Bool, true, false, List, ◌∷◌, ◌++◌, ℕ, ◌+◌, ◌-◌, ◌≤◌, T, ℤ, length, replicate}
use Rattle.std.proofs.lemmas.List.Edits.{sets}
use Rattle.codec.specs.Pick.{pick}
use Rattle.codec.specs.Codec.{Res, got, bad, opt}
use Rattle.codec.specs.Line.{Held, line}
use Rattle.codec.specs.Item.{slots, nothing, item}
use Rattle.papers.specs.Papers.{SLOTS}
use Rattle.layout.specs.Record.{all_parts, all_numbers}
use Rattle.lengths.specs.Lines.{line_at, count_at}
use Rattle.shapes.specs.Shapes.{item_at}
use Rattle.reader.specs.Steps.{run}
use Rattle.reader.specs.Slots.{Ready}
use Rattle.reader.specs.Rows.{Found, row_from}
use Rattle.reader.specs.Seen.{goes_on}

abbrev pub is_got : {A : Type 0} → Res A → Bool
is_got (got a n) = true
is_got (bad e p) = false

-- where an item begins, if it is there
abbrev pub start_of : Bool → ℕ → Option ℕ
start_of true at = Some at
start_of false at = None

abbrev pub is_there : Option ℕ → Bool
is_there (Some at) = true
is_there None = false

abbrev pub place : Option ℕ → ℕ
place (Some at) = at
place None = 0

-- one of the items that some paper has, if it is there, from a place on
unfoldable pub opt_run : ℕ → Bool → List ℕ → ℕ → Res Held
opt_run k there xs at = run (opt (nothing (slots (item_at k))) there (item (item_at k))).read xs at

-- an item that is one line, if it is there
unfoldable pub line_opt : ℕ → Bool → List ℕ → ℕ → Res Held
line_opt b there xs at = run (opt (nothing (count_at b)) there (line (line_at b))).read xs at

-- a line: the next place, whatever was found, and its numbers in their slots
pub record LineTaken (l : List ℤ) (slot : ℕ) (x : Res Held) (next r : ℕ) (m : List ℤ) : Type 0 where
  pub long : length m ≡ length l
  pub at_next : r ≡ next
  pub kept : (v : Held) (n : ℕ) → x ≡ got v n → m ≡ sets l slot v.1

-- l are the slots before, m those after; from base on they were zeros
pub record Taken (l : List ℤ) (base : ℕ) (x : Res Held) (m : List ℤ) : Type 0 where
  pub long : length m ≡ length l
  pub kept : Ready l base → (v : Held) (n : ℕ) → x ≡ got v n → m ≡ sets l base v.1

-- line b, if t says that it is there, from place a on: r is the next place
pub record OptTaken (l : List ℤ) (slot b : ℕ) (t : Bool) (xs : List ℕ) (a r : ℕ) (m : List ℤ) : Type 0 where
  pub taken : Taken l slot (line_opt b t xs a) m
  pub sized : length m ≡ SLOTS
  pub at_next : r ≡ a + pick t (line_at b).octets 0

-- parts of one octet that follow from place a on end within the octets
pub record Stops (xs : List ℕ) (a : ℕ) : Type 0 where
  pub some : 1 ≤ a
  pub end : ℕ
  pub ahead : a ≤ end
  pub within : end ≤ length xs
  pub over : goes_on xs end ≡ false

-- and r is the count of its parts
pub record ItemTaken (l : List ℤ) (base : ℕ) (x : Res Held) (r : ℕ) (m : List ℤ) : Type 0 where
  pub taken : Taken l base x m
  pub parts : (v : Held) (n : ℕ) → x ≡ got v n → r ≡ v.0

-- a row of n items: the parts of each, zeros behind the last, and the numbers of all
pub record RowTaken (l : List ℤ) (n : ℕ) (x : Res Found) (r : List ℕ) (m : List ℤ) : Type 0 where
  pub long : length m ≡ length l
  pub parts : (f : Found) (e : ℕ) → x ≡ got f e → r ≡ all_parts f.0 ++ replicate (8 - n) 0
  pub kept : Ready l 0 → (f : Found) (e : ℕ) → x ≡ got f e → m ≡ sets l 0 (all_numbers f.0)

-- the row is there, and the items begin at these places
pub record RowFits (k n : ℕ) (ds xs starts : List ℕ) : Type 0 where
  pub there : T (is_got (row_from k n ds xs 2))
  pub starts_are : (f : Found) (e : ℕ) → row_from k n ds xs 2 ≡ got f e → starts ≡ (2 ∷ f.1) ++ replicate (8 - n) 0
