-- Reading the sheet back (02, Ask 6): which texts our program prints, the value of `len` set aside; how many lines of a text agree with one of them; and what
-- the answer to a text is. `read` is the reading of fields, 01's or a program's.
use Rattle.std.specs.Prelude.{◌≡◌, Bool, true, false, List, [], ◌∷◌, ◌++◌, ℕ, zero, suc, ◌≤◌, ◌<◌, T, eqb, length}
use Rattle.codec.specs.Pick.{pick}
use Rattle.codec.specs.Codec.{Octets}
use Rattle.codec.specs.Frame.{Outcome, accepted, refused}
use Rattle.papers.specs.Names.{text}
use Rattle.layout.specs.Answer.{Reading, Accepted}
use Rattle.scope.specs.Sheet.{key_line, decimal, sheet_of}

-- ---- lines

-- k lines, each with its line feed, and nothing behind the last
unfoldable pub are_lines : ℕ → List ℕ → Bool
are_lines zero [] = true
are_lines zero (o ∷ p) = false
are_lines (suc k) [] = false
are_lines (suc k) (o ∷ p) = pick (eqb o 10) (are_lines k p) (are_lines (suc k) p)

-- the first k lines of both are whole, and are the same: neither "a last line without its line feed" nor the line before which a text "merely stops early" is
-- among them
pub record Shared (k : ℕ) (s t : List ℕ) : Type 0 where
  pub front : List ℕ
  pub lines_are : T (are_lines k front)
  pub rest : List ℕ
  pub behind : List ℕ
  pub one_is : s ≡ front ++ rest
  pub other_is : t ≡ front ++ behind

module _ (read : ℕ → List ℕ → Reading) where
  -- "the texts that our program prints for an accepted field", of n octets, "the value of `len` set aside": "a plain decimal from 2 to 255"
  pub record Printed (s : List ℕ) : Type 0 where
    pub cat : ℕ
    pub field : List ℕ
    pub are_all_octets : Octets field
    pub n : ℕ
    pub accepted_is : (read cat field).answer ≡ Accepted n
    pub len : ℕ
    pub least : 2 ≤ len
    pub most : len ≤ 255
    pub others : List ℕ
    pub sheet_is : sheet_of (cat ∷ field) ≡ key_line (text "cat") (decimal cat) ++ (key_line (text "len") (decimal n) ++ others)
    pub text_is : s ≡ key_line (text "cat") (decimal cat) ++ (key_line (text "len") (decimal len) ++ others)

  -- the first k lines of a text agree with a printed sheet
  pub record Agrees (t : List ℕ) (k : ℕ) : Type 0 where
    pub sheet : List ℕ
    pub printed : Printed sheet
    pub shared : Shared k sheet t

  -- the text is the sheet of an accepted field, which has the octets b and no more
  pub record IsSheet (t : List ℕ) (cat : ℕ) (b : List ℕ) : Type 0 where
    pub are_all_octets : Octets b
    pub accepted_is : (read cat b).answer ≡ Accepted (length b)
    pub sheet_is : sheet_of (cat ∷ b) ≡ t

  -- "Text beyond 32,768 octets is refused at line 0"; "18 with the number of the first line, from 1, at which, the value of `len` set aside, no printed
  -- sheet could still agree with the lines so far", of a text that is no printed sheet, since of one every line agrees and nothing follows the last; "line 2 if
  -- only the length is wrong; then 11"
  pub data Refusal (t : List ℕ) (room : ℕ) : ℕ → ℕ → Type 0 where
    long : 32_768 < length t → Refusal t room 18 0
    line_wrong : length t ≤ 32_768 → (Printed t → ⊥) → (k : ℕ) → Agrees t k → (Agrees t (suc k) → ⊥) → Refusal t room 18 (suc k)
    length_wrong : (p : Printed t) → (p.len ≡ p.n → ⊥) → Refusal t room 18 2
    no_room : (cat : ℕ) (b : List ℕ) → IsSheet t cat b → room < length b → Refusal t room 11 0

  -- "Accept exactly the texts that our program prints for an accepted field, and give its category .. and octets"
  unfoldable pub Right : List ℕ → ℕ → Outcome (ℕ × List ℕ) → Type 0
  Right t room (accepted x) = IsSheet t x.0 x.1 × (length x.1 ≤ room)
  Right t room (refused n k) = Refusal t room n k

-- "give its category (0 on refusal) and octets"
unfoldable pub category_given : Outcome (ℕ × List ℕ) → ℕ
category_given (accepted x) = x.0
category_given (refused n k) = 0

unfoldable pub octets_given : Outcome (ℕ × List ℕ) → Outcome (List ℕ)
octets_given (accepted x) = accepted x.1
octets_given (refused n k) = refused n k
