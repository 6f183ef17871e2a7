-- Reading the sheet back (02, Ask 6), each sentence quoted above its statements. They are of a program, as those of
-- Demands; Terms has the words. What is printed, and how far a text agrees with it, is said of the program's own reading.
use Rattle.std.specs.Prelude.{◌≡◌, ◌≢◌, ◌∷◌, ◌++◌, ◌≤◌, ◌<◌}
use Rattle.demands.specs.Terms.{List, [], ℕ, suc, T, length, take, Octets, len_of}
use Rattle.demands.specs.Terms.{Answer, Accepted, sheet_of, text, Record, IsField, Fault, refused_by, handed_out, are_lines}
use Rattle.demands.specs.Terms as term
use Rattle.demands.specs.Demands.{Program}
use Rattle.demands.specs.Leftovers.{Nowhere}

-- "its category (0 on refusal)": refused by n at line k
abbrev pub refused_at : ℕ → ℕ → List ℕ → ℕ × (Answer × List ℕ)
refused_at n k out = (0, refused_by n k out)

module _ (p : Program) where
  abbrev pub Printed : List ℕ → Type 0
  Printed = term.Printed p.read

  abbrev pub Agrees : List ℕ → ℕ → Type 0
  Agrees = term.Agrees p.read

  abbrev pub IsSheet : List ℕ → ℕ → List ℕ → Type 0
  IsSheet = term.IsSheet p.read

  -- "at which, the value of `len` set aside, no printed sheet could still agree with the lines so far": the first k lines
  -- agree with a printed sheet, and the first k + 1 with none, so that line k + 1 is the wrong one
  pub record FirstWrong (t : List ℕ) (k : ℕ) : Type 0 where
    pub before : Agrees t k
    pub here : Agrees t (suc k) → ⊥

  -- every text is one of these
  pub data Kind (t : List ℕ) : Type 0 where
    too_long : 32_768 < length t → Kind t
    a_sheet : (cat : ℕ) (b : List ℕ) → IsSheet t cat b → Kind t
    but_length : (q : Printed t) → q.len ≢ q.n → Kind t
    wrong_line : length t ≤ 32_768 → (Printed t → ⊥) → (k : ℕ) → FirstWrong t k → Kind t

  pub record Rebuilding : Type 0 where
    -- "Accept exactly the texts that our program prints for an accepted field, and give its category (0 on refusal) and
    -- octets .. then 11"
    pub sheets : (cat : ℕ) (s : List ℕ) (f : Record) → Octets s → IsField cat s f → (out : List ℕ)
        → len_of s ≤ length out → p.rebuild (sheet_of (cat ∷ s)) out ≡ (cat, handed_out (take (len_of s) s) out)
    pub no_room : (cat : ℕ) (s : List ℕ) (f : Record) → Octets s → IsField cat s f → (out : List ℕ)
        → length out < len_of s → p.rebuild (sheet_of (cat ∷ s)) out ≡ refused_at 11 0 out
    -- "Derived lines, as the pressure and the millionths, must agree with the number they come from": what is given
    -- prints as the whole text
    pub only_sheets : (t out : List ℕ) (n : ℕ) → (p.rebuild t out).1.0 ≡ Accepted n
        → IsSheet t (p.rebuild t out).0 (take n (p.rebuild t out).1.1)
    -- "A sheet of a refusal isn't accepted", nor that of an input of no octets
    pub of_fault : (cat : ℕ) (s : List ℕ) (n q : ℕ) → Octets s → Fault cat s n q → (out : List ℕ) (m : ℕ)
        → (p.rebuild (sheet_of (cat ∷ s)) out).1.0 ≢ Accepted m
    pub of_nothing : (out : List ℕ) (m : ℕ) → (p.rebuild (sheet_of []) out).1.0 ≢ Accepted m
    -- "Text beyond 32,768 octets is refused at line 0"
    pub long : (t out : List ℕ) → 32_768 < length t → p.rebuild t out ≡ refused_at 18 0 out
    -- "The `len` line must hold a plain decimal from 2 to 255, and its value is compared only when all other lines
    -- agree .. line 2 if only the length is wrong"
    pub other_length : (t out : List ℕ) (q : Printed t) → q.len ≢ q.n → p.rebuild t out ≡ refused_at 18 2 out
    -- "18 with the number of the first line, from 1", of any other text, and there is one such line
    pub line : (t out : List ℕ) → length t ≤ 32_768 → (Printed t → ⊥) → (k : ℕ) → FirstWrong t k
        → p.rebuild t out ≡ refused_at 18 (suc k) out
    pub one_line : (t : List ℕ) → (Printed t → ⊥) → (j k : ℕ) → FirstWrong t j → FirstWrong t k → j ≡ k
    pub every : (t : List ℕ) → Kind t
    -- "a last line without its line feed is such a line": k whole lines, and what there is of one more
    pub no_feed : (k : ℕ) (lines : List ℕ) (o : ℕ) (rest out : List ℕ) → T (are_lines k lines)
        → Nowhere (text "\n") (o ∷ rest) → Agrees (lines ++ (o ∷ rest)) k → length (lines ++ (o ∷ rest)) ≤ 32_768
        → p.rebuild (lines ++ (o ∷ rest)) out ≡ refused_at 18 (suc k) out
    -- "the line after the last if the text merely stops early": with what is missing it would be a sheet; and behind a sheet
    -- nothing follows
    pub stops : (k : ℕ) (lines rest : List ℕ) (o : ℕ) (missing out : List ℕ) → T (are_lines k lines)
        → Nowhere (text "\n") rest → Printed ((lines ++ rest) ++ (o ∷ missing))
        → p.rebuild (lines ++ rest) out ≡ refused_at 18 (suc k) out
    pub goes_on : (k : ℕ) (lines : List ℕ) (o : ℕ) (more out : List ℕ) → T (are_lines k lines) → Printed lines
        → length (lines ++ (o ∷ more)) ≤ 32_768 → p.rebuild (lines ++ (o ∷ more)) out ≡ refused_at 18 (suc k) out
