-- The form of a request is data (docs/PROTOCOL.md): its name and the kinds of its words. One definition judges every line by it.
use Rattle.std.specs.Prelude.{Bool, false, Option, List, [], ◌∷◌, ◌++◌, ℕ, ◌+◌, ltb, eqb, length, drop, replicate}
use Rattle.std.specs.Bool.{then_some}
use Rattle.codec.specs.Pick.{pick}
use Rattle.papers.specs.Names.{text}
use Rattle.papers.specs.Papers.{SLOTS}
use Rattle.words.specs.Numbers.{is_number, is_signed}
use Rattle.hex_words.specs.Octets.{is_octets, is_list}
use Rattle.protocol.specs.Line.{words_of, nth, same, places_from}

-- the kinds of words, each by a letter
unfoldable pub fits : ℕ → List ℕ → Bool
fits kind w =
    pick (eqb kind 67) (is_number 255 w)  -- C  CAT
    (pick (eqb kind 79) (is_octets w)  -- O  octets: FIELD, NEW, TEXT, ..
    (pick (eqb kind 76) (is_list w)  -- L  LIST, WITHHELD: two hex digits
    (pick (eqb kind 73) (is_number 255 w)  -- I  ITEM
    (pick (eqb kind 82) (is_number 300 w)  -- R  ROOM
    (pick (eqb kind 66) (is_number 255 w)  -- B  ITEMS, the parts, COUNT
    (pick (eqb kind 72) (is_number 65_535 w)  -- H  HELD
    (pick (eqb kind 83) (is_signed w)  -- S  a number of the record
    false)))))))

-- a request: its name, and the kinds of the words behind it
pub record Form : Type 0 where
  pub name : List ℕ
  pub kinds : List ℕ

-- a record is a run of words: CAT, ITEMS, 8 parts, the numbers
abbrev pub record_kinds : List ℕ
record_kinds = text "CB" ++ (replicate 8 66 ++ replicate SLOTS 83)

unfoldable pub forms : List Form
forms =
    record { name = text "read"; kinds = text "CO" }  -- 0
    ∷ record { name = text "write"; kinds = text "R" ++ record_kinds }  -- 1
    ∷ record { name = text "sheet"; kinds = text "CO" }  -- 2
    ∷ record { name = text "view"; kinds = text "COI" }  -- 3
    ∷ record { name = text "choose"; kinds = text "COOI" }  -- 4
    ∷ record { name = text "remove"; kinds = text "COLIR" }  -- 5
    ∷ record { name = text "replace"; kinds = text "COLIOR" }  -- 6
    ∷ record { name = text "copy"; kinds = text "COLR" }  -- 7
    ∷ record { name = text "rebuild"; kinds = text "OR" }  -- 8
    ∷ []

-- the number of the first word that is wrong: not of its kind, missing, or one too many; n is the number of the first of them, 0 says that none is
unfoldable pub first_wrong : List ℕ → List (List ℕ) → ℕ → ℕ
unfolding fits
first_wrong [] [] n = 0
first_wrong [] (w ∷ ws) n = n
first_wrong (k ∷ ks) [] n = n
first_wrong (k ∷ ks) (w ∷ ws) n = pick (fits k w) (first_wrong ks ws (n + 1)) n

-- the number of the word as code gives it: None is 0
abbrev pub wrong_word : ℕ → Option ℕ
wrong_word n = then_some (ltb 0 n) n

-- which request a line is, by its number in the forms, or the number, from 1, of the first word that is wrong; 0 for a line that is too long
pub data Judged : Type 0 where
  Asks : ℕ → Judged
  Wrong : ℕ → Judged

-- a request by its number, from 0, unless a word is wrong
unfoldable pub judged_as : ℕ → ℕ → Judged
judged_as q wrong = pick (eqb wrong 0) (Asks q) (Wrong wrong)

-- the words of a line by the forms; q is the number of the first of these
unfoldable pub judged_by : ℕ → List Form → List (List ℕ) → Judged
unfolding judged_as first_wrong
judged_by q [] ws = Wrong 1
judged_by q (f ∷ fs) ws = pick (same (nth ws 0) f.name) (judged_as q (first_wrong f.kinds (drop 1 ws) 2)) (judged_by (q + 1) fs ws)

-- and where the line's first words start
pub record Parse : Type 0 where
  pub judged : Judged
  pub starts : List ℕ

-- a line: which request it is, or the number of the first word that is wrong, and where its first ten words start. One of more than 16,384 octets is not looked at
unfoldable pub parse_of : List ℕ → Parse
unfolding forms judged_by places_from
parse_of line =
    pick (ltb 16_384 (length line))
    (record { judged = Wrong 0; starts = replicate 10 0 })
    (record { judged = judged_by 0 forms (words_of line); starts = places_from line 0 10 })
