-- A record is a run of words: CAT, ITEMS, 8 parts, the numbers.
use Rattle.std.specs.Prelude.{List, [], ◌∷◌, ℕ, zero, suc, take, drop}
use Rattle.papers.specs.Papers.{SLOTS}
use Rattle.layout.specs.declared.Record.{Record}
use Rattle.words.specs.Numbers.{value_in, whole_in}
use Rattle.protocol.specs.Line.{nth, words_at}

-- the values of so many words
unfoldable pub values_of : {A : Type 0} → (List ℕ → A) → ℕ → List (List ℕ) → List A
values_of value zero ws = []
values_of value (suc n) ws = value (nth ws 0) ∷ values_of value n (drop 1 ws)

unfoldable pub record_in : List (List ℕ) → Record
unfolding values_of
record_in ws = record {
  cat = value_in 255 (nth ws 0);
  items = value_in 255 (nth (drop 1 ws) 0);
  parts = values_of (value_in 255) 8 (drop 1 (drop 1 ws));
  numbers = values_of whole_in SLOTS (drop 8 (drop 1 (drop 1 ws)));
}

-- from a place of a line on; no request has more than 16,384 octets
unfoldable pub record_at : List ℕ → ℕ → Record
unfolding words_at record_in
record_at line at = record_in (words_at (take 16_384 line) at)
