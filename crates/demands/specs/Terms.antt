-- The words of Demands and of the pages beside it, and where each is defined.

-- of the logic and its library: equality, tests, numbers, lists
pub use Rattle.std.specs.Prelude.{◌≡◌, ◌≢◌, Bool, true, false, ◌&&◌, List, [], ◌∷◌, ◌++◌, ℕ, zero, suc, ◌+◌, ◌-◌, ◌*◌, ◌^◌, ◌≤◌, ◌<◌, T, leb, eqb, ℤ, pos, neg_ℤ, length, take, drop, set, replicate, ◌≤ℤ◌}
pub use Rattle.std.specs.Int.Signed.{le_z}
-- one of two by a test
pub use Rattle.codec.specs.Pick.{pick}
-- every element is below 256; LEN, the first octet of a field; a string that has LEN and all that LEN counts
pub use Rattle.codec.specs.Codec.{Octets}
pub use Rattle.codec.specs.Meaning.{len_of}
pub use Rattle.codec.proofs.Laws.Behind.{Whole}
-- a removal or new octets, and which presence bit and octets these give; the field made of LEN, an indicator with
-- that one bit, and these octets
pub use Rattle.codec.specs.Change.{Change, remove, put, alone}
pub use Rattle.codec.proofs.Laws.Change.{new_octets, new_flag}
-- the edition as it is printed, and what it says of octets: bits hi/lo of a number, a field, an item by itself, the
-- zeros of an absent item; what is wrong with octets that are no field, and where. Contents: the indicator, and the
-- parts and numbers of each item
pub use Rattle.codec.specs.Printed.{Entry}
pub use Rattle.codec.specs.Meaning.{bits_of, IsItem, zeros_in, HasLayout}
pub use Rattle.codec.specs.Faults.{FieldFault}
pub use Rattle.codec.specs.Field.{Contents}
-- there is such an item
pub use Rattle.papers.specs.Papers.{numbered, known, printed_of, items_of}
-- the record, and the parts and the numbers of some contents in its order; a reading: the answer and the record; an
-- answer, a view, a choice between two fields
pub use Rattle.papers.specs.Papers.{SLOTS}
pub use Rattle.layout.specs.declared.Record.{Record}
pub use Rattle.layout.specs.Record.{all_parts, all_numbers, number_at}
pub use Rattle.layout.specs.Answer.{Reading, Answer, Accepted, Refused, View, Shown, Hidden, Choice}
pub use Rattle.layout.specs.declared.Which.{Which}
pub use Rattle.layout.specs.declared.Which.TheVariants.{Neither, Base, Correction}
-- the record of a refused field; the sheet's text, a line of it, and the letters and decimals of a line; whether a number
-- can stand for a barometric setting; the angle that is nearest, halves away from zero, and that with its exact leftover
pub use Rattle.scope.specs.Reading.{no_record}
pub use Rattle.scope.specs.Sheet.{sheet_of, key_line, decimal, signed_decimal}
pub use Rattle.papers.specs.Names.{text}
pub use Rattle.scope.specs.Pressure.{stands}
-- lines of a text; of a reading of fields: the texts printed for an accepted field, the value of `len` set aside, how far a
-- text agrees with one of them, and the sheet of a field that has no octets but these
pub use Rattle.scope.specs.Rebuilding.{are_lines, Printed, Agrees, IsSheet}
pub use Rattle.demands.specs.Angles.{Nearest, Exact}

-- ---- fields of a category

-- the record of some contents: "the category, which items .. are present, the parts of each chain, and each number",
-- and zeros behind them
unfoldable pub record_of : ℕ → Contents → Record
record_of cat r = record {
  cat = cat;
  items = r.0;
  parts = all_parts r.1 ++ replicate (8 - length (all_parts r.1)) 0;
  numbers = all_numbers r.1 ++ replicate (SLOTS - length (all_numbers r.1)) (pos 0);
}

-- s is a field of the category and f is its record: the first LEN octets have the layout of the category's edition
pub record IsField (cat : ℕ) (s : List ℕ) (f : Record) : Type 0 where
  pub what : Contents
  pub known_is : T (known cat)
  pub layout : HasLayout (printed_of cat) (take (len_of s) s) what
  pub record_is : f ≡ record_of cat what

-- some field reads to the record
pub record HasField (f : Record) : Type 0 where
  pub octets : List ℕ
  pub are : Octets octets
  pub field : IsField f.cat octets f

-- s is no field of the category: the number of the first check that fails, and its place
pub data Fault (cat : ℕ) (s : List ℕ) : ℕ → ℕ → Type 0 where
  unknown : known cat ≡ false → Fault cat s 1 0
  in_field : {n q : ℕ} → T (known cat) → FieldFault (printed_of cat) s n q → Fault cat s n q

-- every string is the one or the other
pub data Judged (cat : ℕ) (s : List ℕ) : Type 0 where
  a_field : (f : Record) → IsField cat s f → Judged cat s
  no_field : (n q : ℕ) → Fault cat s n q → Judged cat s

-- ---- items

-- the bit of an item in an indicator or a list: "1 for bit 8 up to 8 for bit 1"
abbrev pub bit_of : ℕ → ℕ → ℕ
bit_of octet item = bits_of octet (9 - item) (9 - item)

-- the octet with that bit set to d
abbrev pub with_bit : ℕ → ℕ → ℕ → ℕ
with_bit octet item d = octet + d * 2 ^ (8 - item) - bit_of octet item * 2 ^ (8 - item)

-- ---- an operation with an output: its answer, and the output afterwards

-- "On every refusal by any operation the output is as before": the output out was lent
abbrev pub refused_by : ℕ → ℕ → List ℕ → Answer × List ℕ
refused_by n q out = (Refused n q, out)

-- "its front holds the field and the rest is as before"
abbrev pub handed_out : List ℕ → List ℕ → Answer × List ℕ
handed_out b out = (Accepted (length b), b ++ drop (length b) out)
