-- LEN and the indicator before the items: the field of a record.
use Rattle.std.specs.Prelude.{◌≡◌, List, ◌++◌, ℕ, T, ℤ, length, drop}
use Rattle.layout.specs.declared.Record.{Record}
use Rattle.scope.specs.Writing.{writable, written}

-- the record of the four values that `lay` takes
abbrev pub made : ℕ → ℕ → List ℕ → List ℤ → Record
made c i ps zs = record { cat = c; items = i; parts = ps; numbers = zs }

-- the field of a record that some field reads to, in front of the octets
pub record Laid (f : Record) (before after : List ℕ) : Type 0 where
  pub front : T (writable f) → after ≡ written f ++ drop (length (written f)) before
