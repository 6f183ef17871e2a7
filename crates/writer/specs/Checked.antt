-- What laying a record and reading it back tells.
use Rattle.std.specs.Prelude.{◌≡◌, List, ℕ, T, length, take}
use Rattle.codec.specs.Pick.{pick}
use Rattle.codec.specs.Frame.{accepted, refused}
use Rattle.layout.specs.declared.Record.{Record}
use Rattle.layout.specs.Answer.{Answer}
use Rattle.scope.specs.Writing.{writable, written}
use Rattle.scope.specs.Outputs.{answer_of}
use Rattle.writer.specs.Frames.{Laid}

-- the length of the field that reads to the record, which then stands in front of the octets; or 10 if there is none
pub record Checked (f : Record) (a : Answer) (octets : List ℕ) : Type 0 where
  pub answer : a ≡ answer_of (pick (writable f) (accepted (written f)) (refused 10 0))
  pub front : T (writable f) → take (length (written f)) octets ≡ written f

-- what reading octets tells of the record that was laid there
pub record ReadBack (f : Record) (s : List ℕ) (a : Answer) : Type 0 where
  pub checked : {before : List ℕ} → Laid f before s → Checked f a s
