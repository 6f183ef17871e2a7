-- The visitors' copy (02, Ask 5): it "takes a field and a list of withheld items and writes the field without them". "Spare places in the list have no effect.
-- Refusals: the reader's, then 11".
use Rattle.std.specs.Prelude.{List, ℕ, zero, suc, length}
use Rattle.codec.specs.Pick.{pick}
use Rattle.codec.specs.Item.{Item}
use Rattle.codec.specs.Field.{Contents, body}
use Rattle.codec.specs.Frame.{Outcome, accepted, refused, write_frame}
use Rattle.codec.specs.Change.{set_item, blank_at}
use Rattle.papers.specs.Papers.{paper_of}
use Rattle.layout.specs.Answer.{Answer}
use Rattle.scope.specs.Reading.{field_of}
use Rattle.scope.specs.Outputs.{with_room, Leaves}
use Rattle.scope.specs.Desk.{listed}

-- the contents without those of the first n items that are withheld: each is absent, as its removal leaves it
unfoldable pub without : List Item → ℕ → ℕ → Contents → Contents
unfolding listed
without its withheld zero r = r
without its withheld (suc n) r = pick (listed withheld (suc n)) (set_item n 0 (blank_at its n) (without its withheld n r)) (without its withheld n r)

-- written afresh without all that are withheld, if there is room for that
unfoldable pub copy_in : List Item → ℕ → ℕ → Outcome Contents → Outcome (List ℕ)
unfolding without with_room
copy_in its withheld room (refused n p) = refused n p
copy_in its withheld room (accepted r) = with_room room (write_frame (body its) (without its withheld (length its) r))

unfoldable pub copy_of : ℕ → List ℕ → ℕ → ℕ → Outcome (List ℕ)
unfolding copy_in
copy_of cat s withheld room = copy_in (paper_of cat) withheld room (field_of cat s)

-- what a copy promises of the answer, and of the output before and after
abbrev pub Copied : ℕ → List ℕ → ℕ → List ℕ → Answer → List ℕ → Type 0
Copied cat s withheld out a out' = Leaves (copy_of cat s withheld (length out)) out a out'
