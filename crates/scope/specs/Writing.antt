-- Writing a record (01, 'Numbers of refusal', "Writer: 1, 10, 11").
use Rattle.std.specs.Prelude.{Bool, List, ℕ, length}
use Rattle.codec.specs.Pick.{pick}
use Rattle.codec.specs.Frame.{Outcome, refused, write_frame, okay_frame}
use Rattle.papers.specs.Papers.{known}
use Rattle.layout.specs.declared.Record.{Record}
use Rattle.layout.specs.Answer.{Answer}
use Rattle.layout.specs.Record.{contents}
use Rattle.scope.specs.Outputs.{with_room, Leaves}

-- some field reads to the record, and the octets of that field
unfoldable pub writable : Record → Bool
writable f = okay_frame (contents f.cat) f

unfoldable pub written : Record → List ℕ
written f = write_frame (contents f.cat) f

unfoldable pub write_of : Record → ℕ → Outcome (List ℕ)
unfolding with_room
write_of f room = pick (known f.cat) (pick (writable f) (with_room room (written f)) (refused 10 0)) (refused 1 0)

-- what writing a record promises of the answer, and of the output before and after
abbrev pub Wrote : Record → List ℕ → Answer → List ℕ → Type 0
Wrote f out a out' = Leaves (write_of f (length out)) out a out'
