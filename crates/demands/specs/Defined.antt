-- The program that scope and guess define, operation by operation.
use Rattle.std.specs.Prelude.{List, ℕ, length}
use Rattle.codec.specs.Frame.{Outcome}
use Rattle.layout.specs.Answer.{Answer}
use Rattle.scope.specs.Reading.{read_of}
use Rattle.scope.specs.Outputs.{with_room, answer_of, after}
use Rattle.scope.specs.Writing.{write_of}
use Rattle.scope.specs.Views.{view_of, part_of, choose_of, chosen_of}
use Rattle.scope.specs.Desk.{edit_of}
use Rattle.scope.specs.Visitors.{copy_of}
use Rattle.scope.specs.Sheet.{sheet_of}
use Rattle.scope.specs.Angle.{udeg_of, left_of}
use Rattle.scope.specs.Rebuilding.{category_given, octets_given}
use Rattle.guess.specs.Guess.{rebuild_of}
use Rattle.demands.specs.Demands.{Program}

-- an outcome, and the output that was lent
abbrev pub handed : Outcome (List ℕ) → List ℕ → Answer × List ℕ
handed o out = (answer_of o, after o out)

abbrev pub program : Program
program = record {
  read = read_of;
  write = λ f out. handed (write_of f (length out)) out;
  edit = λ cat s list item ch out. handed (edit_of cat s list item ch (length out)) out;
  copy = λ cat s list out. handed (copy_of cat s list (length out)) out;
  view = view_of;
  part = λ cat s item. part_of s (view_of cat s item);
  choose = choose_of;
  chosen = λ cat b s item. chosen_of b s (choose_of cat b s item);
  sheet = λ s out. handed (with_room (length out) (sheet_of s)) out;
  rebuild = λ t out. (category_given (rebuild_of t (length out)), handed (octets_given (rebuild_of t (length out))) out);
  udeg = udeg_of;
  left = left_of;
}
