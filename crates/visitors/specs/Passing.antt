-- One item of the field that stands in front of an array, passed by.
use Rattle.std.specs.Prelude.{List, ℕ, length, get_or}
use Rattle.codec.specs.Pick.{pick}
use Rattle.codec.specs.Change.{remove}
use Rattle.scope.specs.Outputs.{after}
use Rattle.scope.specs.Desk.{listed, edit_of}

-- taken away by the desk if it is withheld and there; the indicator is laid out as a list
unfoldable pub passed_of : ℕ → List ℕ → ℕ → ℕ → List ℕ
unfolding listed edit_of after
passed_of cat kept withheld item =
    pick (listed withheld item) (pick (listed (get_or kept 1 0) item) (after (edit_of cat kept 255 item remove (length kept)) kept) kept) kept
