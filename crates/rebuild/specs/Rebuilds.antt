-- What rebuilding the octets of a sheet promises of its result, and of the output before and after.
use Rattle.std.specs.Prelude.{◌≡◌, List, ℕ, length}
use Rattle.layout.specs.Answer.{Answer, Accepted, Refused, Rebuilding}
use Rattle.scope.specs.Outputs.{Leaves}
use Rattle.scope.specs.Rebuilding.{category_given, octets_given}
use Rattle.guess.specs.Guess.{rebuild_of}

pub record Rebuilds (t out : List ℕ) (r : Rebuilding) (out' : List ℕ) : Type 0 where
  pub category : r.cat ≡ category_given (rebuild_of t (length out))
  pub leaves : Leaves (octets_given (rebuild_of t (length out))) out r.answer out'

-- "its category (0 on refusal)"
unfoldable pub given_by : ℕ → Answer → Rebuilding
given_by cat (Accepted n) = record { cat = cat; answer = Accepted n }
given_by cat (Refused e k) = record { cat = 0; answer = Refused e k }
