-- `requests::Asked::octets` meets its contract: what was laid into the room is lent. Assumes nothing.
use mathlib.Core.Path.{◌≡◌, ap, ◌∙◌}
use native.Mathlib.Omega.{arith}
use borrow.Author.Rules.{rules}
use lib.ListN.{length}
use Rattle.hex_words.specs.Octets.{octets_in}
use Rattle.hex_words.specs.Laws.Octets.{octets_given, octets_held, octets_taken}
use Rattle.requests.proofs.Asked.octets.Goals as goal

pub shared_ref_as_front-result : goal.shared_ref_as_front-result
shared_ref_as_front-result c =
    let long : 4_096 ≡ length c.octets.new.out = search rules in
    omega (arith, long, octets_held _ _ (search rules) (octets_given _ _ c.octets.ensures c.unwrap_or-n.ensures))

pub returns : goal.returns
returns c = octets_taken _ _ (search rules) (octets_given _ _ c.octets.ensures c.unwrap_or-n.ensures) ∙ ap octets_in c.word.ensures
