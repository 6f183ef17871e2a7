-- `requests::Asked::rebuild` meets its contract: each word by its kind, and the field of the text. Assumes nothing.
use lib.ListN.{length}
use Rattle.guess.specs.Guess.{rebuild_of}
use Rattle.replies.specs.Laws.Told.{rebuilt_told}
use Rattle.replies.specs.Laws.Typed.{types_given}
use Rattle.requests.specs.Laws.Requests.{word_in, rebuild_said}
use Rattle.requests.proofs.Asked.rebuild.Goals as goal

pub returns : goal.returns
returns c =
    let a = c.args.self.now in
    rebuild_said (word_in a.line.now a.starts.now) c.octets-text.ensures c.output-out.ensures (types_given (rebuild_of c.octets-text.result.now (length c.output-out.result.now)) c.rebuild-rebuilt.ensures.category c.rebuild-rebuilt.ensures.leaves (rebuilt_told c.rebuild-rebuilt.result _ c.told.ensures c.rebuilt_text.ensures))
