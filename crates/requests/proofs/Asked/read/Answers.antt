-- `requests::Asked::read` meets its contract: each word by its kind, and the reading. Assumes nothing.
use Rattle.replies.specs.Laws.Told.{reading_told}
use Rattle.requests.specs.Laws.Requests.{word_in, read_said}
use Rattle.requests.proofs.Asked.read.Goals as goal

pub returns : goal.returns
returns c =
    let a = c.args.self.now in
    read_said (word_in a.line.now a.starts.now) c.small-cat.ensures c.octets-field.ensures c.read-reading.ensures (reading_told c.read-reading.result c.told.ensures c.reading_text.ensures)
