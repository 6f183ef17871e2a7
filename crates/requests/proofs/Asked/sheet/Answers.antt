-- `requests::Asked::sheet` meets its contract: each word by its kind, and the sheet. Assumes nothing.
use Rattle.requests.specs.Laws.Requests.{word_in, sheet_said}
use Rattle.requests.proofs.Asked.sheet.Goals as goal

pub returns : goal.returns
returns c =
    let a = c.args.self.now in
    sheet_said (word_in a.line.now a.starts.now) c.small-cat.ensures c.octets-field.ensures c.listed.ensures
