-- `replies::sheet_text` meets its contract. Assumes nothing.
use Rattle.replies.specs.Laws.Typed.{sheet_typed}
use Rattle.replies.proofs.sheet_text.Goals as goal

pub returns : goal.returns
returns c = sheet_typed c.args.sheet.now c.saturating_sub.ensures c.front.ensures c.ok.ensures c.octet.ensures c.line_words.ensures
