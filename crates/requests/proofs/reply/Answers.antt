-- `requests::reply` meets its contract: a text holds every answer from its start on. Assumes nothing.
use borrow.Author.Rules.{rules}
use Rattle.answers.specs.Laws.Room.{answer_whole}
use Rattle.requests.proofs.reply.Goals as goal

pub returns-clause-whole : goal.returns-clause-whole
returns-clause-whole c = (answer_whole c.args.line.now (search rules) c.answer.ensures).1
