-- `requests::Asked::answer` meets its contract: a handler for each request. Assumes nothing.
use mathlib.Core.Path.{ap}
use borrow.Author.Rules.{rules}
use Rattle.answers.specs.Answers.{asked}
use Rattle.protocol.specs.Requests.{number_of}
use Rattle.requests.specs.Laws.Requests.{word_in, words_from, asked_as}
use Rattle.requests.proofs.Asked.answer.Goals as goal

pub returns-in-Read : goal.returns-in-Read
unfolding asked
returns-in-Read c =
    let a = c.args.self.now in
    asked_as _ (word_in a.line.now a.starts.now) (words_from a.line.now a.starts.now) 0 (ap number_of c.in-Read.is) c.read.ensures

pub returns-in-Write : goal.returns-in-Write
unfolding asked
returns-in-Write c =
    let a = c.args.self.now in
    asked_as _ (word_in a.line.now a.starts.now) (words_from a.line.now a.starts.now) 1 (ap number_of c.in-Write.is) c.write.ensures

pub returns-in-Sheet : goal.returns-in-Sheet
unfolding asked
returns-in-Sheet c =
    let a = c.args.self.now in
    asked_as _ (word_in a.line.now a.starts.now) (words_from a.line.now a.starts.now) 2 (ap number_of c.in-Sheet.is) c.sheet.ensures

pub returns-in-View : goal.returns-in-View
unfolding asked
returns-in-View c =
    let a = c.args.self.now in
    asked_as _ (word_in a.line.now a.starts.now) (words_from a.line.now a.starts.now) 3 (ap number_of c.in-View.is) (search rules)

pub returns-in-Choose : goal.returns-in-Choose
unfolding asked
returns-in-Choose c =
    let a = c.args.self.now in
    asked_as _ (word_in a.line.now a.starts.now) (words_from a.line.now a.starts.now) 4 (ap number_of c.in-Choose.is) c.choose.ensures

pub returns-in-Remove : goal.returns-in-Remove
unfolding asked
returns-in-Remove c =
    let a = c.args.self.now in
    asked_as _ (word_in a.line.now a.starts.now) (words_from a.line.now a.starts.now) 5 (ap number_of c.in-Remove.is) c.remove.ensures

pub returns-in-Replace : goal.returns-in-Replace
unfolding asked
returns-in-Replace c =
    let a = c.args.self.now in
    asked_as _ (word_in a.line.now a.starts.now) (words_from a.line.now a.starts.now) 6 (ap number_of c.in-Replace.is) c.replace.ensures

pub returns-in-Copy : goal.returns-in-Copy
unfolding asked
returns-in-Copy c =
    let a = c.args.self.now in
    asked_as _ (word_in a.line.now a.starts.now) (words_from a.line.now a.starts.now) 7 (ap number_of c.in-Copy.is) c.copy.ensures

pub returns-in-Rebuild : goal.returns-in-Rebuild
unfolding asked
returns-in-Rebuild c =
    let a = c.args.self.now in
    asked_as _ (word_in a.line.now a.starts.now) (words_from a.line.now a.starts.now) 8 (ap number_of c.in-Rebuild.is) c.rebuild.ensures
