-- `replies::record_text` meets its contract: the words stand one behind the other. Assumes nothing.
use mathlib.Core.Path.{◌≡◌}
use borrow.Author.Rules.{rules}
use lib.ListN.{take}
use lib.Seq.{take_all}
use Rattle.text.specs.Laws.Typing.{types_behind}
use Rattle.replies.specs.Texts.{next, next_signed, record_text}
use Rattle.papers.specs.Papers.{SLOTS}
use Rattle.replies.proofs.record_text.Goals as goal

pub returns : goal.returns
unfolding next next_signed record_text
returns c =
    let f = c.args.kept.now in
    let p : take 8 f.parts ≡ f.parts = take_all 8 f.parts (search rules) in
    let q : take SLOTS f.numbers ≡ f.numbers = take_all SLOTS f.numbers (search rules) in
    rw (p, q) (types_behind c.next.ensures (types_behind c.next-2.ensures (types_behind c.words.ensures c.words-2.ensures)))
