-- The table in the code is the forms, by computation.
use Rattle.std.proofs.Common.{refl, arith}
use Rattle.protocol.specs.Forms.{forms}
use Rattle.protocol.specs.Laws.Requests.{parse_long, parse_rows}
use Rattle.protocol.proofs.parse.Goals as goal

pub returns-then-line-gt-LONGEST : goal.returns-then-line-gt-LONGEST
returns-then-line-gt-LONGEST c = parse_long c.args.line.now c.if-line-gt-LONGEST.true

pub returns : goal.returns
unfolding forms
returns c = parse_rows c.args.line.now (omega arith) _ refl refl c.judge.ensures c.places.ensures
