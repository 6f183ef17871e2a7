-- `text::Text::octet` meets its contract: one law at each way out. Assumes nothing.
use Rattle.text.specs.Laws.Typing.{octet_there, octet_full}
use Rattle.text.proofs.Text.octet.Goals as goal

pub returns-then-self-lt4096 : goal.returns-then-self-lt4096
returns-then-self-lt4096 c =
    let t = c.args.self.now in
    octet_there c.args.o t.octets t.end c.if-self-lt4096.true

pub returns-else-self-lt4096 : goal.returns-else-self-lt4096
returns-else-self-lt4096 c =
    let t = c.args.self.now in
    octet_full c.args.o t.octets t.end c.if-self-lt4096.false
