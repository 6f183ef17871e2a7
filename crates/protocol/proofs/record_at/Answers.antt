-- A line that is too long is cut.
use Rattle.std.proofs.Common.{take, ap, ◌∙◌}
use Rattle.std.proofs.lemmas.List.{take_min}
use Rattle.protocol.specs.Line.{words_at}
use Rattle.protocol.specs.Record.{record_in, record_at}
use Rattle.protocol.proofs.record_at.Goals as goal

pub returns : goal.returns
unfolding record_at
returns c =
    let line = c.args.line.now in
    c.record_in.ensures ∙ ap (λ s. record_in (words_at s c.args.at)) (ap (λ n. take n line) c.min.ensures ∙ take_min 16_384 line)
