-- One law at each way out.
use Rattle.std.proofs.Common.{sym, ◌∙◌}
use Rattle.hex_words.specs.Laws.Octets.{octets_most, octets_some, not_octets}
use Rattle.hex_words.proofs.octets.Goals as goal

pub lay-requires : goal.lay-requires
lay-requires c = octets_most c.args.word.now (sym c.is_octets.ensures ∙ c.if-not-is_octets.false)

pub returns-then-not-is_octets : goal.returns-then-not-is_octets
returns-then-not-is_octets c = let a = c.args in not_octets a.word.now a.out.now (sym c.is_octets.ensures ∙ c.if-not-is_octets.true)

pub returns : goal.returns
returns c = let a = c.args in octets_some a.word.now a.out.now (sym c.is_octets.ensures ∙ c.if-not-is_octets.false) c.lay.ensures
