-- A list has its two digits.
use Rattle.std.proofs.Common.{sym, ap, ◌∙◌, arith, Some}
use Rattle.hex_words.specs.Laws.Octets.{list_pair, list_some, not_list}
use Rattle.hex_words.proofs.list.Goals as goal

pub bounds-word-0 : goal.bounds-word-0
bounds-word-0 c = omega (arith, list_pair c.args.word.now (sym c.is_list.ensures ∙ c.if-is_list.true))

pub bounds-word-1 : goal.bounds-word-1
bounds-word-1 c = omega (arith, list_pair c.args.word.now (sym c.is_list.ensures ∙ c.if-is_list.true))

pub returns-then-is_list : goal.returns-then-is_list
returns-then-is_list c = ap Some c.octet.ensures ∙ list_some c.args.word.now (sym c.is_list.ensures ∙ c.if-is_list.true)

pub returns-else-is_list : goal.returns-else-is_list
returns-else-is_list c = not_list c.args.word.now (sym c.is_list.ensures ∙ c.if-is_list.false)
