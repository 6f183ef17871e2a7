use Rattle.words.specs.Numbers.{value_in, whole_in}
use Rattle.protocol.proofs.record_in.Given as goal

abbrev pub ghost-values : goal.ghost-values
ghost-values a = value_in 255

abbrev pub ghost-values-2 : goal.ghost-values-2
ghost-values-2 a = whole_in
