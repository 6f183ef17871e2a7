use Rattle.std.proofs.Common.{◌∙◌, ap, unwrap_or}
use Rattle.hex_words.specs.Octets.{octet_of}
use Rattle.hex_words.specs.Laws.Octets.{digit_value}
use Rattle.hex_words.proofs.octet.Goals as goal

pub returns : goal.returns
unfolding octet_of
returns c =
    let high = c.unwrap_or.ensures ∙ ap (λ o. unwrap_or o 0) c.hex_digit.ensures ∙ digit_value c.args.high in
    let low = c.unwrap_or-2.ensures ∙ ap (λ o. unwrap_or o 0) c.hex_digit-2.ensures ∙ digit_value c.args.low in
    rw (high, low)
