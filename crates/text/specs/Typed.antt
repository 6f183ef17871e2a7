-- A text without an octet, and what typing a word into a text promises of it before and behind.
use Rattle.std.specs.Prelude.{List, ℕ, replicate}
use Rattle.text.specs.Typing.{Types}
use Rattle.text.specs.declared.Text.{Text}

unfoldable pub blank : Text
blank = record { octets = replicate 4_096 0; end = 0 }

abbrev pub Typed : List ℕ → Text → Text → Type 0
Typed xs t t' = Types xs t.octets t.end t'.octets t'.end
