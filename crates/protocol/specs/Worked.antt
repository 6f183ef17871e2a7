-- Lines judged by computation: a request of each kind of form, and each way of being none.
use Rattle.std.specs.Prelude.{◌≡◌, refl, List, [], ◌∷◌, map}
use Prim.Native.String.{String}
use Rattle.papers.specs.Names.{text}
use Rattle.text.specs.Decimals.{value_from, value_of, is_digit}
use Rattle.text.specs.Laws.Decimals.{are_digits}
use Rattle.words.specs.Numbers.{leads, goes_on, is_number, is_signed}
use Rattle.hex_words.specs.Octets.{hex_digit, are_hex, is_octets, is_list}
use Rattle.protocol.specs.Line.{glued, words_of, same}
use Rattle.protocol.specs.Forms.{fits, forms, first_wrong, judged_as, judged_by, parse_of, Judged, Asks, Wrong}

pub record Worked : Type 0 where
  pub line : String
  pub says : Judged

unfoldable pub worked : List Worked
worked =
    record { line = "read 48 062806010000"; says = Asks 0 }
    ∷ record { line = "sheet 48 -"; says = Asks 2 }
    ∷ record { line = "remove 48 062806010000 f8 3 300"; says = Asks 5 }
    ∷ record { line = "replace 48 062806010000 30 4 8007 300"; says = Asks 6 }
    ∷ record { line = "copy 48 062806010000 20 300"; says = Asks 7 }
    ∷ record { line = "rebuild 656E643D6F6B0A 300"; says = Asks 8 }
    -- another name, a word less, a word more, an empty word, digits that are none, a number past its limit, a list that is decimal
    ∷ record { line = ""; says = Wrong 1 }
    ∷ record { line = " read 48 0200"; says = Wrong 1 }
    ∷ record { line = "Read 48 0200"; says = Wrong 1 }
    ∷ record { line = "read"; says = Wrong 2 }
    ∷ record { line = "read 48"; says = Wrong 3 }
    ∷ record { line = "read 48 0200 0"; says = Wrong 4 }
    ∷ record { line = "read 48 0200 "; says = Wrong 4 }
    ∷ record { line = "read  48 0200"; says = Wrong 2 }
    ∷ record { line = "read 48 020"; says = Wrong 3 }
    ∷ record { line = "read 048 0200"; says = Wrong 2 }
    ∷ record { line = "view 48 0200 -0"; says = Wrong 4 }
    ∷ record { line = "remove 48 0200 255 3 300"; says = Wrong 4 }
    ∷ record { line = "remove 48 0200 F8 3 301"; says = Wrong 6 }
    ∷ record { line = "write 300 48 0 1 0 x"; says = Wrong 7 }
    ∷ record { line = "rebuild end=ok 300"; says = Wrong 2 }
    ∷ []

pub worked_judged : map (λ (x : Worked). (parse_of (text x.line)).judged) worked ≡ map (λ (x : Worked). x.says) worked
unfolding worked parse_of judged_by judged_as forms first_wrong fits words_of glued same is_number goes_on leads are_digits is_digit value_of value_from is_octets is_list are_hex hex_digit is_signed
worked_judged = refl
