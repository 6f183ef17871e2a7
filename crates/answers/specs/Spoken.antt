-- Lines and their answers computed from the protocol's definition: a request of each kind, accepted and refused, and ways of being none.
use Rattle.std.specs.Prelude.{◌≡◌, refl, List, [], ◌∷◌, map}
use Prim.Native.String.{String}
use Rattle.codec.specs.Signed.{to_signed, of_signed, in_signed}
use Rattle.codec.specs.Radix.{total, cut, join}
use Rattle.codec.specs.Codec.{number}
use Rattle.codec.specs.Line.{to_num, of_num, in_num, limit, widths, count, clear, nums, unnums, in_limits, cells, line}
use Rattle.codec.specs.Item.{slots_of, slots, beside, fx_of, chain, is_one, subfields, item, lines_of}
use Rattle.codec.specs.Field.{uncons, first_flag, next_flags, row, all_zero, indicator, body, texts, texts_of, before}
use Rattle.codec.specs.Meaning.{len_of}
use Rattle.codec.specs.Frame.{settle, read_frame, write_frame}
use Rattle.codec.specs.Change.{set_flag, set_item, blank_at, alone, put_in, change}
use Rattle.papers.specs.Cat048.{cat048}
use Rattle.papers.specs.Papers.{known, paper_of, all_slots}
use Rattle.papers.specs.Names.{text, names048, names_of}
use Rattle.layout.specs.Answer.{which_number}
use Rattle.layout.specs.Record.{all_parts, all_numbers, flatten}
use Rattle.scope.specs.Reading.{field_of, shown, read_of}
use Rattle.scope.specs.Outputs.{with_room}
use Rattle.scope.specs.Views.{is_item, present, standing, view_in, view_of, part_of, choose_in, choose_of, side_of, chosen_of}
use Rattle.scope.specs.Desk.{listed as onList, afresh, edit_in, edit_of}
use Rattle.scope.specs.Visitors.{without, copy_in, copy_of}
use Rattle.scope.specs.Rebuilding.{category_given, octets_given}
use Rattle.scope.specs.Sheet.{digits_of, decimal, signed_decimal, number_text, numbers_text, parts_there, subfields_there, lines_there, lines_text, chain_text, item_text, row_text, items_text, field_text, sheet_of, key_line}
use Rattle.text.specs.Decimals.{value_from, value_of, is_digit}
use Rattle.text.specs.Laws.Decimals.{are_digits}
use Rattle.text.specs.Hex.{capital, pair_text, pairs_text, hex_text}
use Rattle.words.specs.Numbers.{leads, goes_on, is_number, number_in, is_signed, signed_value, signed_in, value_in}
use Rattle.guess.specs.Lines.{before_octet, behind_octet, behind_feeds}
use Rattle.guess.specs.Guess.{value_in as lineValue, fits_piece, piece_in, bounded_in, lines_for, behind_keys, numbers_in, taken_lines, left_lines, begins, key_text, head_of, open_in, bit, bits, count_in, behind_count, there_in, keys_in, item_numbers, item_in, item_left, row_in, names_in, indicator_of, indicator_in, category_of, category_in, length_in, contents_in, guess_of, sheet_with, first_wrong as firstWrongLine, given_of, rebuild_of}
use Rattle.hex_words.specs.Octets.{hex_digit, are_hex, is_octets, octet_of, octets_of, octets_in, is_list, list_in}
use Rattle.protocol.specs.Line.{glued, words_of, same}
use Rattle.protocol.specs.Forms.{fits, forms, first_wrong, judged_as, judged_by, parse_of}
use Rattle.replies.specs.Texts.{next, next_signed, next_octets, bad_request, refusal_text, output_text, rebuilt_text, given_text, shown_text, view_text, choice_in, choice_text, words_text, record_text, read_in, reading_text, in_line, line_octet, sheet_text}
use Rattle.answers.specs.Answers.{listed, read_answer, write_answer, sheet_answer, view_answer, choose_answer, remove_answer, replace_answer, copy_answer, rebuild_answer, asked, said, answer_of}

pub record Spoken : Type 0 where
  pub asked : String
  pub told : String

unfoldable pub spoken : List Spoken
spoken =
    record {
      asked = "read 48 062806010000";
      told = "ok 6 48 40 0 0 1 0 0 0 0 0 0 0 0 0 0 0 0 0 0 0 0 0 0 0 0 0 0 0 0 0 0 0 0 0 0 0 0 0 0 0 0 0 0 0 0 0 0 0 0 0 0 0 0 0 0 0 0 0 0 0 0 0 0 0 0 0 0 0 0 0 0 0 0 0 0 0 0 3 0 0 0 0 0 0 0 0 65536\n";
    }
    ∷ record { asked = "read 48 03200f"; told = "refused 6 2\n" }
    ∷ record { asked = "read 48 -"; told = "refused 2 0\n" }
    ∷ record { asked = "sheet 48 062806010000"; told = "ok cat=48 len=6 items=M4E,ERR M4E=3 ERR=65536 end=ok\n" }
    ∷ record { asked = "sheet 48 0200"; told = "ok cat=48 len=2 items= end=ok\n" }
    ∷ record { asked = "sheet 48 03200f"; told = "refused 6 2\n" }
    ∷ record { asked = "view 48 062806010000 5"; told = "ok 3 3 010000\n" }
    ∷ record { asked = "view 48 062806010000 4"; told = "refused 15 0\n" }
    ∷ record { asked = "choose 48 062806010000 0200 5"; told = "ok 1 3 3 010000\n" }
    ∷ record { asked = "choose 48 062806010000 0280 5"; told = "refused 5 2 2\n" }
    ∷ record { asked = "remove 48 062806010000 FF 3 300"; told = "ok 0508010000\n" }
    ∷ record { asked = "replace 48 062806010000 ff 4 8007 300"; told = "ok 0838068007010000\n" }
    ∷ record { asked = "replace 48 062806010000 30 5 020000 300"; told = "refused 13 0\n" }
    ∷ record { asked = "replace 48 062806010000 FF 4 8007 7"; told = "refused 11 0\n" }
    ∷ record { asked = "copy 48 062806010000 20 5"; told = "ok 0508010000\n" }
    ∷ record { asked = "copy 48 062806010000 20 4"; told = "refused 11 0\n" }
    ∷ record { asked = "copy 48 03200F FF 0"; told = "refused 6 2\n" }
    ∷ record { asked = "rebuild 6361743D34380A6C656E3D330A6974656D733D4D34450A4D34453D330A656E643D6F6B0A 3"; told = "ok 48 032006\n" }
    ∷ record { asked = "rebuild 6361743D34380A6C656E3D330A6974656D733D4D34450A4D34453D330A656E643D6F6B0A 2"; told = "refused 11 0\n" }
    ∷ record { asked = "rebuild 6361743d34380a6c656e3d330a6974656d733d4d34450a4d34453d340a656e643d6f6b0a 3"; told = "refused 18 4\n" }
    ∷ record { asked = "rebuild - 0"; told = "refused 18 1\n" }
    -- no request: nothing, another name, a list in decimal, a record that is cut short
    ∷ record { asked = ""; told = "bad-request 1\n" }
    ∷ record { asked = "Read 48 0200"; told = "bad-request 1\n" }
    ∷ record { asked = "remove 48 0200 255 3 300"; told = "bad-request 4\n" }
    ∷ record { asked = "write 300 48 0 1 0"; told = "bad-request 7\n" }
    ∷ []

pub spoken-answers : map (λ (x : Spoken). answer_of (text x.asked)) spoken ≡ map (λ (x : Spoken). text x.told) spoken
unfolding spoken listed read_answer write_answer sheet_answer view_answer choose_answer remove_answer replace_answer copy_answer rebuild_answer asked said answer_of next next_signed next_octets bad_request refusal_text output_text rebuilt_text given_text shown_text view_text choice_in choice_text words_text record_text read_in reading_text in_line line_octet sheet_text glued words_of same fits forms first_wrong judged_as judged_by parse_of leads goes_on is_number is_signed value_in hex_digit are_hex is_octets octet_of octets_of octets_in is_list list_in value_from value_of is_digit are_digits capital pair_text pairs_text hex_text field_of shown read_of with_room is_item present standing view_in view_of part_of choose_in choose_of side_of chosen_of onList afresh edit_in edit_of without copy_in copy_of digits_of decimal signed_decimal number_text numbers_text parts_there subfields_there lines_there lines_text chain_text item_text row_text items_text field_text sheet_of key_line cat048 known paper_of which_number names048 names_of all_parts all_numbers all_slots flatten to_signed of_signed total cut join number to_num of_num limit widths count clear nums unnums in_limits cells line slots_of slots beside fx_of chain is_one subfields item lines_of uncons first_flag next_flags row all_zero indicator body texts texts_of before len_of settle read_frame write_frame set_flag set_item blank_at alone put_in change in_signed in_num number_in signed_value signed_in before_octet behind_octet behind_feeds lineValue fits_piece piece_in bounded_in lines_for behind_keys numbers_in taken_lines left_lines begins key_text head_of open_in bit bits count_in behind_count there_in keys_in item_numbers item_in item_left row_in names_in indicator_of indicator_in category_of category_in length_in contents_in guess_of sheet_with firstWrongLine given_of rebuild_of category_given octets_given
spoken-answers = refl
