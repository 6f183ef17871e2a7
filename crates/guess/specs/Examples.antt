-- Texts read back, computed from the definition: sheets of 01's octets, and texts that are none, each in its way. The answers are by hand from 02, Ask 6, and those of the independent
-- implementation of the tests, too.
use Rattle.std.specs.Prelude.{◌≡◌, refl, List, [], ◌∷◌, map, ℕ}
use Prim.Native.String.{String}
use Rattle.codec.specs.Signed.{of_signed, in_signed}
use Rattle.codec.specs.Radix.{total, cut, join}
use Rattle.codec.specs.Codec.{number}
use Rattle.codec.specs.Line.{of_num, in_num, limit, widths, count, unnums, cells, line}
use Rattle.codec.specs.Item.{slots, slots_of, lines_of, beside, fx_of, chain, is_one, subfields, item}
use Rattle.codec.specs.Field.{first_flag, next_flags, uncons, row, indicator, body}
use Rattle.codec.specs.Frame.{Outcome, accepted, refused, write_frame}
use Rattle.papers.specs.Cat048.{cat048}
use Rattle.papers.specs.Cat021.{cat021}
use Rattle.papers.specs.Cat007.{cat007}
use Rattle.papers.specs.Names.{text, names048, names021, names007, names_of}
use Rattle.papers.specs.Papers.{paper_of}
use Rattle.scope.specs.Angle.{rounded, udeg_of, left_of}
use Rattle.scope.specs.Pressure.{sense_of}
use Rattle.scope.specs.Sheet.{key_line, digits_of, decimal, signed_decimal, number_text, numbers_text, parts_there, subfields_there, lines_there, lines_text, chain_text, item_text, row_text, items_text}
use Rattle.text.specs.Decimals.{value_from, value_of, is_digit}
use Rattle.text.specs.Laws.Decimals.{are_digits}
use Rattle.words.specs.Numbers.{leads, goes_on, is_number, number_in, is_signed, signed_value, signed_in}
use Rattle.guess.specs.Lines.{before_octet, behind_octet, behind_feeds}
use Rattle.guess.specs.Guess.{value_in, fits_piece, piece_in, bounded_in, lines_for, behind_keys, numbers_in, taken_lines, left_lines, begins, key_text, head_of, open_in, bit, bits, count_in, behind_count, there_in, keys_in, item_numbers, item_in, item_left, row_in, names_in, indicator_of, indicator_in, category_of, category_in, length_in, contents_in, guess_of, sheet_with, first_wrong, given_of, rebuild_of}

-- a text, the room for the octets, and the answer
pub record Example : Type 0 where
  pub read : String
  pub room : ℕ
  pub answer : Outcome (ℕ × List ℕ)

unfoldable pub examples : List Example
examples =
    record { read = "cat=48\nlen=6\nitems=M4E,ERR\nM4E=3\nERR=65536\nend=ok\n"; room = 6; answer = accepted (48, 0x06 ∷ 0x28 ∷ 0x06 ∷ 0x01 ∷ 0x00 ∷ 0x00 ∷ []) }
    ∷ record { read = "cat=48\nlen=6\nitems=M4E,ERR\nM4E=3\nERR=65536\nend=ok\n"; room = 5; answer = refused 11 0 }
    ∷ record { read = "cat=7\nlen=6\nitems=M4E,ERR\nM4E=3\nERR=65536\nend=ok\n"; room = 300; answer = accepted (7, 0x06 ∷ 0x28 ∷ 0x06 ∷ 0x01 ∷ 0x00 ∷ 0x00 ∷ []) }
    ∷ record { read = "cat=21\nlen=6\nitems=M4E,ERR\nM4E=3\nERR=65536\nend=ok\n"; room = 300; answer = refused 18 3 }
    ∷ record { read = "cat=48\nlen=7\nitems=M4E,ERR\nM4E=3\nERR=65536\nend=ok\n"; room = 300; answer = refused 18 2 }
    ∷ record { read = "cat=48\nlen=06\nitems=M4E,ERR\nM4E=3\nERR=65536\nend=ok\n"; room = 300; answer = refused 18 2 }
    ∷ record { read = "cat=48\nlen=7\nitems=M4E,ERR\nM4E=4\nERR=65536\nend=ok\n"; room = 300; answer = refused 18 4 }
    ∷ record { read = "cat=48\nlen=6\nitems=M4E,ERR\nM4E=4\nERR=65536\nend=ok\n"; room = 0; answer = refused 18 4 }
    ∷ record { read = "cat=48\nlen=1\nitems=M4E,ERR\nM4E=4\nERR=65536\nend=ok\n"; room = 300; answer = refused 18 2 }
    ∷ record { read = "cat=48\nlen=6\nitems=M4E,ERR\nM4E=3\nERR=16777216\nend=ok\n"; room = 300; answer = refused 18 5 }
    ∷ record { read = "cat=48\nlen=6\nitems=M4E,ERR\nM4E=3\nERR=65536\nend=ko\n"; room = 300; answer = refused 18 6 }
    ∷ record { read = "cat=48\nlen=6\nitems=M4E,ERR\nM4E=3\nERR=65536\nend=ok"; room = 300; answer = refused 18 6 }
    ∷ record { read = "cat=48\nlen=6\nitems=M4E,ERR\nM4E=3\nERR=65536\nend=ok\n\n"; room = 300; answer = refused 18 7 }
    ∷ record { read = ""; room = 300; answer = refused 18 1 }
    ∷ record { read = "cat=48\n"; room = 300; answer = refused 18 2 }
    ∷ record { read = "cat=48\nlen=2\nitems=\nend=ok\n"; room = 2; answer = accepted (48, 0x02 ∷ 0x00 ∷ []) }
    ∷ record { read = "cat=7\nlen=4\nitems=M5N\nM5N.chain=2\nend=ok\n"; room = 4; answer = accepted (7, 0x04 ∷ 0x40 ∷ 0x01 ∷ 0x00 ∷ []) }
    ∷ record { read = "cat=48\nlen=5\nitems=M5N\nM5N.chain=2\nM5N.FOM=31\nend=ok\n"; room = 5; answer = accepted (48, 0x05 ∷ 0x40 ∷ 0x01 ∷ 0x80 ∷ 0x1F ∷ []) }
    ∷ record { read = "cat=48\nlen=5\nitems=M5N\nM5N.chain=1\nM5N.FOM=31\nend=ok\n"; room = 5; answer = refused 18 5 }
    ∷ record { read = "cat=48\nlen=5\nitems=MD5\nMD5.GA.RES=0\nMD5.GA.GA=-41\nend=ok\n"; room = 5; answer = refused 18 5 }
    ∷ record { read = "cat=48\nrefused=6\nat=2\n"; room = 300; answer = refused 18 2 }
    ∷ record { read = "cat=48\nlen=9\nitems=MD5\nMD5.POS.LAT=4194304\nMD5.POS.LAT.udeg=90000000\nMD5.POS.LAT.left=0\nMD5.POS.LON=-16384\nMD5.POS.LON.udeg=-351563\nMD5.POS.LON.left=16384\nend=ok\n"; room = 300; answer = accepted (48, 0x09 ∷ 0x80 ∷ 0x20 ∷ 0x40 ∷ 0x00 ∷ 0x00 ∷ 0xFF ∷ 0xC0 ∷ 0x00 ∷ []) }
    ∷ record { read = "cat=48\nlen=9\nitems=MD5\nMD5.POS.LAT=4194304\nMD5.POS.LAT.udeg=90000000\nMD5.POS.LAT.left=0\nMD5.POS.LON=-16384\nMD5.POS.LON.udeg=-351563\nMD5.POS.LON.left=-16384\nend=ok\n"; room = 300; answer = refused 18 9 }
    ∷ record { read = "cat=21\nlen=4\nitems=BPS\nBPS=4095\nBPS.tenths=12095\nBPS.sense=atleast\nend=ok\n"; room = 300; answer = accepted (21, 0x04 ∷ 0x80 ∷ 0x0F ∷ 0xFF ∷ []) }
    ∷ record { read = "cat=21\nlen=4\nitems=BPS\nBPS=4094\nBPS.tenths=12094\nBPS.sense=atleast\nend=ok\n"; room = 300; answer = refused 18 6 }
    ∷ record { read = "cat=48\nlen=5\nitems=MD5\nMD5.GA.GA=-40\nMD5.GA.RES=0\nend=ok\n"; room = 300; answer = refused 18 4 }
    ∷ []

pub read_back : map (λ (e : Example). rebuild_of (text e.read) e.room) examples ≡ map (λ (e : Example). e.answer) examples
unfolding examples of_signed in_signed total cut join number of_num in_num limit widths count unnums cells line slots slots_of lines_of beside fx_of chain is_one subfields item first_flag next_flags uncons row indicator body write_frame cat048 cat021 cat007 names048 names021 names007 names_of paper_of rounded udeg_of left_of sense_of key_line digits_of decimal signed_decimal number_text numbers_text parts_there subfields_there lines_there lines_text chain_text item_text row_text items_text value_from value_of is_digit are_digits leads goes_on is_number number_in is_signed signed_value signed_in before_octet behind_octet behind_feeds value_in fits_piece piece_in bounded_in lines_for behind_keys numbers_in taken_lines left_lines begins key_text head_of open_in bit bits count_in behind_count there_in keys_in item_numbers item_in item_left row_in names_in indicator_of indicator_in category_of category_in length_in contents_in guess_of sheet_with first_wrong given_of rebuild_of
read_back = refl
