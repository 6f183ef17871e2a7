-- A field of each category with every item, part and subfield, and what each item holds, as tests/specimens.py made them from the papers: what a wrong
-- width, sign, order, spare bit or number of parts in a paper's data would change.
use Rattle.std.specs.Prelude.{◌≡◌, refl, List, [], ◌∷◌, map, ℕ, pos, negsuc}
use Rattle.codec.specs.Signed.{to_signed}
use Rattle.codec.specs.Radix.{total, cut, join}
use Rattle.codec.specs.Codec.{number}
use Rattle.codec.specs.Line.{Held, to_num, limit, widths, count, clear, nums, in_limits, cells, line}
use Rattle.codec.specs.Item.{slots_of, slots, beside, chain, is_one, subfields, item}
use Rattle.codec.specs.Field.{first_flag, next_flags, row, all_zero, indicator, body}
use Rattle.codec.specs.Frame.{accepted, settle, read_frame}
use Rattle.papers.specs.Cat048.{cat048}
use Rattle.papers.specs.Cat021.{cat021}
use Rattle.papers.specs.Cat007.{cat007}
use Rattle.papers.specs.Papers.{paper_of}

pub record Specimen : Type 0 where
  pub cat : ℕ
  pub octets : List ℕ
  pub items : ℕ
  pub held : List Held

unfoldable pub specimens : List Specimen
specimens =
    record {
      cat = 48;
      octets = 0x34 ∷ 0xF8 ∷ 0xFE ∷ 0x3E ∷ 0x3C ∷ 0xFD ∷ 0x1C ∷ 0x2E ∷ 0xC5 ∷ 0x14 ∷ 0xA6 ∷ 0xA1 ∷ 0x49 ∷ 0xD8 ∷ 0x3F ∷ 0xD8 ∷ 0x4F ∷ 0x31 ∷ 0x98 ∷ 0x03 ∷ 0xFF ∷ 0x80 ∷ 0xAE ∷ 0x28 ∷ 0xD0 ∷ 0x05 ∷ 0xC8 ∷ 0xDA ∷ 0x42 ∷ 0xEE ∷ 0xAD ∷ 0xF7 ∷ 0x5F ∷ 0x7F ∷ 0xDB ∷ 0xCD ∷ 0xD1 ∷ 0xB5 ∷ 0x1D ∷ 0x13 ∷ 0x06 ∷ 0xF0 ∷ 0x81 ∷ 0xCD ∷ 0x73 ∷ 0xC0 ∷ 0x09 ∷ 0xDD ∷ 0xE3 ∷ 0x99 ∷ 0xA4 ∷ 0x6D ∷ [];
      items = 0xF8;
      held =
          (1, pos 1 ∷ pos 1 ∷ pos 1 ∷ pos 1 ∷ pos 1 ∷ pos 1 ∷ pos 1 ∷ pos 0 ∷ pos 0 ∷ pos 1 ∷ pos 1 ∷ pos 1 ∷ pos 1 ∷ pos 1 ∷ pos 15613 ∷ pos 0 ∷ pos 28 ∷ pos 46 ∷ negsuc 3861337 ∷ negsuc 6207015 ∷ pos 0 ∷ negsuc 39 ∷ pos 0 ∷ pos 1 ∷ pos 0 ∷ pos 3889 ∷ negsuc 103 ∷ pos 0 ∷ pos 0 ∷ pos 0 ∷ pos 0 ∷ pos 1 ∷ pos 1 ∷ [])
          ∷ (2, pos 1 ∷ pos 1 ∷ pos 1 ∷ pos 1 ∷ pos 1 ∷ pos 1 ∷ pos 1 ∷ pos 1 ∷ pos 1 ∷ pos 0 ∷ pos 1 ∷ pos 0 ∷ pos 1 ∷ pos 1 ∷ pos 1 ∷ pos 10448 ∷ pos 0 ∷ pos 1480 ∷ negsuc 2473233 ∷ negsuc 5376160 ∷ pos 1 ∷ negsuc 36 ∷ pos 1 ∷ pos 1 ∷ pos 0 ∷ pos 3537 ∷ negsuc 74 ∷ pos 0 ∷ pos 1 ∷ pos 1 ∷ pos 1 ∷ pos 0 ∷ pos 1 ∷ pos 19 ∷ [])
          ∷ (1, pos 3 ∷ [])
          ∷ (1, pos 1 ∷ pos 1 ∷ pos 1 ∷ pos 1 ∷ pos 129 ∷ pos 52595 ∷ pos 49161 ∷ pos 56803 ∷ [])
          ∷ (0, pos 10069101 ∷ [])
          ∷ [];
    }
    ∷ record {
      cat = 21;
      octets = 0x1F ∷ 0xFF ∷ 0x0E ∷ 0x01 ∷ 0x03 ∷ 0xAA ∷ 0xAC ∷ 0xFF ∷ 0xE9 ∷ 0x35 ∷ 0xB8 ∷ 0xB7 ∷ 0xFD ∷ 0xC1 ∷ 0xDF ∷ 0x5F ∷ 0xFC ∷ 0xB6 ∷ 0xEA ∷ 0xFC ∷ 0xFA ∷ 0x2A ∷ 0xDD ∷ 0x07 ∷ 0xFC ∷ 0x2C ∷ 0xCB ∷ 0x3B ∷ 0x1C ∷ 0x0C ∷ 0xB5 ∷ [];
      items = 0xFF;
      held =
          (0, pos 3585 ∷ [])
          ∷ (0, pos 0 ∷ pos 0 ∷ pos 938 ∷ [])
          ∷ (0, pos 1 ∷ pos 0 ∷ pos 1 ∷ pos 0 ∷ pos 1 ∷ pos 1 ∷ [])
          ∷ (0, pos 7 ∷ pos 31 ∷ [])
          ∷ (2, pos 1 ∷ pos 1 ∷ pos 1 ∷ pos 0 ∷ pos 1178 ∷ pos 92 ∷ [])
          ∷ (6, pos 1 ∷ pos 0 ∷ pos 1 ∷ pos 2 ∷ pos 1 ∷ pos 1 ∷ pos 1 ∷ pos 7 ∷ pos 1 ∷ pos 2 ∷ pos 1 ∷ pos 2 ∷ pos 0 ∷ pos 0 ∷ pos 0 ∷ pos 0 ∷ pos 1 ∷ pos 2 ∷ pos 1 ∷ pos 7 ∷ pos 0 ∷ pos 2 ∷ pos 1 ∷ pos 7 ∷ pos 1 ∷ pos 31 ∷ [])
          ∷ (0, pos 46826 ∷ [])
          ∷ (1, pos 1 ∷ pos 1 ∷ pos 1 ∷ pos 1 ∷ pos 1 ∷ pos 1 ∷ pos 1 ∷ pos 1 ∷ pos 1 ∷ pos 1 ∷ pos 1 ∷ pos 0 ∷ pos 1 ∷ pos 0 ∷ pos 10973 ∷ pos 2044 ∷ pos 0 ∷ pos 1 ∷ pos 3275 ∷ pos 1 ∷ pos 1 ∷ pos 1 ∷ pos 0 ∷ pos 1 ∷ pos 1 ∷ pos 28 ∷ pos 0 ∷ pos 0 ∷ pos 3253 ∷ [])
          ∷ [];
    }
    ∷ record {
      cat = 7;
      octets = 0x26 ∷ 0xF8 ∷ 0x2E ∷ 0xF1 ∷ 0x20 ∷ 0x56 ∷ 0xFF ∷ 0x80 ∷ 0x48 ∷ 0x20 ∷ 0xB8 ∷ 0x0E ∷ 0x9C ∷ 0xC4 ∷ 0x35 ∷ 0x96 ∷ 0x85 ∷ 0x6B ∷ 0x8B ∷ 0x7F ∷ 0xF9 ∷ 0x6A ∷ 0xED ∷ 0xB8 ∷ 0x28 ∷ 0x16 ∷ 0x04 ∷ 0xF0 ∷ 0xDB ∷ 0xE9 ∷ 0x4B ∷ 0xA5 ∷ 0x77 ∷ 0xF3 ∷ 0x0B ∷ 0xEA ∷ 0x9E ∷ 0x7A ∷ [];
      items = 0xF8;
      held =
          (0, negsuc 4366 ∷ negsuc 8105 ∷ [])
          ∷ (2, pos 1 ∷ pos 1 ∷ pos 1 ∷ pos 1 ∷ pos 1 ∷ pos 1 ∷ pos 1 ∷ pos 1 ∷ pos 0 ∷ pos 1 ∷ pos 0 ∷ pos 0 ∷ pos 1 ∷ pos 0 ∷ pos 0 ∷ pos 8376 ∷ pos 1 ∷ pos 1692 ∷ negsuc 3918441 ∷ negsuc 8033396 ∷ pos 1 ∷ negsuc 6 ∷ pos 0 ∷ pos 1 ∷ pos 1 ∷ pos 2797 ∷ negsuc 71 ∷ pos 1 ∷ pos 0 ∷ pos 1 ∷ pos 0 ∷ pos 0 ∷ pos 0 ∷ pos 22 ∷ [])
          ∷ (1, pos 2 ∷ [])
          ∷ (1, pos 1 ∷ pos 1 ∷ pos 1 ∷ pos 1 ∷ pos 219 ∷ pos 59723 ∷ pos 42359 ∷ pos 62219 ∷ [])
          ∷ (0, pos 15375994 ∷ [])
          ∷ [];
    }
    ∷ []

pub specimens_read : map (λ (p : Specimen). read_frame (body (paper_of p.cat)) p.octets) specimens ≡ map (λ (p : Specimen). accepted (p.items, p.held)) specimens
unfolding specimens paper_of cat048 cat021 cat007 settle read_frame body indicator all_zero row first_flag next_flags slots item chain beside subfields is_one slots_of line cells number to_num to_signed limit widths count clear nums in_limits total cut join
specimens_read = refl
