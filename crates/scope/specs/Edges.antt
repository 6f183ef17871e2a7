-- 01, 'Octets tried at each edge': the rows marked P, the worked edits and the angles, computed from the definitions; and beside them, in the same form,
-- rows that show the order of checks of the other operations.
use Rattle.std.specs.Prelude.{◌≡◌, refl, Bool, true, false, List, [], ◌∷◌, map, ℕ, ℤ, pos, negsuc, replicate, set}
use Rattle.codec.specs.Signed.{to_signed, of_signed, in_signed}
use Rattle.codec.specs.Radix.{total, cut, join, digits}
use Rattle.codec.specs.Codec.{number}
use Rattle.codec.specs.Line.{to_num, of_num, in_num, limit, widths, count, clear, nums, unnums, fit_nums, in_limits, cells, line}
use Rattle.codec.specs.Item.{slots_of, slots, is_zero, zeros, beside, fx_of, chain, is_one, subfields, item}
use Rattle.codec.specs.Field.{is_nil, is_cons, uncons, first_flag, next_flags, row, all_zero, indicator, body, texts, texts_of, before}
use Rattle.codec.specs.Frame.{Outcome, accepted, refused, settle, read_frame, write_frame, okay_frame}
use Rattle.codec.specs.Meaning.{len_of}
use Rattle.codec.specs.Change.{Change, remove, put, set_flag, set_item, blank_at, alone, put_in, change}
use Rattle.papers.specs.Cat048.{cat048}
use Rattle.papers.specs.Cat021.{cat021}
use Rattle.papers.specs.Cat007.{cat007}
use Rattle.papers.specs.Papers.{known, paper_of, SLOTS, all_slots}
use Rattle.layout.specs.declared.Record.{Record}
use Rattle.layout.specs.Answer.{Reading, View, Shown, Hidden, Accepted, Refused}
use Rattle.layout.specs.declared.Which.{Which}
use Rattle.layout.specs.declared.Which.TheVariants.{Neither, Base, Correction}
use Rattle.layout.specs.Record.{all_parts, all_numbers, flatten, regroup, unflatten, no_parts, fits_paper, contents}
use Rattle.scope.specs.Reading.{field_of, no_record, shown, read_of}
use Rattle.scope.specs.Writing.{writable, written, write_of}
use Rattle.scope.specs.Outputs.{with_room}
use Rattle.scope.specs.Views.{is_item, present, standing, view_in, view_of, choose_in, choose_of}
use Rattle.scope.specs.Desk.{listed, afresh, edit_in, edit_of}
use Rattle.scope.specs.Visitors.{without, copy_in, copy_of}
use Rattle.scope.specs.Angle.{rounded, udeg_of, left_of}
use Rattle.scope.specs.Pressure.{eq_int, stands}

-- ---- reading

-- the number n refused at p; a record of category 48 with one item, whose parts stand at its place, and some numbers at their slots
abbrev no : ℕ → ℕ → Reading
no n p = record { answer = Refused n p; kept = no_record }

numbers_at : List (ℕ × ℤ) → List ℤ
numbers_at [] = replicate SLOTS (pos 0)
numbers_at (p ∷ ps) = set (numbers_at ps) p.0 p.1

abbrev one : ℕ → ℕ → ℕ → ℕ → List (ℕ × ℤ) → Reading
one len ind place parts ps = record {
  answer = Accepted len;
  kept = record { cat = 48; items = ind; parts = set (replicate 8 0) place parts; numbers = numbers_at ps };
}

abbrev pub Edge : Type 0
Edge = List ℕ × Reading

unfoldable pub edges : List Edge
unfolding numbers_at
edges =
    (2 ∷ 0x00 ∷ [], one 2 0 0 0 [])
    ∷ (2 ∷ 0x80 ∷ [], no 5 2)
    ∷ (3 ∷ 0x20 ∷ 0x06 ∷ [], one 3 0x20 2 1 ((67, pos 3) ∷ []))
    ∷ (3 ∷ 0x20 ∷ 0x0F ∷ [], no 6 2)
    ∷ (3 ∷ 0x20 ∷ 0x07 ∷ [], no 7 2)
    ∷ (4 ∷ 0x40 ∷ 0x01 ∷ 0x00 ∷ [], one 4 0x40 1 2 [])
    ∷ (4 ∷ 0x40 ∷ 0x01 ∷ 0x01 ∷ [], no 7 3)
    ∷ (5 ∷ 0x80 ∷ 0x10 ∷ 0x3F ∷ 0xD8 ∷ [], one 5 0x80 0 1 ((3, pos 1) ∷ (21, negsuc 39) ∷ []))
    ∷ (5 ∷ 0x80 ∷ 0x10 ∷ 0x3F ∷ 0xD7 ∷ [], no 8 3)
    ∷ (4 ∷ 0x80 ∷ 0x04 ∷ 0xFF ∷ [], one 4 0x80 0 1 ((5, pos 1) ∷ (26, negsuc 0) ∷ []))
    ∷ (9 ∷ 0x80 ∷ 0x20 ∷ 0x40 ∷ 0x00 ∷ 0x00 ∷ 0x80 ∷ 0x00 ∷ 0x00 ∷ [], one 9 0x80 0 1 ((2, pos 1) ∷ (18, pos 4_194_304) ∷ (19, negsuc 8_388_607) ∷ []))
    ∷ (6 ∷ 0x08 ∷ 0x01 ∷ 0x00 ∷ 0x00 ∷ 0x00 ∷ [], no 9 5)
    ∷ []

pub edges_read : map (λ (r : Edge). read_of 48 r.0) edges ≡ map (λ (r : Edge). r.1) edges
unfolding edges numbers_at no_record read_of shown field_of known paper_of cat048 flatten all_parts all_numbers all_slots len_of settle read_frame body indicator all_zero row first_flag next_flags slots item chain beside subfields is_one slots_of line cells number to_num to_signed limit widths count clear nums in_limits total cut join
edges_read = refl

-- ---- writing: 1, 10, 11. A record of category 48 with M4E 3, and what it lacks

pub record Draft : Type 0 where
  pub cat : ℕ
  pub items : ℕ
  pub parts : List ℕ
  pub numbers : List ℤ
  pub room : ℕ
  pub gives : Outcome (List ℕ)

unfoldable pub drafts : List Draft
unfolding numbers_at
drafts =
    record { cat = 48; items = 0x20; parts = set (replicate 8 0) 2 1; numbers = numbers_at ((67, pos 3) ∷ []); room = 3; gives = accepted (3 ∷ 0x20 ∷ 0x06 ∷ []) }
    ∷ record { cat = 48; items = 0x20; parts = set (replicate 8 0) 2 1; numbers = numbers_at ((67, pos 3) ∷ []); room = 2; gives = refused 11 0 }
    ∷ record { cat = 48; items = 0x20; parts = set (replicate 8 0) 2 1; numbers = numbers_at ((67, pos 4) ∷ []); room = 2; gives = refused 10 0 }
    ∷ record { cat = 48; items = 0x00; parts = set (replicate 8 0) 2 1; numbers = numbers_at []; room = 3; gives = refused 10 0 }
    ∷ record { cat = 48; items = 0x00; parts = replicate 8 0; numbers = numbers_at ((76, negsuc 0) ∷ []); room = 3; gives = refused 10 0 }
    ∷ record { cat = 49; items = 0x20; parts = replicate 8 0; numbers = numbers_at []; room = 0; gives = refused 1 0 }
    ∷ []

abbrev record_of : Draft → Record
record_of d = record { cat = d.cat; items = d.items; parts = d.parts; numbers = d.numbers }

pub drafts_written : map (λ (d : Draft). write_of (record_of d) d.room) drafts ≡ map (λ (d : Draft). d.gives) drafts
unfolding drafts numbers_at write_of writable written with_room known paper_of cat048 contents flatten unflatten regroup fits_paper no_parts all_slots okay_frame write_frame body indicator all_zero row first_flag next_flags uncons is_cons is_nil slots zeros is_zero item chain fx_of beside subfields is_one slots_of line cells number of_num in_num of_signed in_signed to_signed limit widths count clear unnums fit_nums in_limits digits total cut join
drafts_written = refl

-- ---- views and choices in `03 20 06` and `06 28 06 01 00 00`: the reader's refusals, 12, 15; 1, the base's, the correction's, 12, 15

unfoldable pub views : List (ℕ × List ℕ × ℕ × View)
views =
    (48, 0x06 ∷ 0x28 ∷ 0x06 ∷ 0x01 ∷ 0x00 ∷ 0x00 ∷ [], 3, Shown 2 1)
    ∷ (48, 0x06 ∷ 0x28 ∷ 0x06 ∷ 0x01 ∷ 0x00 ∷ 0x00 ∷ 0xFF ∷ [], 5, Shown 3 3)
    ∷ (48, 0x03 ∷ 0x20 ∷ 0x06 ∷ [], 5, Hidden 15 0)
    ∷ (48, 0x03 ∷ 0x20 ∷ 0x06 ∷ [], 6, Hidden 12 0)
    ∷ (48, 0x03 ∷ 0x20 ∷ 0x06 ∷ [], 0, Hidden 12 0)
    ∷ (48, 0x03 ∷ 0x20 ∷ 0x07 ∷ [], 6, Hidden 7 2)
    ∷ (49, [], 6, Hidden 1 0)
    ∷ []

pub views_shown : map (λ (p : ℕ × List ℕ × ℕ × View). view_of p.0 p.1 p.2) views ≡ map (λ (p : ℕ × List ℕ × ℕ × View). p.3) views
unfolding views view_of view_in standing present is_item field_of known paper_of cat048 texts texts_of before len_of settle read_frame body indicator all_zero row first_flag next_flags uncons slots item chain fx_of beside subfields is_one slots_of line cells number to_num of_num to_signed of_signed limit widths count clear nums unnums in_limits total cut join
views_shown = refl

pub record Pair : Type 0 where
  pub cat : ℕ
  pub base : List ℕ
  pub correction : List ℕ
  pub item : ℕ
  pub which : Which
  pub view : View

unfoldable pub pairs : List Pair
pairs =
    record { cat = 48; base = 0x06 ∷ 0x28 ∷ 0x06 ∷ 0x01 ∷ 0x00 ∷ 0x00 ∷ []; correction = 0x03 ∷ 0x20 ∷ 0x04 ∷ []; item = 3; which = Correction; view = Shown 2 1 }
    ∷ record { cat = 48; base = 0x06 ∷ 0x28 ∷ 0x06 ∷ 0x01 ∷ 0x00 ∷ 0x00 ∷ []; correction = 0x03 ∷ 0x20 ∷ 0x04 ∷ []; item = 5; which = Base; view = Shown 3 3 }
    ∷ record { cat = 48; base = 0x03 ∷ 0x20 ∷ 0x06 ∷ []; correction = 0x03 ∷ 0x20 ∷ 0x04 ∷ []; item = 5; which = Neither; view = Hidden 15 0 }
    ∷ record { cat = 48; base = 0x03 ∷ 0x20 ∷ 0x06 ∷ []; correction = 0x03 ∷ 0x20 ∷ 0x04 ∷ []; item = 9; which = Neither; view = Hidden 12 0 }
    ∷ record { cat = 48; base = 0x03 ∷ 0x20 ∷ 0x06 ∷ []; correction = 0x02 ∷ 0x80 ∷ []; item = 9; which = Correction; view = Hidden 5 2 }
    ∷ record { cat = 48; base = 0x03 ∷ 0x20 ∷ 0x0F ∷ []; correction = 0x02 ∷ 0x80 ∷ []; item = 9; which = Base; view = Hidden 6 2 }
    ∷ record { cat = 0; base = []; correction = []; item = 9; which = Neither; view = Hidden 1 0 }
    ∷ []

pub pairs_chosen : map (λ (p : Pair). choose_of p.cat p.base p.correction p.item) pairs ≡ map (λ (p : Pair). record { which = p.which; view = p.view }) pairs
unfolding pairs choose_of choose_in standing present is_item known paper_of cat048 texts texts_of before len_of settle read_frame body indicator all_zero row first_flag next_flags uncons slots item chain fx_of beside subfields is_one slots_of line cells number to_num of_num to_signed of_signed limit widths count clear nums unnums in_limits total cut join
pairs_chosen = refl

-- ---- "Edits of `06 28 06 01 00 00`"

pub record Try : Type 0 where
  pub list : ℕ
  pub item : ℕ
  pub what : Change
  pub room : ℕ
  pub gives : Outcome (List ℕ)

unfoldable pub tries : List Try
tries =
    record { list = 0xFF; item = 5; what = put (0x02 ∷ 0x00 ∷ 0x00 ∷ []); room = 52; gives = accepted (0x06 ∷ 0x28 ∷ 0x06 ∷ 0x02 ∷ 0x00 ∷ 0x00 ∷ []) }
    ∷ record { list = 0xFF; item = 3; what = remove; room = 52; gives = accepted (0x05 ∷ 0x08 ∷ 0x01 ∷ 0x00 ∷ 0x00 ∷ []) }
    ∷ record { list = 0xFF; item = 4; what = put (0x80 ∷ 0x07 ∷ []); room = 52; gives = accepted (0x08 ∷ 0x38 ∷ 0x06 ∷ 0x80 ∷ 0x07 ∷ 0x01 ∷ 0x00 ∷ 0x00 ∷ []) }
    ∷ record { list = 0x30; item = 5; what = put (0x02 ∷ 0x00 ∷ 0x00 ∷ []); room = 52; gives = refused 13 0 }
    ∷ record { list = 0x00; item = 6; what = put []; room = 0; gives = refused 12 0 }
    ∷ record { list = 0x30; item = 5; what = put []; room = 0; gives = refused 13 0 }
    ∷ record { list = 0xFF; item = 3; what = put (0x0F ∷ []); room = 0; gives = refused 14 0 }
    ∷ record { list = 0xFF; item = 3; what = put (0x06 ∷ 0x00 ∷ []); room = 0; gives = refused 14 0 }
    ∷ record { list = 0xFF; item = 2; what = put (0x01 ∷ 0x00 ∷ []); room = 7; gives = refused 11 0 }
    ∷ record { list = 0xFF; item = 1; what = remove; room = 52; gives = accepted (0x06 ∷ 0x28 ∷ 0x06 ∷ 0x01 ∷ 0x00 ∷ 0x00 ∷ []) }
    ∷ []

pub tries_edited : map (λ (t : Try). edit_of 48 (0x06 ∷ 0x28 ∷ 0x06 ∷ 0x01 ∷ 0x00 ∷ 0x00 ∷ []) t.list t.item t.what t.room) tries ≡ map (λ (t : Try). t.gives) tries
unfolding tries edit_of edit_in afresh with_room listed is_item field_of known paper_of cat048 change put_in alone blank_at set_item set_flag len_of settle read_frame write_frame body indicator all_zero row first_flag next_flags uncons slots item chain fx_of beside subfields is_one slots_of line cells number to_num of_num to_signed of_signed limit widths count clear nums unnums in_limits total cut join
tries_edited = refl

-- ---- 02, Ask 5: copies of `06 28 06 01 00 00`, of a field of category 21 with its first and its last item, and of one of category 7. Room is asked of the
-- copy, a spare place of the list has no effect, and with all withheld `02 00` is left

pub record Visit : Type 0 where
  pub cat : ℕ
  pub field : List ℕ
  pub withheld : ℕ
  pub room : ℕ
  pub gives : Outcome (List ℕ)

unfoldable pub visits : List Visit
visits =
    record { cat = 48; field = 0x06 ∷ 0x28 ∷ 0x06 ∷ 0x01 ∷ 0x00 ∷ 0x00 ∷ []; withheld = 0x00; room = 6; gives = accepted (0x06 ∷ 0x28 ∷ 0x06 ∷ 0x01 ∷ 0x00 ∷ 0x00 ∷ []) }
    ∷ record { cat = 48; field = 0x06 ∷ 0x28 ∷ 0x06 ∷ 0x01 ∷ 0x00 ∷ 0x00 ∷ []; withheld = 0x20; room = 5; gives = accepted (0x05 ∷ 0x08 ∷ 0x01 ∷ 0x00 ∷ 0x00 ∷ []) }
    ∷ record { cat = 48; field = 0x06 ∷ 0x28 ∷ 0x06 ∷ 0x01 ∷ 0x00 ∷ 0x00 ∷ []; withheld = 0x20; room = 4; gives = refused 11 0 }
    ∷ record { cat = 48; field = 0x06 ∷ 0x28 ∷ 0x06 ∷ 0x01 ∷ 0x00 ∷ 0x00 ∷ 0xFF ∷ []; withheld = 0x08; room = 3; gives = accepted (0x03 ∷ 0x20 ∷ 0x06 ∷ []) }
    ∷ record { cat = 48; field = 0x06 ∷ 0x28 ∷ 0x06 ∷ 0x01 ∷ 0x00 ∷ 0x00 ∷ []; withheld = 0xFF; room = 2; gives = accepted (0x02 ∷ 0x00 ∷ []) }
    ∷ record { cat = 48; field = 0x06 ∷ 0x28 ∷ 0x06 ∷ 0x01 ∷ 0x00 ∷ 0x00 ∷ []; withheld = 0xFF; room = 1; gives = refused 11 0 }
    ∷ record { cat = 48; field = 0x06 ∷ 0x28 ∷ 0x06 ∷ 0x01 ∷ 0x00 ∷ 0x00 ∷ []; withheld = 0x07; room = 6; gives = accepted (0x06 ∷ 0x28 ∷ 0x06 ∷ 0x01 ∷ 0x00 ∷ 0x00 ∷ []) }
    ∷ record { cat = 48; field = 0x06 ∷ 0x28 ∷ 0x06 ∷ 0x01 ∷ 0x00 ∷ 0x00 ∷ []; withheld = 0xD7; room = 6; gives = accepted (0x06 ∷ 0x28 ∷ 0x06 ∷ 0x01 ∷ 0x00 ∷ 0x00 ∷ []) }
    ∷ record { cat = 21; field = 0x05 ∷ 0x81 ∷ 0x0F ∷ 0xFF ∷ 0x00 ∷ []; withheld = 0x01; room = 4; gives = accepted (0x04 ∷ 0x80 ∷ 0x0F ∷ 0xFF ∷ []) }
    ∷ record { cat = 21; field = 0x05 ∷ 0x81 ∷ 0x0F ∷ 0xFF ∷ 0x00 ∷ []; withheld = 0x80; room = 4; gives = accepted (0x03 ∷ 0x01 ∷ 0x00 ∷ []) }
    ∷ record { cat = 21; field = 0x05 ∷ 0x81 ∷ 0x0F ∷ 0xFF ∷ 0x00 ∷ []; withheld = 0xFF; room = 2; gives = accepted (0x02 ∷ 0x00 ∷ []) }
    ∷ record { cat = 7; field = 0x07 ∷ 0xA0 ∷ 0x3F ∷ 0xFF ∷ 0x00 ∷ 0x19 ∷ 0x06 ∷ []; withheld = 0x80; room = 3; gives = accepted (0x03 ∷ 0x20 ∷ 0x06 ∷ []) }
    ∷ record { cat = 7; field = 0x07 ∷ 0xA0 ∷ 0x3F ∷ 0xFF ∷ 0x00 ∷ 0x19 ∷ 0x06 ∷ []; withheld = 0xF8; room = 2; gives = accepted (0x02 ∷ 0x00 ∷ []) }
    ∷ record { cat = 48; field = 0x03 ∷ 0x20 ∷ 0x0F ∷ []; withheld = 0x20; room = 0; gives = refused 6 2 }
    ∷ record { cat = 49; field = []; withheld = 0xFF; room = 0; gives = refused 1 0 }
    ∷ []

pub visits-copied : map (λ (v : Visit). copy_of v.cat v.field v.withheld v.room) visits ≡ map (λ (v : Visit). v.gives) visits
unfolding visits copy_of copy_in without with_room listed field_of known paper_of cat048 cat021 cat007 blank_at set_item set_flag len_of settle read_frame write_frame body indicator all_zero row first_flag next_flags uncons slots item chain fx_of beside subfields is_one slots_of line cells number to_num of_num to_signed of_signed limit widths count clear nums unnums in_limits total cut join
visits-copied = refl

-- ---- "Angles: 1 gives 21, 16,384 gives 351,563, -16,384 gives -351,563, 4,194,304 gives 90,000,000" (01); "so 16,384 leaves -16,384" (02, Ask 7). A number,
-- its millionths and what these leave: first 01's four, then the neighbours of a half, and the other ends

unfoldable pub angles : List (ℤ × ℤ × ℤ)
angles =
    (pos 1, pos 21, pos 14_997)
    ∷ (pos 16_384, pos 351_563, negsuc 16_383)
    ∷ (negsuc 16_383, negsuc 351_562, pos 16_384)
    ∷ (pos 4_194_304, pos 90_000_000, pos 0)
    ∷ (pos 16_383, pos 351_541, pos 1_387)
    ∷ (pos 16_385, pos 351_584, negsuc 1_386)
    ∷ (pos 0, pos 0, pos 0)
    ∷ (negsuc 4_194_303, negsuc 89_999_999, pos 0)
    ∷ (negsuc 8_388_607, negsuc 179_999_999, pos 0)
    ∷ (pos 8_388_607, pos 179_999_979, negsuc 14_996)
    ∷ []

pub angles_exact : map {B = ℤ × ℤ} (λ (a : ℤ × ℤ × ℤ). (udeg_of a.0, left_of a.0)) angles ≡ map {B = ℤ × ℤ} (λ (a : ℤ × ℤ × ℤ). (a.1, a.2)) angles
unfolding angles udeg_of left_of rounded
angles_exact = refl

-- ---- 02, Ask 1: "BPS 0 means 800 hPa or less, and 4,095 means 1209.5 hPa or more". A number, a setting in tenths of hPa, and whether the one can stand for the
-- other, at each end and beside it

pub record Setting : Type 0 where
  pub number : ℤ
  pub tenths : ℤ
  pub among : Bool

unfoldable pub settings : List Setting
settings =
    record { number = pos 0; tenths = negsuc 0; among = true }
    ∷ record { number = pos 0; tenths = pos 7_999; among = true }
    ∷ record { number = pos 0; tenths = pos 8_000; among = true }
    ∷ record { number = pos 0; tenths = pos 8_001; among = false }
    ∷ record { number = pos 1; tenths = pos 8_000; among = false }
    ∷ record { number = pos 1; tenths = pos 8_001; among = true }
    ∷ record { number = pos 1; tenths = pos 8_002; among = false }
    ∷ record { number = pos 4_094; tenths = pos 12_093; among = false }
    ∷ record { number = pos 4_094; tenths = pos 12_094; among = true }
    ∷ record { number = pos 4_094; tenths = pos 12_095; among = false }
    ∷ record { number = pos 4_095; tenths = pos 12_094; among = false }
    ∷ record { number = pos 4_095; tenths = pos 12_095; among = true }
    ∷ record { number = pos 4_095; tenths = pos 12_096; among = true }
    ∷ []

pub settings_stand : map (λ (s : Setting). stands s.number s.tenths) settings ≡ map (λ (s : Setting). s.among) settings
unfolding settings stands eq_int
settings_stand = refl
