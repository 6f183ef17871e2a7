-- The format of a line gives what its codec reads.
use Rattle.std.specs.Prelude.{◌≡◌, Bool, true, false, List, ℕ, ◌+◌, ◌-◌, ◌*◌, ◌^◌, ◌/◌, ◌%◌, ◌≤◌, ◌<◌, T, eqb, length, take, drop}
use Rattle.std.proofs.Math.Path.{refl, sym, ap}
use Rattle.std.proofs.Common.{ap₂, ◌∙◌, subst, mod-eq_of_lt, eq-eqb, ne_eqb, length-drop, shr_lt}
use native.Mathlib.Omega.{arith}
use Rattle.std.specs.Int.Bits.{bit_and}
use Rattle.std.proofs.Math.Dec.{eqb→eq}
use Rattle.codec.specs.Radix.{total, cut, join, eights}
use Rattle.codec.specs.Codec.{got, bad, shift}
use Rattle.codec.specs.Line.{Line, widths, count, clear, nums, in_limits, line, fills}
use Rattle.codec.proofs.Laws.Radix.{total-eights}
use Rattle.codec.specs.Mask.{spare_mask}
use Rattle.codec.proofs.Laws.Mask.{spare_test}
use Rattle.codec.proofs.Laws.Line.{whole_of, digits_of, line_short, line_spare, line_limit, line_there}
use Rattle.lengths.specs.declared.Format.{Format}
use Rattle.lengths.specs.Lines.{placed_at, line_at, first_at, count_at, pieces_from, format_of}
use Rattle.lengths.specs.Laws.Lines.{line_filled}
use Rattle.lengths.specs.Laws.Formats.{format_octets, format_pieces, format_first}
use Rattle.reader.specs.Steps.{line_run}
use Rattle.reader.specs.Numbers.{nums_at}
use Rattle.reader.specs.Laws.Numbers.{nums_at_lem, length-nums_at}
use Rattle.papers.specs.Papers.{SLOTS}

-- the octets of a line as a number n below 2 ^ (8 k): the digits above FX
module _ (l : Line) (good : T (fills l)) (n : ℕ) (lt : n < 2 ^ (8 * l.octets)) where
  bits_are : 8 * l.octets ≡ total (widths l.pieces) + l.fx
  unfolding fills
  bits_are = sym (total-eights l.octets) ∙ eqb→eq (total (eights l.octets)) (total (widths l.pieces) + l.fx) good

  above_lt : n / 2 ^ l.fx < 2 ^ total (widths l.pieces)
  above_lt = shr_lt (total (widths l.pieces)) l.fx (subst (λ m. n < 2 ^ m) bits_are lt)

  pub clear_is : eqb (bit_and n (spare_mask l)) 0 ≡ clear l.pieces (cut (widths l.pieces) (n / 2 ^ l.fx))
  clear_is = spare_test l n above_lt

  pub nums_are : nums_at l.pieces n (8 * l.octets) ≡ nums l.pieces (cut (widths l.pieces) (n / 2 ^ l.fx))
  nums_are = ap (nums_at l.pieces n) bits_are ∙ nums_at_lem l.pieces n l.fx ∙ ap (λ m. nums l.pieces (cut (widths l.pieces) m)) (mod-eq_of_lt above_lt)

-- its numbers have slots in the record
pub row_room : (b : ℕ) {r : Format} (er : r ≡ format_of (placed_at b)) (n base : ℕ) → base + (first_at b + count_at b) ≤ SLOTS → base + r.first + length (nums_at (pieces_from r.runs r.pieces) n (8 * r.octets)) ≤ SLOTS
row_room b {r} er n base h =
    let e : length (nums_at (pieces_from r.runs r.pieces) n (8 * r.octets)) ≡ count_at b = length-nums_at (pieces_from r.runs r.pieces) n (8 * r.octets) ∙ ap count (format_pieces b er) in
    let f : r.first ≡ first_at b = format_first b er in
    omega arith

-- ---- the ways out of `seen`, by its format and the tests that the code makes

module _ (xs : List ℕ) (at b : ℕ) {r : Format} (er : r ≡ format_of (placed_at b)) where
  falls : {e : ℕ} → (line (line_at b)).read (drop at xs) ≡ bad e 0 → line_run b xs at ≡ bad e at
  unfolding line_run
  falls h = let z : at + 0 ≡ at = omega arith in rw (h, z) refl

  behind_at_lem : length (drop at xs) ≡ length xs - at
  behind_at_lem = length-drop at xs

  pub line_missing : length xs - at < r.octets → line_run b xs at ≡ bad 5 at
  line_missing h = let d = behind_at_lem in falls (line_short (line_at b) (drop at xs) (omega (arith, h, d, format_octets b er)))

  module _ (h : r.octets ≤ length xs - at) {n : ℕ} (en : n ≡ join (eights r.octets) (take r.octets (drop at xs))) (lt : n < 2 ^ (8 * r.octets)) where
    all_there : (line_at b).octets ≤ length (drop at xs)
    all_there = let d = behind_at_lem in omega (arith, h, d, format_octets b er)

    as_whole : n ≡ whole_of (line_at b) (drop at xs)
    as_whole = en ∙ ap (λ j. join (eights j) (take j (drop at xs))) (format_octets b er)

    below : n < 2 ^ (8 * (line_at b).octets)
    below = subst (λ j. n < 2 ^ (8 * j)) (format_octets b er) lt

    is_clear : {t : Bool} → eqb (bit_and n r.spare) 0 ≡ t → clear (line_at b).pieces (digits_of (line_at b) (drop at xs)) ≡ t
    is_clear e =
        ap (λ m. clear (line_at b).pieces (cut (widths (line_at b).pieces) (m / 2 ^ (line_at b).fx))) (sym as_whole) ∙ sym (clear_is (line_at b) (line_filled b) n below)
        ∙ ap (λ (x : Format). eqb (bit_and n x.spare) 0) (sym er) ∙ e

    pub line_spared : (bit_and n r.spare ≡ 0 → ⊥) → line_run b xs at ≡ bad 6 at
    line_spared z = falls (line_spare (line_at b) (drop at xs) all_there (is_clear (ne_eqb (bit_and n r.spare) 0 z)))

    pub numbers_are : nums_at (pieces_from r.runs r.pieces) n (8 * r.octets) ≡ nums (line_at b).pieces (digits_of (line_at b) (drop at xs))
    numbers_are =
        ap₂ (λ ps j. nums_at ps n (8 * j)) (format_pieces b er) (format_octets b er) ∙ nums_are (line_at b) (line_filled b) n below
        ∙ ap (λ m. nums (line_at b).pieces (cut (widths (line_at b).pieces) (m / 2 ^ (line_at b).fx))) as_whole

    module _ (z : bit_and n r.spare ≡ 0) {ok : Bool} (eo : ok ≡ in_limits (pieces_from r.runs r.pieces) (nums_at (pieces_from r.runs r.pieces) n (8 * r.octets))) where
      are_in : {t : Bool} → ok ≡ t → in_limits (line_at b).pieces (nums (line_at b).pieces (digits_of (line_at b) (drop at xs))) ≡ t
      are_in e = ap₂ in_limits (sym (format_pieces b er)) (sym numbers_are) ∙ sym eo ∙ e

      pub line_outside : ok ≡ false → line_run b xs at ≡ bad 8 at
      line_outside e = falls (line_limit (line_at b) (drop at xs) all_there (is_clear (eq-eqb _ 0 z)) (are_in e))

      pub line_found : ok ≡ true → line_run b xs at ≡ got (whole_of (line_at b) (drop at xs) % 2 ^ (line_at b).fx, nums (line_at b).pieces (digits_of (line_at b) (drop at xs))) (at + r.octets)
      unfolding line_run
      line_found e =
          ap (shift at) (line_there (line_at b) (drop at xs) all_there (is_clear (eq-eqb _ 0 z)) (are_in e))
          ∙ ap (λ j. got (whole_of (line_at b) (drop at xs) % 2 ^ (line_at b).fx, nums (line_at b).pieces (digits_of (line_at b) (drop at xs))) (at + j)) (sym (format_octets b er))
