-- One line laid by its row: a number spilt into octets, and the ways out of `line`.
use Rattle.std.specs.Prelude.{◌≡◌, refl, List, ◌∷◌, ℕ, zero, suc, ◌+◌, ◌-◌, ◌*◌, ◌^◌, ◌/◌, ◌%◌, ◌≤◌, ◌<◌, T, ℤ, length, set}
use Rattle.std.proofs.Math.Path.{sym, ap, ap₂}
use Rattle.std.proofs.Common.{◌∙◌, subst, mod-lt, mod-eq_of_lt, add-one, arith, pow_pos, pow-add, shr_lt}
use Rattle.std.proofs.Math.Arith.{digits_lt}
use Rattle.std.proofs.Math.Dec.{eqb→eq}
use Rattle.std.proofs.Math.Seq.{sets}
use Rattle.codec.specs.Radix.{total, cut, join, eights}
use Rattle.codec.specs.Codec.{number}
use Rattle.codec.specs.Line.{Line, widths, unnums, fit_nums, cells, line, fills}
use Rattle.codec.proofs.Laws.Tests.{and_l, and_r}
use Rattle.codec.proofs.Laws.Radix.{total-eights}
use Rattle.codec.proofs.Laws.Line.{line_fx}
use Rattle.codec.proofs.Laws.Longest.{line_size}
use Rattle.lengths.specs.declared.Format.{Format}
use Rattle.lengths.specs.Lines.{placed_at, line_at, first_at, pieces_from, format_of}
use Rattle.lengths.specs.Laws.Lines.{line_filled}
use Rattle.lengths.specs.Laws.Formats.{format_octets, format_pieces, format_fx, format_first}
use Rattle.layout.specs.Laws.Slots.{Holds}
use Rattle.writer.specs.Digits.{gathered}
use Rattle.writer.specs.Laws.Digits.{gathered_lt, gathered_are}
use Rattle.writer.specs.Laying.{Lays}
use Rattle.papers.specs.Papers.{LONGEST}

-- ---- the ways out of `spill`

pub spill_none : (l : List ℕ) (at k n : ℕ) → k ≡ 0 → l ≡ sets l at (cut (eights k) n)
unfolding cut
spill_none l at k n e = rw e

module _ (k n : ℕ) (h : k ≡ 0 → ⊥) {full : ℕ} (ef : full ≡ 2 ^ (8 * (k - 1))) where
  one_more : eights k ≡ 8 ∷ eights (k - 1)
  one_more = go k h
    where
      go : (k : ℕ) → (k ≡ 0 → ⊥) → eights k ≡ 8 ∷ eights (k - 1)
      go zero h = absurd (h refl)
      go (suc j) h = let e : suc j - 1 ≡ j = omega arith in ap (λ i. 8 ∷ eights i) (sym e)

  full_is : full ≡ 2 ^ total (eights (k - 1))
  full_is = ef ∙ ap (2 ^◌) (sym (total-eights (k - 1)))

  pub spill_on : (l : List ℕ) (at : ℕ) {m q : List ℕ} → m ≡ set l at (n / full) → q ≡ sets m (at + 1) (cut (eights (k - 1)) (n % full)) → q ≡ sets l at (cut (eights k) n)
  unfolding cut
  spill_on l at em eq =
      eq ∙ ap₂ (λ x j. sets x j (cut (eights (k - 1)) (n % full))) em (add-one at)
      ∙ ap (λ p. sets (set l at (n / p)) (suc at) (cut (eights (k - 1)) (n % p))) full_is
      ∙ sym (ap (λ ws. sets l at (cut ws n)) one_more)

  pub spill_octet : n < 2 ^ (8 * k) → n / full < 256
  spill_octet lt =
      let e : 8 * k ≡ 8 + 8 * (k - 1) = omega arith in
      subst (λ p. n / p < 256) (sym ef) (shr_lt 8 (8 * (k - 1)) (subst (λ j. n < 2 ^ j) e lt))

  pub spill_rest : n % full < 2 ^ (8 * (k - 1))
  spill_rest = subst (λ p. n % p < 2 ^ (8 * (k - 1))) (sym ef) (mod-lt n (pow_pos (8 * (k - 1))))

-- ---- what the codec of a line writes

line_written : (l : Line) (fx : ℕ) (zs : List ℤ) → (line l).write (fx, zs) ≡ cut (eights l.octets) (join (widths l.pieces) (unnums l.pieces zs) * 2 ^ l.fx + fx)
unfolding line cells number
line_written l fx zs = refl

line_fits : (l : Line) (fx : ℕ) (zs : List ℤ) → T ((line l).okay (fx, zs)) → T (fit_nums l.pieces zs)
unfolding line
line_fits l fx zs t = search (and_l, and_r)

-- ---- the ways out of `line`, by its row

module _ (b : ℕ) {r : Format} (er : r ≡ format_of (placed_at b)) where
  bits_fill : 8 * (line_at b).octets ≡ total (widths (line_at b).pieces) + (line_at b).fx
  unfolding fills
  bits_fill = sym (total-eights (line_at b).octets) ∙ eqb→eq (total (eights (line_at b).octets)) (total (widths (line_at b).pieces) + (line_at b).fx) (line_filled b)

  pub row-bits : (r.below ≤ 8 * r.octets) × (8 * r.octets - r.below ≡ total (widths (pieces_from r.runs r.pieces)))
  row-bits =
      let a : r.octets ≡ (line_at b).octets = format_octets b er in
      let c : r.below ≡ (line_at b).fx = format_fx b er in
      let d : total (widths (pieces_from r.runs r.pieces)) ≡ total (widths (line_at b).pieces) = ap (λ ps. total (widths ps)) (format_pieces b er) in
      let e : 8 * (line_at b).octets ≡ total (widths (line_at b).pieces) + (line_at b).fx = bits_fill in
      (omega arith, omega arith)

  module _ (l : List ℤ) (base fx at : ℕ) (o : List ℕ) where
    pub line_full : LONGEST - r.octets < at → (zs : List ℤ) → Lays (line (line_at b)) (fx, zs) o at o at
    line_full h zs = record {
      laid = λ t room.
          let a : r.octets ≡ (line_at b).octets = format_octets b er in
          let s : length ((line (line_at b)).write (fx, zs)) ≡ (line_at b).octets = line_size (line_at b) (fx, zs) in
          let few : r.octets ≤ LONGEST = omega arith in
          absurd (omega arith);
    }

    module _ {n f : ℕ} (en : n ≡ gathered (pieces_from r.runs r.pieces) l (base + r.first)) (ef : f ≡ 2 ^ r.below) where
      -- the number that is spilt fits its octets
      pub line_number : n * f + fx % f < 2 ^ (8 * r.octets)
      line_number =
          let e : 8 * r.octets ≡ total (widths (pieces_from r.runs r.pieces)) + r.below = omega (arith, row-bits) in
          let p : n < 2 ^ total (widths (pieces_from r.runs r.pieces)) = subst (◌< 2 ^ total (widths (pieces_from r.runs r.pieces))) (sym en) (gathered_lt (pieces_from r.runs r.pieces) l (base + r.first)) in
          rw (ef, e, pow-add 2 (total (widths (pieces_from r.runs r.pieces))) r.below) (digits_lt p (mod-lt fx (pow_pos r.below)))

      pub line_laid : {m : List ℕ} {next : ℕ} → m ≡ sets o at (cut (eights r.octets) (n * f + fx % f)) → next ≡ at + r.octets → (zs : List ℤ) → Holds l (base + first_at b) zs → Lays (line (line_at b)) (fx, zs) o at m next
      line_laid em e zs h = record {
        laid = λ t room.
            let lo : fx % 2 ^ (line_at b).fx ≡ fx = mod-eq_of_lt (line_fx (line_at b) (fx, zs) t) in
            let whole : n ≡ join (widths (line_at b).pieces) (unnums (line_at b).pieces zs)
            = en ∙ ap₂ (λ ps i. gathered ps l (base + i)) (format_pieces b er) (format_first b er) ∙ gathered_are (line_at b).pieces l (base + first_at b) zs h (line_fits (line_at b) fx zs t) in
            let pf : f ≡ 2 ^ (line_at b).fx = ef ∙ ap (2 ^◌) (format_fx b er) in
            let same : n * f + fx % f ≡ join (widths (line_at b).pieces) (unnums (line_at b).pieces zs) * 2 ^ (line_at b).fx + fx
            = ap₂ ◌+◌ (ap₂ ◌*◌ whole pf) (ap (fx %◌) pf ∙ lo) in record {
              octets = em ∙ ap (sets o at) (ap₂ (λ k x. cut (eights k) x) (format_octets b er) same ∙ sym (line_written (line_at b) fx zs));
              place = e ∙ ap (at +◌) (format_octets b er ∙ sym (line_size (line_at b) (fx, zs)));
            };
      }
