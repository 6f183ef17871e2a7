-- What a format tells of its line, and the code of its pieces.
use Rattle.std.specs.Prelude.{◌≡◌, refl, ◌∷◌, T}
use Rattle.std.proofs.Common.{sym, ◌∙◌, subst, eq-eqb, ne_eqb}
use Rattle.std.proofs.Math.Path.{ap}
use Prim.Native.Nat.{ℕ, zero, suc, ◌-◌, ◌/◌, ◌%◌, ◌≤◌}
use native.Mathlib.Omega.{arith}
use Rattle.codec.specs.Line.{spare, num}
use Rattle.lengths.specs.declared.Format.{Format}
use Rattle.lengths.specs.Lines.{placed_at, line_at, first_at, kind_of, piece_of, pieces_from, narrow, format_of}
use Rattle.lengths.specs.Laws.Lines.{few_line_octets, few_pieces, few_fx, narrow_line, pieces_right}

module _ (b : ℕ) {r : Format} (er : r ≡ format_of (placed_at b)) where
  pub format_octets : r.octets ≡ (line_at b).octets
  format_octets = ap (λ (x : Format). x.octets) er

  pub format_few : r.octets ≤ 6
  format_few = subst (◌≤ 6) (sym format_octets) (few_line_octets b)

  pub format_pieces : pieces_from r.runs r.pieces ≡ (line_at b).pieces
  format_pieces = ap (λ (x : Format). pieces_from x.runs x.pieces) er ∙ pieces_right b

  pub format_runs : r.runs ≤ 8
  format_runs = subst (◌≤ 8) (sym (ap (λ (x : Format). x.runs) er)) (few_pieces b)

  pub format_narrow : T (narrow (pieces_from r.runs r.pieces))
  format_narrow = subst (λ ps. T (narrow ps)) (sym format_pieces) (narrow_line b)

  pub format_fx : r.below ≡ (line_at b).fx
  format_fx = ap (λ (x : Format). x.below) er

  pub format_fx_few : r.below ≤ 1
  format_fx_few = subst (◌≤ 1) (sym format_fx) (few_fx b)

  pub format_first : r.first ≡ first_at b
  format_first = ap (λ (x : Format). x.first) er

  pub format_flag : r.flag ≡ (line_at b).flag
  format_flag = ap (λ (x : Format). x.flag) er

-- ---- the first piece of a code is its lowest octet

module _ (code left : ℕ) (h : left ≡ 0 → ⊥) where
  more : pieces_from left code ≡ piece_of (code % 256) ∷ pieces_from (left - 1) (code / 256)
  unfolding pieces_from
  more = go left h
    where
      go : (left : ℕ) → (left ≡ 0 → ⊥) → pieces_from left code ≡ piece_of (code % 256) ∷ pieces_from (left - 1) (code / 256)
      go zero h = absurd (h refl)
      go (suc m) h = let e : suc m - 1 ≡ m = omega arith in rw e

  pub more_spare : code % 256 / 32 ≡ 0 → pieces_from left code ≡ spare (code % 256 % 32) ∷ pieces_from (left - 1) (code / 256)
  unfolding piece_of
  more_spare e = more ∙ ap (◌∷ pieces_from (left - 1) (code / 256)) (rw (eq-eqb (code % 256 / 32) 0 e) refl)

  pub more_num : (code % 256 / 32 ≡ 0 → ⊥) → pieces_from left code ≡ num (kind_of (code % 256 / 32)) (code % 256 % 32) ∷ pieces_from (left - 1) (code / 256)
  unfolding piece_of
  more_num e = more ∙ ap (◌∷ pieces_from (left - 1) (code / 256)) (rw (ne_eqb (code % 256 / 32) 0 e) refl)
