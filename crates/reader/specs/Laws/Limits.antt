-- The limits of a line's numbers, piece by piece.
use Rattle.std.specs.Prelude.{◌≡◌, refl, Bool, true, ◌&&◌, List, ℕ, zero, suc, ◌-◌, ◌^◌, ◌/◌, ◌%◌, ◌≤◌, ◌<◌, leb}
use Rattle.std.proofs.Math.Path.{sym, subst}
use Rattle.std.proofs.Math.Dec.{T, leb→le}
use Rattle.codec.specs.Line.{Piece, to_num, limit, in_limits}
use Rattle.codec.proofs.Laws.Tests.{and_l, and_r}
use Rattle.lengths.specs.Lines.{kind_of, pieces_from, narrow}
use Rattle.lengths.specs.Laws.Formats.{more_spare, more_num}
use Rattle.reader.specs.Numbers.{nums_at, piece_fits}
use Rattle.reader.specs.Laws.Numbers.{by_zero, limit_none}

-- ---- the ways out of `piece_fits`

pub free_fits : (k w n next : ℕ) → k < 3 → true ≡ piece_fits k w n next
unfolding piece_fits
free_fits zero w n next h = refl
free_fits (suc k) w n next h = limit_none (suc k) _ h

pub number_fits : (k w n next : ℕ) → (k ≡ 0 → ⊥) → limit (kind_of k) (to_num (kind_of k) w (n / 2 ^ next % 2 ^ w)) ≡ piece_fits k w n next
unfolding piece_fits
number_fits zero w n next h = absurd (h refl)
number_fits (suc k) w n next h = refl

-- ---- the first piece of a code, and the rest of it behind

pub limits_none : (code left n shift : ℕ) → left ≡ 0 → true ≡ in_limits (pieces_from left code) (nums_at (pieces_from left code) n shift)
unfolding pieces_from in_limits
limits_none code left n shift e = rw e refl

module _ (code left : ℕ) (h : left ≡ 0 → ⊥) where
  abbrev k : ℕ
  k = code % 256 / 32

  abbrev w : ℕ
  w = code % 256 % 32

  abbrev qs : List Piece
  qs = pieces_from (left - 1) (code / 256)

  module _ (t : T (narrow (pieces_from left code))) where
    pub first_narrow : (k ≡ 0 → ⊥) → w ≤ 24
    unfolding narrow
    first_narrow e = leb→le w 24 (and_l (leb w 24) _ (subst (λ x. T (narrow x)) (more_num code left h e) t))

    pub rest_narrow : T (narrow qs)
    unfolding narrow
    rest_narrow = by_zero k (λ e. subst (λ x. T (narrow x)) (more_spare code left h e) t) (λ e. and_r (leb w 24) _ (subst (λ x. T (narrow x)) (more_num code left h e) t))

  pub limits_on : (n shift : ℕ) {next : ℕ} → next ≡ shift - w → {b : Bool} → b ≡ piece_fits k w n next → in_limits (pieces_from left code) (nums_at (pieces_from left code) n shift) ≡ b && in_limits qs (nums_at qs n next)
  unfolding in_limits nums_at piece_fits
  limits_on n shift en eb = rw (eb, en)
      (by_zero k (λ e. rw (more_spare code left h e, e) refl) (λ e. rw (more_num code left h e, sym (number_fits k w n (shift - w) e)) refl))
