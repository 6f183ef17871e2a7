-- What holds of every line, by computed tests.
use Rattle.std.specs.Prelude.{◌≡◌, refl, Bool, true, ◌&&◌, List, [], ◌∷◌, map, ℕ, zero, suc, ◌+◌, ◌≤◌, T, leb, length, get_or}
use Rattle.std.proofs.Common.{sym, ap, ◌∙◌, leb→le}
use Rattle.std.proofs.Math.ListN.{get_or-map, get_or-eq_default}
use Rattle.codec.specs.Radix.{total}
use Rattle.codec.specs.Line.{Line, widths, count, fills}
use Rattle.codec.specs.Item.{lines_of}
use Rattle.codec.specs.Mask.{spares_of, mask_of, spare_mask}
use Rattle.codec.proofs.Laws.Tests.{and_l, and_r}
use Rattle.papers.specs.Cat048.{printed048, cat048}
use Rattle.papers.specs.Cat021.{printed021, cat021}
use Rattle.papers.specs.Cat007.{printed007, cat007}
use Rattle.lengths.specs.Lines.{items, no_line, placed_from, placed_in, placed, placed_at, line_at, first_at, kind_code, code_of, kind_of, piece_of, pieces_from, narrow, structures_in, structures, length_of, taken_of, lengths, pieces}

abbrev pub every : {A : Type 0} → (A → Bool) → List A → Bool
every f [] = true
every f (x ∷ xs) = f x && every f xs

-- what holds of each element of a list and of the one behind its end holds at every place
pub every_at : {A : Type 0} (f : A → Bool) (xs : List A) (d : A) → T (every f xs) → T (f d) → (i : ℕ) → T (f (get_or xs i d))
every_at f [] d t u i = u
every_at f (x ∷ xs) d t u zero = and_l (f x) _ t
every_at f (x ∷ xs) d t u (suc i) = every_at f xs d (and_r (f x) _ t) u i

pub few_line_octets : (b : ℕ) → (line_at b).octets ≤ 6
unfolding placed_at placed placed_in placed_from lines_of items cat048 cat021 cat007
few_line_octets b = leb→le (line_at b).octets 6 (every_at (λ (p : Line × ℕ). leb p.0.octets 6) placed (no_line, 0) tt tt b)

-- it has at most eight pieces, one bit below them, a flag among the first eight numbers, and no number wider than 24 bits
pub few_pieces : (b : ℕ) → length (line_at b).pieces ≤ 8
unfolding placed_at placed placed_in placed_from lines_of items cat048 cat021 cat007
few_pieces b = leb→le (length (line_at b).pieces) 8 (every_at (λ (p : Line × ℕ). leb (length p.0.pieces) 8) placed (no_line, 0) tt tt b)

pub few_fx : (b : ℕ) → (line_at b).fx ≤ 1
unfolding placed_at placed placed_in placed_from lines_of items cat048 cat021 cat007
few_fx b = leb→le (line_at b).fx 1 (every_at (λ (p : Line × ℕ). leb p.0.fx 1) placed (no_line, 0) tt tt b)

pub few_flags : (b : ℕ) → (line_at b).flag ≤ 7
unfolding placed_at placed placed_in placed_from lines_of items cat048 cat021 cat007
few_flags b = leb→le (line_at b).flag 7 (every_at (λ (p : Line × ℕ). leb p.0.flag 7) placed (no_line, 0) tt tt b)

pub narrow_line : (b : ℕ) → T (narrow (line_at b).pieces)
unfolding narrow placed_at placed placed_in placed_from lines_of items cat048 cat021 cat007
narrow_line b = every_at (λ (p : Line × ℕ). narrow p.0.pieces) placed (no_line, 0) tt tt b

-- a line is filled by its pieces
pub line_filled : (b : ℕ) → T (fills (line_at b))
unfolding fills total widths placed_at placed placed_in placed_from lines_of items cat048 cat021 cat007
line_filled b = every_at (λ (p : Line × ℕ). fills p.0) placed (no_line, 0) tt tt b

-- its numbers have slots of the longest item at most
pub few_line_slots : (b : ℕ) → first_at b + count (line_at b).pieces ≤ 34
unfolding count placed_at placed placed_in placed_from lines_of items cat048 cat021 cat007
few_line_slots b = leb→le (first_at b + count (line_at b).pieces) 34 (every_at (λ (p : Line × ℕ). leb (p.1 + count p.0.pieces) 34) placed (no_line, 0) tt tt b)

-- its pieces are what their octets say
pieces_all : map (λ (p : Line × ℕ). pieces_from (length p.0.pieces) (code_of p.0.pieces)) placed ≡ map (λ (p : Line × ℕ). p.0.pieces) placed
unfolding pieces_from piece_of kind_of code_of kind_code placed placed_in placed_from lines_of items cat048 cat021 cat007
pieces_all = refl

pub pieces_right : (b : ℕ) → pieces_from (length (line_at b).pieces) (code_of (line_at b).pieces) ≡ (line_at b).pieces
unfolding placed_at pieces_from code_of
pieces_right b =
    sym (get_or-map (λ (p : Line × ℕ). pieces_from (length p.0.pieces) (code_of p.0.pieces)) placed b (no_line, 0))
    ∙ ap (λ l. get_or l b []) pieces_all
    ∙ get_or-map (λ (p : Line × ℕ). p.0.pieces) placed b (no_line, 0)

-- the bits that a structure calls spare are the mask of its line
lengths_lines : lengths ≡ map length_of placed
unfolding lengths structures structures_in printed048 printed021 printed007 spares_of spare_mask mask_of total widths placed placed_in placed_from lines_of items cat048 cat021 cat007
lengths_lines = refl

-- the tables have a line's columns at the line's place
pub lengths_at : (b : ℕ) → get_or lengths b (0, 0) ≡ length_of (placed_at b)
unfolding placed_at spare_mask mask_of
lengths_at b = ap (λ l. get_or l b (0, 0)) lengths_lines ∙ get_or-map length_of placed b (no_line, 0)

pub pieces_at : (b : ℕ) → get_or pieces b (0, 0, 0, 0, 0) ≡ taken_of (placed_at b)
unfolding pieces placed_at code_of
pieces_at b = get_or-map taken_of placed b (no_line, 0)

pub past_lines : (b : ℕ) → 46 ≤ b → placed_at b ≡ (no_line, 0)
unfolding placed_at placed placed_in placed_from lines_of items cat048 cat021 cat007
past_lines b h = get_or-eq_default placed (no_line, 0) h
