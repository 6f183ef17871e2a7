-- The numbers of one line: those of the guess, one law for each way through the code, and zeros of no text.
use Rattle.std.specs.Prelude.{◌≡◌, refl, Bool, true, false, ◌&&◌, List, [], ◌∷◌, eqb, leb, ℤ, pos, length, replicate, set}
use Rattle.std.proofs.Common.{sym, ◌∙◌, add-one, arith, leb→le, eqb→eq}
use Rattle.std.proofs.Math.Path.{ap, ap₂, subst}
use Prim.Native.Nat.{ℕ, zero, suc, ◌+◌, ◌-◌, ◌^◌, ◌/◌, ◌%◌, ◌≤◌, ◌<◌}
use Rattle.std.proofs.Math.Dec.{T}
use Rattle.std.proofs.Math.Seq.{sets}
use Rattle.codec.specs.Pick.{pick}
use Rattle.codec.specs.Signed.{in_signed}
use Rattle.codec.specs.Line.{Kind, Piece, spare, num, Line, count}
use Rattle.codec.specs.Item.{lines_of}
use Rattle.codec.proofs.Laws.Tests.{and_l, and_r, up_to_lem}
use Rattle.papers.specs.Cat048.{cat048}
use Rattle.papers.specs.Cat021.{cat021}
use Rattle.papers.specs.Cat007.{cat007}
use Rattle.papers.specs.Names.{Key}
use Rattle.papers.specs.Papers.{SLOTS}
use Rattle.lengths.specs.declared.Format.{Format}
use Rattle.lengths.specs.Lines.{items, no_line, placed_from, placed_in, placed, placed_at, line_at, first_at, count_at, kind_of, pieces_from, narrow, format_of}
use Rattle.lengths.specs.Laws.Lines.{every_at}
use Rattle.lengths.specs.Laws.Formats.{format_pieces, format_first, more_spare, more_num}
use Rattle.longest.proofs.Laws.Ranges.{lowest, highest}
use Rattle.words.specs.Numbers.{signed_in, is_signed, is_number, leads}
use Rattle.guess.specs.Lines.{before_octet, behind_octet, behind_feeds}
use Rattle.guess.specs.Guess.{value_in, fits_piece, piece_in, lines_for, behind_keys, numbers_in}
use Rattle.guess.proofs.Laws.Numbers.{small}
use Rattle.walk.specs.Ranges.{ends_right, ranged_in}
use Rattle.walk.specs.Laws.Ranges.{twice, piece_ranged}
use Rattle.taken.specs.Tables.{step_at}
use Rattle.taken.specs.Lines.{taken_by, behind_by, ends_of, taken_at, behind_at}

-- ---- one number

top_right : ℕ → Bool
top_right w = eqb (16_777_215 / 2 ^ (24 - w)) (2 ^ w - 1) && leb (2 ^ w - 1) 16_777_215

top_right_lem : (w : ℕ) → w ≤ 24 → T (top_right w)
unfolding top_right
top_right_lem w h = up_to_lem top_right 25 tt w (omega arith)

pub top_is : (w : ℕ) → w ≤ 24 → 16_777_215 / 2 ^ (24 - w) ≡ 2 ^ w - 1
unfolding top_right
top_is w h = eqb→eq (16_777_215 / 2 ^ (24 - w)) (2 ^ w - 1) (and_l (eqb (16_777_215 / 2 ^ (24 - w)) (2 ^ w - 1)) _ (top_right_lem w h))

pub top_most : (w : ℕ) → w ≤ 24 → 2 ^ w - 1 ≤ 16_777_215
unfolding top_right
top_most w h = leb→le (2 ^ w - 1) 16_777_215 (and_r (eqb (16_777_215 / 2 ^ (24 - w)) (2 ^ w - 1)) _ (top_right_lem w h))

pub half_top : (w : ℕ) → 1 ≤ w → 2 ^ (w - 1) - 1 ≡ (2 ^ w - 1) / 2
half_top w h = omega (arith, twice w h)

-- a number between the ends of its kind
pub piece_between : (kind w : ℕ) (t : List ℕ) (k : Kind) → kind_of kind ≡ k → w ≤ 24 → T (ends_right (kind_of kind) w) → {lo hi r : ℤ} → lo ≡ lowest k w → hi ≡ highest k w → r ≡ ranged_in lo hi t
    → r ≡ piece_in (kind_of kind) w t
piece_between kind w t k ek h e {lo} {hi} {r} el eh er =
    er ∙ ap₂ (λ x y. ranged_in x y t) el eh ∙ sym (piece_ranged k w h (subst (λ j. T (ends_right j w)) ek e) t) ∙ ap (λ j. piece_in j w t) (sym ek)

-- ---- the ways out of `numbers`: no piece, a piece without a number, a number

pub numbers_none : (step left code : ℕ) (t : List ℕ) (l : List ℤ) (slot : ℕ) → left ≡ 0 → (t ≡ behind_by step (pieces_from left code) t) × (l ≡ sets l slot (taken_by step (pieces_from left code) t))
unfolding pieces_from behind_by taken_by
numbers_none step left code t l slot e = (rw e refl, rw e refl)

module _ (left code : ℕ) (some : left ≡ 0 → ⊥) where
  abbrev ps : List Piece
  ps = pieces_from left code

  abbrev qs : List Piece
  qs = pieces_from (left - 1) (code / 256)

  module _ (e : code % 256 / 32 ≡ 0) where
    pub spare_asks : (slot : ℕ) → (slot + count ps ≤ SLOTS) × T (ends_of ps) → (slot + count qs ≤ SLOTS) × T (ends_of qs)
    unfolding count ends_of
    spare_asks slot g = subst (λ x. (slot + count x ≤ SLOTS) × T (ends_of x)) (more_spare code left some e) g

    pub spare_on : (step : ℕ) (t : List ℕ) (l : List ℤ) (slot : ℕ) {r : List ℕ} {m : List ℤ} → (r ≡ behind_by step qs t) × (m ≡ sets l slot (taken_by step qs t))
        → (r ≡ behind_by step ps t) × (m ≡ sets l slot (taken_by step ps t))
    unfolding behind_by taken_by
    spare_on step t l slot {r} {m} g = subst (λ x. (r ≡ behind_by step x t) × (m ≡ sets l slot (taken_by step x t))) (sym (more_spare code left some e)) g

  module _ (e : code % 256 / 32 ≡ 0 → ⊥) where
    abbrev k : Kind
    k = kind_of (code % 256 / 32)

    abbrev w : ℕ
    w = code % 256 % 32

    pub num_asks : (slot : ℕ) → (slot + count ps ≤ SLOTS) × T (ends_of ps) → ((w ≤ 24) × T (ends_right k w)) × (slot < SLOTS) × ((slot + 1 + count qs ≤ SLOTS) × T (ends_of qs))
    unfolding count ends_of
    num_asks slot g =
        let h : (slot + suc (count qs) ≤ SLOTS) × T (leb w 24 && (ends_right k w && ends_of qs)) = subst (λ x. (slot + count x ≤ SLOTS) × T (ends_of x)) (more_num code left some e) g in
        let d : T (ends_right k w && ends_of qs) = and_r (leb w 24) _ h.1 in
        ((leb→le w 24 (and_l (leb w 24) _ h.1), and_l (ends_right k w) _ d), omega (arith, h.0), (omega (arith, h.0), and_r (ends_right k w) _ d))

    pub num_on : (step : ℕ) (t : List ℕ) (l : List ℤ) (slot : ℕ) {z : ℤ} {q m : List ℤ} {u r : List ℕ} → z ≡ piece_in k w t → q ≡ set l slot z → u ≡ behind_feeds step t
        → (r ≡ behind_by step qs u) × (m ≡ sets q (slot + 1) (taken_by step qs u)) → (r ≡ behind_by step ps t) × (m ≡ sets l slot (taken_by step ps t))
    unfolding behind_by taken_by
    num_on step t l slot {z} {q} {m} {u} {r} ez eq eu g =
        subst (λ x. (r ≡ behind_by step x t) × (m ≡ sets l slot (taken_by step x t))) (sym (more_num code left some e)) (
          g.0 ∙ ap (behind_by step qs) eu,
          g.1 ∙ ap₂ (λ x j. sets x j (taken_by step qs u)) (eq ∙ ap (set l slot) ez) (add-one slot) ∙ ap (λ x. sets (set l slot (piece_in k w t)) (suc slot) (taken_by step qs x)) eu,
        )

-- ---- the loop of `numbers`, i pieces being passed

module _ (left code i : ℕ) (h : i < left) where
  ahead : left - i ≡ 0 → ⊥
  ahead e = omega arith

  less : left - (i + 1) ≡ left - i - 1
  less = omega arith

  pub spare_next : code % 256 / 32 ≡ 0 → (step : ℕ) (t : List ℕ) (l : List ℤ) (slot : ℕ) → (slot + count (pieces_from (left - i) code) ≤ SLOTS) × T (ends_of (pieces_from (left - i) code))
      → ((slot + count (pieces_from (left - (i + 1)) (code / 256)) ≤ SLOTS) × T (ends_of (pieces_from (left - (i + 1)) (code / 256))))
      × (behind_by step (pieces_from (left - (i + 1)) (code / 256)) t ≡ behind_by step (pieces_from (left - i) code) t)
      × (sets l slot (taken_by step (pieces_from (left - (i + 1)) (code / 256)) t) ≡ sets l slot (taken_by step (pieces_from (left - i) code) t))
  spare_next e step t l slot g =
      let k = spare_on (left - i) code ahead e step t l slot (refl, refl) in
      rw less (spare_asks (left - i) code ahead e slot g, k.0, k.1)

  module _ (e : code % 256 / 32 ≡ 0 → ⊥) where
    abbrev kind : ℕ
    kind = code % 256 / 32

    abbrev width : ℕ
    width = code % 256 % 32

    pub num_room : (slot : ℕ) → (slot + count (pieces_from (left - i) code) ≤ SLOTS) × T (ends_of (pieces_from (left - i) code))
        → ((width ≤ 24) × T (ends_right (kind_of kind) width)) × (slot < SLOTS) × ((slot + 1 + count (pieces_from (left - (i + 1)) (code / 256)) ≤ SLOTS) × T (ends_of (pieces_from (left - (i + 1)) (code / 256))))
    num_room slot g = rw less (num_asks (left - i) code ahead e slot g)

    pub num_next : (step : ℕ) (t : List ℕ) (l : List ℤ) (slot : ℕ) {z : ℤ} {q : List ℤ} {u : List ℕ} → z ≡ piece_in (kind_of kind) width t → q ≡ set l slot z → u ≡ behind_feeds step t
        → (behind_by step (pieces_from (left - (i + 1)) (code / 256)) u ≡ behind_by step (pieces_from (left - i) code) t)
        × (sets q (slot + 1) (taken_by step (pieces_from (left - (i + 1)) (code / 256)) u) ≡ sets l slot (taken_by step (pieces_from (left - i) code) t))
    num_next step t l slot ez eq eu = rw less (num_on (left - i) code ahead e step t l slot ez eq eu (refl, refl))

-- ---- of one line

-- one key for each number, each with so many lines
unfoldable pub steady : ℕ → List Key → List Piece → Bool
steady step [] [] = true
steady step (key ∷ ks) [] = false
steady step ks (spare w ∷ ps) = steady step ks ps
steady step [] (num k w ∷ ps) = false
steady step (key ∷ ks) (num k w ∷ ps) = eqb (lines_for key) step && steady step ks ps

pub numbers_taken : (step : ℕ) (ks : List Key) (ps : List Piece) (t : List ℕ) → T (steady step ks ps) → numbers_in ks ps t ≡ taken_by step ps t
unfolding steady numbers_in taken_by
numbers_taken step [] [] t h = refl
numbers_taken step (key ∷ ks) [] t h = absurd h
numbers_taken step [] (spare w ∷ ps) t h = numbers_taken step [] ps t h
numbers_taken step (key ∷ ks) (spare w ∷ ps) t h = numbers_taken step (key ∷ ks) ps t h
numbers_taken step [] (num k w ∷ ps) t h = absurd h
numbers_taken step (key ∷ ks) (num k w ∷ ps) t h =
    let e : lines_for key ≡ step = eqb→eq (lines_for key) step (and_l (eqb (lines_for key) step) _ h) in
    ap (piece_in k w t ∷◌) (ap (λ n. numbers_in ks ps (behind_feeds n t)) e ∙ numbers_taken step ks ps (behind_feeds step t) (and_r (eqb (lines_for key) step) _ h))

pub behind_taken : (step : ℕ) (ks : List Key) (ps : List Piece) (t : List ℕ) → T (steady step ks ps) → behind_keys ks t ≡ behind_by step ps t
unfolding steady behind_keys behind_by
behind_taken step [] [] t h = refl
behind_taken step (key ∷ ks) [] t h = absurd h
behind_taken step [] (spare w ∷ ps) t h = behind_taken step [] ps t h
behind_taken step (key ∷ ks) (spare w ∷ ps) t h = behind_taken step (key ∷ ks) ps t h
behind_taken step [] (num k w ∷ ps) t h = absurd h
behind_taken step (key ∷ ks) (num k w ∷ ps) t h =
    let e : lines_for key ≡ step = eqb→eq (lines_for key) step (and_l (eqb (lines_for key) step) _ h) in
    ap (λ n. behind_keys ks (behind_feeds n t)) e ∙ behind_taken step ks ps (behind_feeds step t) (and_r (eqb (lines_for key) step) _ h)

pub taken_length : (step : ℕ) (ps : List Piece) (t : List ℕ) → length (taken_by step ps t) ≡ count ps
unfolding taken_by count
taken_length step [] t = refl
taken_length step (spare w ∷ ps) t = taken_length step ps t
taken_length step (num k w ∷ ps) t = ap suc (taken_length step ps (behind_feeds step t))

-- ---- of no text

feeds_none : (n : ℕ) → behind_feeds n [] ≡ []
unfolding behind_feeds behind_octet
feeds_none zero = refl
feeds_none (suc n) = feeds_none n

piece_none : (k : Kind) (w : ℕ) → w ≤ 24 → piece_in k w [] ≡ pos 0
unfolding piece_in value_in behind_octet before_octet signed_in is_signed is_number leads
piece_none k w h = go (fits_piece k w (pos 2_147_483_648)) refl
  where
    go : (b : Bool) → fits_piece k w (pos 2_147_483_648) ≡ b → pick b (pos 2_147_483_648) (pos 0) ≡ pos 0
    go true e = absurd (omega (arith, small k w (pos 2_147_483_648) h (subst T (sym e) tt)))
    go false e = refl

pub taken_none : (step : ℕ) (ps : List Piece) → T (narrow ps) → taken_by step ps [] ≡ replicate (count ps) (pos 0)
unfolding taken_by count narrow
taken_none step [] h = refl
taken_none step (spare w ∷ ps) h = taken_none step ps h
taken_none step (num k w ∷ ps) h =
    ap₂ ◌∷◌ (piece_none k w (leb→le w 24 (and_l (leb w 24) _ h))) (ap (taken_by step ps) (feeds_none step) ∙ taken_none step ps (and_r (leb w 24) _ h))

pub behind_none : (step : ℕ) (ps : List Piece) → behind_by step ps [] ≡ []
unfolding behind_by
behind_none step [] = refl
behind_none step (spare w ∷ ps) = behind_none step ps
behind_none step (num k w ∷ ps) = ap (behind_by step ps) (feeds_none step) ∙ behind_none step ps

-- ---- the way through `line`

ends_line : (b : ℕ) → T (ends_of (line_at b).pieces)
unfolding ends_of ends_right in_signed placed_at placed placed_in placed_from lines_of items cat048 cat021 cat007
ends_line b = every_at (λ (p : Line × ℕ). ends_of p.0.pieces) placed (no_line, 0) tt tt b

module _ (b : ℕ) {f : Format} (ef : f ≡ format_of (placed_at b)) (base : ℕ) where
  pub line_asks : base + (first_at b + count_at b) ≤ SLOTS → (base + f.first + count (pieces_from f.runs f.pieces) ≤ SLOTS) × T (ends_of (pieces_from f.runs f.pieces))
  line_asks h =
      let e : count (pieces_from f.runs f.pieces) ≡ count_at b = ap count (format_pieces b ef) in
      (omega (arith, e, format_first b ef), subst (λ ps. T (ends_of ps)) (sym (format_pieces b ef)) (ends_line b))

  pub line_gives : {step : ℕ} → step ≡ step_at b → (t : List ℕ) (l : List ℤ) {r : List ℕ} {m : List ℤ}
      → (r ≡ behind_by step (pieces_from f.runs f.pieces) t) × (m ≡ sets l (base + f.first) (taken_by step (pieces_from f.runs f.pieces) t))
      → (r ≡ behind_at b t) × (m ≡ sets l (base + first_at b) (taken_at b t))
  line_gives {step} es t l g = (
    g.0 ∙ ap₂ (λ s ps. behind_by s ps t) es (format_pieces b ef),
    g.1 ∙ ap₂ (λ j x. sets l (base + j) x) (format_first b ef) (ap₂ (λ s ps. taken_by s ps t) es (format_pieces b ef)),
  )
