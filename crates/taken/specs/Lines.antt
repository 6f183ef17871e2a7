-- The numbers of a line of the table, and of so many lines from one on, as they are taken from a text: what is not there is taken from no text, which gives zeros.
use Rattle.std.specs.Prelude.{Bool, true, ◌&&◌, List, [], ◌∷◌, ◌++◌, ℕ, zero, suc, ◌+◌, ◌-◌, ltb, leb, ℤ}
use Rattle.codec.specs.Pick.{pick}
use Rattle.codec.specs.Line.{Piece, spare, num}
use Rattle.lengths.specs.Lines.{line_at}
use Rattle.walk.specs.Ranges.{ends_right}
use Rattle.guess.specs.Lines.{behind_feeds}
use Rattle.guess.specs.Guess.{piece_in, begins, bit}
use Rattle.taken.specs.Tables.{step_at, head_at}

-- each number has so many lines
unfoldable pub taken_by : ℕ → List Piece → List ℕ → List ℤ
unfolding piece_in behind_feeds
taken_by step [] t = []
taken_by step (spare w ∷ ps) t = taken_by step ps t
taken_by step (num k w ∷ ps) t = piece_in k w t ∷ taken_by step ps (behind_feeds step t)

unfoldable pub behind_by : ℕ → List Piece → List ℕ → List ℕ
unfolding behind_feeds
behind_by step [] t = t
behind_by step (spare w ∷ ps) t = behind_by step ps t
behind_by step (num k w ∷ ps) t = behind_by step ps (behind_feeds step t)

-- the numbers lie between two ends each, and are of 24 bits at most
unfoldable pub ends_of : List Piece → Bool
unfolding ends_right
ends_of [] = true
ends_of (spare w ∷ ps) = ends_of ps
ends_of (num k w ∷ ps) = leb w 24 && (ends_right k w && ends_of ps)

-- line b
abbrev pub taken_at : ℕ → List ℕ → List ℤ
taken_at b t = taken_by (step_at b) (line_at b).pieces t

abbrev pub behind_at : ℕ → List ℕ → List ℕ
behind_at b t = behind_by (step_at b) (line_at b).pieces t

-- it is there, n being the parts, or the flags, that are left
abbrev pub there_at : ℕ → ℕ → List ℕ → Bool
there_at b n t = ltb 0 n && begins (head_at b) t

-- ---- so many lines from line b on

unfoldable pub opens_from : ℕ → ℕ → ℕ → List ℕ → List Bool
unfolding behind_by begins
opens_from b zero n t = []
opens_from b (suc left) n t = there_at b n t ∷ opens_from (b + 1) left (n - 1) (pick (there_at b n t) (behind_at b t) t)

unfoldable pub taken_from : ℕ → ℕ → ℕ → List ℕ → List ℤ
unfolding behind_by begins taken_by
taken_from b zero n t = []
taken_from b (suc left) n t = taken_at b (pick (there_at b n t) t []) ++ taken_from (b + 1) left (n - 1) (pick (there_at b n t) (behind_at b t) t)

unfoldable pub left_from : ℕ → ℕ → ℕ → List ℕ → List ℕ
unfolding behind_by begins
left_from b zero n t = t
left_from b (suc left) n t = left_from (b + 1) left (n - 1) (pick (there_at b n t) (behind_at b t) t)

-- their flags
unfoldable pub flags_from : ℕ → ℕ → ℕ → List ℕ → List ℤ
unfolding behind_by begins bit
flags_from b zero n t = []
flags_from b (suc left) n t = bit (there_at b n t) ∷ flags_from (b + 1) left (n - 1) (pick (there_at b n t) (behind_at b t) t)
