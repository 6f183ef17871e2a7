-- The lines of the codecs, made from a paper as it is printed.
use Rattle.std.specs.Prelude.{List, [], ◌∷◌, ℕ, suc, ◌-◌}
use Prim.Native.String.{String}
use Rattle.codec.specs.Line.{Piece, spare, num, Line}
use Rattle.codec.specs.Item.{Item, chained, single}
use Rattle.codec.specs.Printed.{Run, spares, number, Structure, Entry, compound, fixed, index_of, number_names}

abbrev pub piece_of : Run → Piece
piece_of (spares hi lo) = spare (suc hi - lo)
piece_of (number k hi lo q) = num k (suc hi - lo)

abbrev pub pieces_of : List Run → List Piece
pieces_of [] = []
pieces_of (r ∷ rs) = piece_of r ∷ pieces_of rs

abbrev pub line_of : ℕ → ℕ → Structure → Line
line_of fx flag s = record { fx = fx; flag = flag; octets = s.octets; pieces = pieces_of s.runs }

abbrev pub parts_of : List Structure → List Line
parts_of [] = []
parts_of (s ∷ ss) = line_of 1 0 s ∷ parts_of ss

abbrev pub subfields_of : List String → List Structure → List Line
subfields_of names [] = []
subfields_of names (s ∷ ss) = line_of 0 (index_of s.name names) s ∷ subfields_of names ss

abbrev pub item_of : Entry → Item
item_of (compound name p qs ss) = chained (line_of 1 0 p) (parts_of qs) (subfields_of (number_names (p ∷ qs)) ss)
item_of (fixed s) = single (line_of 0 0 s)

abbrev pub made : List Entry → List Item
made [] = []
made (e ∷ es) = item_of e ∷ made es
