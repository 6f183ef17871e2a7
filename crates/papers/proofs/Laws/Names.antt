-- A number with a derived line on the sheet counts what that line says of it (01, 'The sheet').
use Rattle.std.specs.Prelude.{Bool, true, false, ◌&&◌, List, [], ◌∷◌, ℕ, ◌^◌, T, eqb}
use Rattle.codec.specs.Printed.{Measure, code, steps, Run, spares, number, Structure, Entry, compound, fixed, text, same_text}
use Rattle.papers.specs.Cat048.{printed048}
use Rattle.papers.specs.Cat021.{printed021}
use Rattle.papers.specs.Cat007.{printed007}
use Rattle.papers.specs.Papers.{printed_of}
use Rattle.papers.specs.Names.{Key, hidden, shown, angle, pressure, key_of}
use Rattle.papers.proofs.Laws.Papers.{by_printed}

unfoldable pub same_measure : Measure → Measure → Bool
same_measure code code = true
same_measure code (steps s t o u) = false
same_measure (steps s t o u) code = false
same_measure (steps s t o u) (steps s' t' o' u') = eqb s s' && (eqb t t' && (eqb o o' && same_text (text u) (text u')))

-- an angle's number counts 180/2^23 degrees, a pressure's tenths of hPa from 800 on
unfoldable pub derived_right : Key → Measure → Bool
unfolding same_measure
derived_right hidden m = true
derived_right (shown k) m = true
derived_right (angle k) m = same_measure m (steps 0 180 (2 ^ 23) "degrees")
derived_right (pressure k) m = same_measure m (steps 800 1 10 "hPa")

unfoldable pub units_of_runs : List Run → Bool
units_of_runs [] = true
units_of_runs (spares hi lo ∷ rs) = units_of_runs rs
units_of_runs (number k hi lo q ∷ rs) = derived_right (key_of q.name []) q.counts && units_of_runs rs

unfoldable pub units_of : List Structure → Bool
units_of [] = true
units_of (s ∷ ss) = units_of_runs s.runs && units_of ss

unfoldable pub units_right : List Entry → Bool
units_right [] = true
units_right (compound name p qs ss ∷ es) = units_of ss && units_right es
units_right (fixed s ∷ es) = units_of (s ∷ []) && units_right es

pub units_printed : (cat : ℕ) → T (units_right (printed_of cat))
unfolding same_measure derived_right units_of_runs units_of units_right printed048 printed021 printed007
units_printed cat = by_printed (λ es. T (units_right es)) tt tt tt tt cat
