-- The choice between two fields, by the views of both.
use Rattle.layout.specs.Answer.{View, Shown, Hidden, Choice}
use Rattle.layout.specs.declared.Which.TheVariants.{Neither, Base, Correction}

-- the correction's view where it shows something, else the base's
unfoldable pub chosen_view : View → View → Choice
chosen_view b (Shown a m) = record { which = Correction; view = Shown a m }
chosen_view (Shown a m) (Hidden e p) = record { which = Base; view = Shown a m }
chosen_view (Hidden n q) (Hidden e p) = record { which = Neither; view = Hidden n q }
