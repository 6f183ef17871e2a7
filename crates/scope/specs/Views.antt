-- Views and the choice between two fields (01, the section of that name).
use Rattle.std.specs.Prelude.{Bool, ◌&&◌, List, [], ℕ, ◌+◌, ◌-◌, leb, eqb, length, get_or, take, drop}
use Rattle.codec.specs.Pick.{pick}
use Rattle.codec.specs.Item.{Item}
use Rattle.codec.specs.Field.{flags, Contents, body, texts_of, before}
use Rattle.codec.specs.Frame.{Outcome, accepted, refused, read_frame}
use Rattle.papers.specs.Papers.{known, paper_of}
use Rattle.layout.specs.Answer.{View, Shown, Hidden, Choice}
use Rattle.layout.specs.declared.Which.{Which}
use Rattle.layout.specs.declared.Which.TheVariants.{Neither, Base, Correction}
use Rattle.scope.specs.Reading.{field_of}

-- "The item number is 1 for bit 8 up to 8 for bit 1"
unfoldable pub is_item : List Item → ℕ → Bool
is_item its item = leb 1 item && leb item (length its)

unfoldable pub present : Contents → ℕ → Bool
present r item = eqb (get_or (flags r.0) (item - 1) 0) 1

-- the item stands behind LEN, the indicator and the items before it
unfoldable pub standing : List Item → Contents → ℕ → View
standing its r item = Shown (2 + before (texts_of its r) (item - 1)) (length (get_or (texts_of its r) (item - 1) []))

-- ---- "Its refusals are the reader's, then 12, then 15"

unfoldable pub view_in : List Item → ℕ → Outcome Contents → View
unfolding is_item present standing
view_in its item (refused n p) = Hidden n p
view_in its item (accepted r) = pick (is_item its item) (pick (present r item) (standing its r item) (Hidden 15 0)) (Hidden 12 0)

unfoldable pub view_of : ℕ → List ℕ → ℕ → View
unfolding view_in
view_of cat s item = view_in (paper_of cat) item (field_of cat s)

-- "The view of an item is that part of the lent field. .. Where nothing can be shown, the part is empty"
unfoldable pub part_of : List ℕ → View → List ℕ
part_of s (Shown a n) = take n (drop a s)
part_of s (Hidden e p) = []

-- ---- "Checks: 1, the base's 2 to 9, the correction's 2 to 9, 12, 15. .. for 1, 12 and 15, neither"

unfoldable pub choose_in : List Item → ℕ → Outcome Contents → Outcome Contents → Choice
unfolding is_item present standing
choose_in its item (refused n p) q = record { which = Base; view = Hidden n p }
choose_in its item (accepted r) (refused n p) = record { which = Correction; view = Hidden n p }
choose_in its item (accepted r) (accepted q) =
    pick (is_item its item)
    (pick (present q item) (record { which = Correction; view = standing its q item })
    (pick (present r item) (record { which = Base; view = standing its r item })
    (record { which = Neither; view = Hidden 15 0 })))
    (record { which = Neither; view = Hidden 12 0 })

unfoldable pub choose_of : ℕ → List ℕ → List ℕ → ℕ → Choice
unfolding choose_in
choose_of cat base correction item =
    pick (known cat)
    (choose_in (paper_of cat) item (read_frame (body (paper_of cat)) base) (read_frame (body (paper_of cat)) correction))
    (record { which = Neither; view = Hidden 1 0 })

-- "the choice returns the correction's own part if it has the item, else the base's own part"
unfoldable pub side_of : List ℕ → List ℕ → Which → List ℕ
side_of base correction Neither = []
side_of base correction Base = base
side_of base correction Correction = correction

unfoldable pub chosen_of : List ℕ → List ℕ → Choice → List ℕ
unfolding part_of side_of
chosen_of base correction c = part_of (side_of base correction c.which) c.view
