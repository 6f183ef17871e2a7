-- The slot desk (01, the section of that name): "A refusal of the field is the answer, with its number and place; then 12, 13, 14 (not for a removal), 11".
use Rattle.std.specs.Prelude.{Bool, true, false, ◌&&◌, List, ℕ, ◌-◌, ltb, leb, eqb, length, get_or}
use Rattle.codec.specs.Pick.{pick}
use Rattle.codec.specs.Item.{Item}
use Rattle.codec.specs.Field.{flags, Contents, body}
use Rattle.codec.specs.Frame.{Outcome, accepted, refused, write_frame}
use Rattle.codec.specs.Change.{Change, change, alone}
use Rattle.papers.specs.Papers.{known, paper_of, items_of}
use Rattle.layout.specs.Answer.{Answer}
use Rattle.scope.specs.Reading.{field_of}
use Rattle.scope.specs.Outputs.{with_room, Leaves}
use Rattle.scope.specs.Views.{is_item}

-- the slot's list, "one octet, laid out as the indicator", has the item
unfoldable pub listed : ℕ → ℕ → Bool
listed list item = eqb (get_or (flags list) (item - 1) 0) 1

-- "New octets are right exactly if the field made of LEN, an indicator with that one bit, and these octets is accepted; no octets, or more than 253, gives 14"
abbrev pub is_accepted : {A : Type 0} → Outcome A → Bool
is_accepted (accepted r) = true
is_accepted (refused n p) = false

unfoldable pub right_of : ℕ → ℕ → List ℕ → Bool
right_of cat i t = (leb 1 (length t) && leb (length t) 253) && is_accepted (field_of cat (alone i t))

-- and there is an item of that index
unfoldable pub item_is : ℕ → ℕ → List ℕ → Bool
unfolding right_of
item_is cat i t = (known cat && ltb i (items_of cat)) && right_of cat i t

-- the changed contents written afresh, if there is room
unfoldable pub afresh : List Item → ℕ → Outcome Contents → Outcome (List ℕ)
unfolding with_room
afresh its room (refused n p) = refused n p
afresh its room (accepted r) = with_room room (write_frame (body its) r)

unfoldable pub edit_in : List Item → ℕ → ℕ → Change → ℕ → Outcome Contents → Outcome (List ℕ)
unfolding is_item listed afresh
edit_in its list item ch room (refused n p) = refused n p
edit_in its list item ch room (accepted r) =
    pick (is_item its item) (pick (listed list item) (afresh its room (change its (item - 1) ch r)) (refused 13 0)) (refused 12 0)

unfoldable pub edit_of : ℕ → List ℕ → ℕ → ℕ → Change → ℕ → Outcome (List ℕ)
unfolding edit_in
edit_of cat s list item ch room = edit_in (paper_of cat) list item ch room (field_of cat s)

-- what an edit promises of the answer, and of the output before and after
abbrev pub Edited : ℕ → List ℕ → ℕ → ℕ → Change → List ℕ → Answer → List ℕ → Type 0
Edited cat s list item ch out a out' = Leaves (edit_of cat s list item ch (length out)) out a out'
