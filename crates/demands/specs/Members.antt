-- Two members, either order (02, Ask 8), each sentence quoted above its statement. They are of a desk, by what its runs
-- do; Terms has the words.
use Rattle.std.specs.Prelude.{◌≡◌, ◌≢◌, ◌++◌, ◌≤◌}
use Rattle.demands.specs.Terms.{List, ℕ, length, take, Octets, len_of, Change, new_octets}
use Rattle.demands.specs.Terms.{Record, Answer, Accepted, IsField, handed_out}
use Rattle.demands.specs.Demands.{Program}

-- what the runs of an edit do: of the category, the octets, the list, the item, the change and the output that is lent,
-- the answer and what the output then holds
abbrev pub Desk : Type 1
Desk = ℕ → List ℕ → ℕ → ℕ → Change → List ℕ → Answer → List ℕ → Type 0

abbrev pub desk_of : Program → Desk
desk_of p cat s list item ch out a left = p.edit cat s list item ch out ≡ (a, left)

-- "Two makers share a slot and save in turn": what one of them saves, a removal or new octets. The other may have the same
-- list, or one of its own
pub record Save : Type 0 where
  pub list : ℕ
  pub item : ℕ
  pub change : Change
  pub octets : Octets (new_octets change)

-- "Give each edit the category's longest field as room": no field of the category is longer than the output
abbrev pub Room : ℕ → List ℕ → Type 0
Room cat out = (s : List ℕ) (f : Record) → Octets s → IsField cat s f → len_of s ≤ length out

module _ (desk : Desk) where
  -- a field s is saved with anything behind it: the calendar may hand on the whole of an output
  abbrev pub Runs : ℕ → List ℕ → List ℕ → Save → List ℕ → Answer → List ℕ → Type 0
  Runs cat s behind e out a left = desk cat (s ++ behind) e.list e.item e.change out a left

  -- with that room a run is accepted, and the output begins with b
  pub record Saved (cat : ℕ) (s : List ℕ) (e : Save) (b : List ℕ) : Type 0 where
    pub behind : List ℕ
    pub out : List ℕ
    pub left : List ℕ
    pub room : Room cat out
    pub accepted : Runs cat s behind e out (Accepted (length b)) left
    pub begins : take (length b) left ≡ b

  -- every run with that room gives b
  abbrev pub Gives : ℕ → List ℕ → Save → List ℕ → Type 0
  Gives cat s e b = (behind out left : List ℕ) (a : Answer) → Room cat out → Runs cat s behind e out a left
      → ◌≡◌ {A = Answer × List ℕ} (a, left) (handed_out b out)

  pub record Members : Type 0 where
    -- "edits of two different items that are accepted in both orders give the same field"
    pub either_order : (cat : ℕ) (s : List ℕ) (f : Record) → Octets s → IsField cat s f → (d e : Save)
        → d.item ≢ e.item → (a b c g : List ℕ) → Saved cat s d a → Saved cat a e b → Saved cat s e c → Saved cat c d g
        → b ≡ g
    -- "For the same item the later one alone counts, provided that both are accepted"
    pub later_alone : (cat : ℕ) (s : List ℕ) (f : Record) → Octets s → IsField cat s f → (d e : Save)
        → d.item ≡ e.item → (a b : List ℕ) → Saved cat s d a → Saved cat a e b → Gives cat s e b
    -- beyond 02: edits of two different items that are accepted in one order are accepted in the other, and the last
    -- field is the same
    pub other_order : (cat : ℕ) (s : List ℕ) (f : Record) → Octets s → IsField cat s f → (d e : Save)
        → d.item ≢ e.item → (a b : List ℕ) → Saved cat s d a → Saved cat a e b
        → (c : List ℕ) × Gives cat s e c × Gives cat c d b
