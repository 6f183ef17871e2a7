-- The visitors' copy (02, Ask 5), each sentence quoted above its statements. They are of a program, as those of Demands;
-- Terms has the words.
use Rattle.std.specs.Prelude.{◌≡◌, ◌≢◌, ◌∷◌, ◌++◌, ◌≤◌, ◌<◌}
use Rattle.demands.specs.Terms.{List, [], ℕ, zero, suc, T, eqb, pick, length, take}
use Rattle.demands.specs.Terms.{Octets, Record, Accepted, items_of, IsField, Fault, numbered, bit_of, refused_by}
use Rattle.demands.specs.Terms.{handed_out}
use Rattle.demands.specs.Demands.{Program}

-- the octets of n items behind the first i, one after the other, without those of items on the list
abbrev pub parts_off : Program → ℕ → List ℕ → ℕ → ℕ → ℕ → List ℕ
parts_off p cat s list i zero = []
parts_off p cat s list i (suc n) =
    pick (eqb (bit_of list (suc i)) 1) [] (p.part cat s (suc i)) ++ parts_off p cat s list (suc i) n

module _ (p : Program) where
  -- fields s and t "whose items off the list are alike, in presence and octets"; f and g are their records
  abbrev pub AlikeOff : ℕ → ℕ → List ℕ → Record → List ℕ → Record → Type 0
  AlikeOff cat list s f t g = (item : ℕ) → T (numbered cat item) → bit_of list item ≢ 1
      → (bit_of f.items item ≡ bit_of g.items item) × (p.part cat s item ≡ p.part cat t item)

  -- the copy of a field s with the record f: "the field without them"
  pub record Copy (cat : ℕ) (s : List ℕ) (f : Record) (list : ℕ) : Type 0 where
    pub octets : List ℕ
    pub held : Record
    -- it is a field, which the reader accepts (Demand2)
    pub field : IsField cat octets held
    -- an item on the list is absent; one off it is there or absent as it was, and keeps its octets and its turn
    pub absent : (item : ℕ) → T (numbered cat item) → bit_of list item ≡ 1 → bit_of held.items item ≡ 0
    pub kept : AlikeOff cat list s f octets held
    pub turns : octets ≡ length octets ∷ held.items ∷ parts_off p cat s list 0 (items_of cat)
    -- "Refusals: the reader's, then 11": room is asked of the copy, and not of the field
    pub given : (out : List ℕ) → length octets ≤ length out → p.copy cat s list out ≡ handed_out octets out
    pub no_room : (out : List ℕ) → length out < length octets → p.copy cat s list out ≡ refused_by 11 0 out

  pub record Visitors : Type 0 where
    -- "Nothing is claimed for a field that the reader refuses, whose refusal is passed on"
    pub fault : (cat : ℕ) (s : List ℕ) (n q : ℕ) → Octets s → Fault cat s n q → (list : ℕ) (out : List ℕ)
        → p.copy cat s list out ≡ refused_by n q out
    pub field : (cat : ℕ) (s : List ℕ) (f : Record) → Octets s → IsField cat s f → (list : ℕ) → list < 256
        → Copy cat s f list
    -- "for two accepted fields of one category .. whose items off the list are alike, in presence and octets, under one
    -- list and with equal output slices, the copy, its length and a refusal for room are the same": the whole result,
    -- whatever stands in the withheld items or behind LEN
    pub tells_nothing : (cat : ℕ) (s : List ℕ) (f : Record) (t : List ℕ) (g : Record) → Octets s → IsField cat s f
        → Octets t → IsField cat t g → (list : ℕ) → list < 256 → AlikeOff cat list s f t g → (out : List ℕ)
        → p.copy cat s list out ≡ p.copy cat t list out
    -- and it tells all else: fields with the same copy are alike off the list
    pub tells_all_else : (cat : ℕ) (s : List ℕ) (f : Record) (t : List ℕ) (g : Record) → Octets s → IsField cat s f
        → Octets t → IsField cat t g → (list : ℕ) → list < 256 → (out out' : List ℕ) (n : ℕ)
        → (p.copy cat s list out).0 ≡ Accepted n → (p.copy cat t list out').0 ≡ Accepted n
        → take n (p.copy cat s list out).1 ≡ take n (p.copy cat t list out').1 → AlikeOff cat list s f t g
    -- "Spare places in the list have no effect"
    pub spare_places : (cat : ℕ) (s : List ℕ) (list other : ℕ) → list < 256 → other < 256
        → ((item : ℕ) → T (numbered cat item) → bit_of list item ≡ bit_of other item) → (out : List ℕ)
        → p.copy cat s list out ≡ p.copy cat s other out
