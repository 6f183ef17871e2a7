-- No field is longer than LEN, the indicator and every line of every item.
use Rattle.std.specs.Prelude.{◌≡◌, Bool, true, false, List, [], ◌∷◌, ◌++◌, ℕ, suc, ◌+◌, ◌-◌, ◌≤◌, T, leb, eqb, ℤ, length, take, drop}
use Rattle.std.proofs.Common.{◌∙◌, zero-le, le_of_eq, arith, le→leb, length-append}
use Rattle.std.proofs.lemmas.List.{length-replicate}
use Rattle.codec.specs.Radix.{cut, eights}
use Rattle.codec.specs.Codec.{Codec, Blank, opt, number}
use Rattle.codec.specs.Line.{Line, Held, count, cells, line}
use Rattle.codec.specs.Item.{Item, chained, single, slots_of, slots, octets_of, longest_item, nothing, beside, fx_of, chain, flagged, subfields, item}
use Rattle.codec.specs.Field.{first_flag, next_flags, uncons, place, row, flags, indicator, Contents, body, longest_row, longest}
use Rattle.codec.specs.Frame.{write_frame, okay_frame}
use Rattle.codec.proofs.Laws.Tests.{and_in}
use Rattle.codec.proofs.Laws.Radix.{length_cut}

-- k octets, whatever the number
size : (k n : ℕ) → length (cut (eights k) n) ≡ k
size k n = length_cut (eights k) n ∙ length-replicate k 8

pub line_size : (l : Line) (v : Held) → length ((line l).write v) ≡ l.octets
unfolding line cells number
line_size l v = size l.octets _

opt-size : {A : Type 0} (z : Blank A) (b : Bool) (c : Codec A) (a : A) (n : ℕ) → length (c.write a) ≤ n → length ((opt z b c).write a) ≤ n
opt-size z true c a n h = h
opt-size z false c a n h = zero-le

append_le : (xs ys : List ℕ) {m n : ℕ} → length xs ≤ m → length ys ≤ n → length (xs ++ ys) ≤ m + n
append_le xs ys h k = rw length-append (omega arith)

beside-size : (n : ℕ) (c : Codec Held) (d : Held → Codec Held) {j k : ℕ} → ((v : Held) → length (c.write v) ≤ j) → ((a v : Held) → length ((d a).write v) ≤ k)
    → (b : (ℕ × ℕ) × List ℤ) → length ((beside n c d).write b) ≤ j + k
unfolding beside
beside-size n c d h g b =
    let u : Held = (b.0.0, take n b.1) in
    append_le (c.write u) ((d u).write (b.0.1, drop n b.1)) (h u) (g u (b.0.1, drop n b.1))

chain-size : (p : Line) (qs : List Line) (v : Held) → length ((chain p qs).write v) ≤ octets_of (p ∷ qs)
unfolding chain octets_of
chain-size p [] v = let e : length ((line p).write (0, v.1)) ≡ p.octets = line_size p (0, v.1) in omega arith
chain-size p (q ∷ qs) v =
    beside-size (count p.pieces) (line p) _ (λ u. le_of_eq (line_size p u))
    (λ a u. opt-size (nothing (slots_of (q ∷ qs))) (eqb a.0 1) (chain q qs) u (octets_of (q ∷ qs)) (chain-size q qs u))
    ((fx_of v.0, v.0 - 1), v.1)

subfields-size : (zs : List ℤ) (ss : List Line) (v : Held) → length ((subfields zs ss).write v) ≤ octets_of ss
unfolding subfields octets_of
subfields-size zs [] v = zero-le
subfields-size zs (s ∷ ss) v =
    beside-size (count s.pieces) (opt (nothing (count s.pieces)) (flagged zs s) (line s)) (λ a. subfields zs ss)
    (λ u. opt-size (nothing (count s.pieces)) (flagged zs s) (line s) u s.octets (le_of_eq (line_size s u)))
    (λ a u. subfields-size zs ss u) ((0, 0), v.1)

item_size : (it : Item) (v : Held) → length ((item it).write v) ≤ longest_item it
unfolding item longest_item octets_of
item_size (chained p qs ss) v =
    beside-size (slots_of (p ∷ qs)) (chain p qs) (λ a. subfields a.1 ss) (chain-size p qs) (λ a u. subfields-size a.1 ss u) ((v.0, 0), v.1)
item_size (single l) v = le_of_eq (line_size l v)

row-size : (ds : List ℕ) (its : List Item) (vs : List Held) → length ((row ds its).write vs) ≤ longest_row its
unfolding row longest_row
row-size ds [] vs = zero-le
row-size ds (it ∷ its) vs =
    append_le ((place (first_flag ds) it).write (uncons vs).0) _
    (opt-size (nothing (slots it)) (eqb (first_flag ds) 1) (item it) (uncons vs).0 (longest_item it) (item_size it (uncons vs).0))
    (row-size (next_flags ds) its (uncons vs).1)

pub field_size : (its : List Item) (r : Contents) → length (write_frame (body its) r) ≤ longest its
unfolding write_frame body longest indicator number
field_size its r =
    let h : length ((row (flags r.0) its).write r.1) ≤ longest_row its = row-size (flags r.0) its r.1 in
    let k : length (cut (eights 1) r.0) ≡ 1 = size 1 r.0 in
    rw length-append (omega arith)

body_least : (its : List Item) (r : Contents) → 1 ≤ length ((body its).write r)
unfolding body indicator number
body_least its r = let k : length (cut (eights 1) r.0) ≡ 1 = size 1 r.0 in rw length-append (omega arith)

-- where no field can be too long, what follows LEN alone says whether some field reads to it
pub okay_alone : (its : List Item) → longest its ≤ 255 → (r : Contents) → T ((body its).okay r) → T (okay_frame (body its) r)
unfolding okay_frame write_frame
okay_alone its h r t =
    let k : suc (length ((body its).write r)) ≤ longest its = field_size its r in
    and_in ((body its).okay r) _ t
    (and_in (leb 1 (length ((body its).write r))) _ (le→leb 1 (length ((body its).write r)) (body_least its r)) (le→leb (length ((body its).write r)) 254 (omega arith)))
