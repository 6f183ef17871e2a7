-- Each turn of `join` takes one line of the input, or what is left of it; and the lines of an input are the same, however it is cut into reads.
use Rattle.std.specs.Prelude.{◌≡◌, Bool, List, [], ◌∷◌, ◌++◌, ℕ, zero, suc, ◌+◌, ◌-◌, ◌≤◌, ◌<◌, eqb, length, take, drop, set}
use Rattle.std.proofs.Math.Path.{refl}
use Rattle.std.proofs.Common.{sym, ap, ap₂, ◌∙◌, append_assoc, arith, ltb-true, ltb-false, length-set, length-append, length-take, take_all}
use Rattle.std.proofs.Math.Bool.{true, false}
use Rattle.std.proofs.Math.Dec.{ltb}
use Rattle.std.proofs.Math.Seq.{take-append_seam}
use Rattle.std.proofs.lemmas.List.{set_split}
use Rattle.codec.specs.Pick.{pick}
use Rattle.lines.specs.Lines.{ended, left, held}
use Rattle.lines.specs.Joining.{more, put_in, join_of, line_after, Joined}

-- ---- what an array with n octets in its front holds of a line

pub record Holds (array : List ℕ) (n : ℕ) (line : List ℕ) : Type 0 where
  pub room : length array ≡ 16_385
  pub count : n ≡ length (held line)
  pub octets : take n array ≡ held line

pub holds_none : (array : List ℕ) → length array ≡ 16_385 → Holds array 0 []
holds_none array e = record { room = e; count = refl; octets = refl }

take_left : (n : ℕ) (xs ys : List ℕ) → n ≤ length xs → take n (xs ++ ys) ≡ take n xs
take_left zero xs ys h = refl
take_left (suc n) [] ys h = absurd (omega arith)
take_left (suc n) (x ∷ xs) ys h = ap (λ t. x ∷ t) (take_left n xs ys (omega arith))

module _ {array : List ℕ} {n : ℕ} {line : List ℕ} (x : Holds array n line) (o : ℕ) where
  with_room_lem : n < 16_385 → Holds (set array n o) (n + 1) (line ++ (o ∷ []))
  with_room_lem h =
      let s : length line ≤ 16_385 = omega (arith, x.count, length-take 16_385 line) in
      let w : held line ≡ line = take_all 16_385 line s in
      let c : n ≡ length line = x.count ∙ ap length w in
      let l : length (line ++ (o ∷ [])) ≡ n + 1 = length-append line (o ∷ []) ∙ omega arith in
      let k : held (line ++ (o ∷ [])) ≡ line ++ (o ∷ []) = take_all 16_385 (line ++ (o ∷ [])) (omega arith) in
      let p : set array n o ≡ (line ++ (o ∷ [])) ++ drop (suc n) array =
      set_split array n o (omega (arith, x.room)) ∙ ap (λ t. t ++ (o ∷ drop (suc n) array)) (x.octets ∙ w) ∙ sym (append_assoc line (o ∷ []) (drop (suc n) array)) in record {
        room = length-set array n o ∙ x.room;
        count = sym l ∙ ap length (sym k);
        octets = ap₂ take (sym l) p ∙ take-append_seam (line ++ (o ∷ [])) (drop (suc n) array) ∙ sym k;
      }

  without_room : 16_385 ≤ n → Holds array n (line ++ (o ∷ []))
  without_room h =
      let k : held (line ++ (o ∷ [])) ≡ held line = take_left 16_385 line (o ∷ []) (omega (arith, x.count, length-take 16_385 line)) in
      record { room = x.room; count = x.count ∙ ap length (sym k); octets = x.octets ∙ sym k }

  holds_more : Holds (put_in 16_385 array n o) (more 16_385 n) (line ++ (o ∷ []))
  unfolding put_in more
  holds_more = by_room (ltb n 16_385) refl
    where
      by_room : (b : Bool) → ltb n 16_385 ≡ b → Holds (pick b (set array n o) array) (pick b (n + 1) n) (line ++ (o ∷ []))
      by_room true t = with_room_lem (ltb-true n 16_385 t)
      by_room false t = without_room (ltb-false n 16_385 t)

-- ---- one turn: s the octets from place at on, h the line that stands before them

-- a line ended: it stands in the array, and the lines behind it are those of the octets behind its line feed
pub record Ends (j : Joined) (array h s : List ℕ) (at : ℕ) : Type 0 where
  pub line : List ℕ
  pub stands : Holds array j.held line
  pub first : ended h s ≡ line ∷ ended [] (drop (j.at - at) s)
  pub rest : left h s ≡ left [] (drop (j.at - at) s)

-- no line ended: all octets are held
pub record GoesOn (j : Joined) (array h s : List ℕ) (at : ℕ) : Type 0 where
  pub none : ended h s ≡ []
  pub stands : Holds array j.held (left h s)
  pub all : j.at ≡ at + length s

place_later : (room : ℕ) (s : List ℕ) (n at : ℕ) → at ≤ (join_of room s n at).at
unfolding join_of
place_later room [] n at = omega arith
place_later room (o ∷ s) n at = by_feed (eqb o 10) (place_later room s (more room n) (at + 1))
  where
    by_feed : (b : Bool) → at + 1 ≤ (join_of room s (more room n) (at + 1)).at → at ≤ (pick b (record { at = at + 1; held = n; ended = true }) (join_of room s (more room n) (at + 1))).at
    by_feed true h = omega arith
    by_feed false h = omega arith

pub place_further : (room : ℕ) (s : List ℕ) (n at : ℕ) → 0 < length s → at < (join_of room s n at).at
unfolding join_of
place_further room [] n at h = absurd (omega arith)
place_further room (o ∷ s) n at h = by_feed (eqb o 10) (place_later room s (more room n) (at + 1))
  where
    by_feed : (b : Bool) → at + 1 ≤ (join_of room s (more room n) (at + 1)).at → at < (pick b (record { at = at + 1; held = n; ended = true }) (join_of room s (more room n) (at + 1))).at
    by_feed true h = omega arith
    by_feed false h = omega arith

pub place_within : (room : ℕ) (s : List ℕ) (n at : ℕ) → (join_of room s n at).at ≤ at + length s
unfolding join_of
place_within room [] n at = omega arith
place_within room (o ∷ s) n at = by_feed (eqb o 10) (place_within room s (more room n) (at + 1))
  where
    by_feed : (b : Bool) → (join_of room s (more room n) (at + 1)).at ≤ (at + 1) + length s → (pick b (record { at = at + 1; held = n; ended = true }) (join_of room s (more room n) (at + 1))).at ≤ at + suc (length s)
    by_feed true h = omega arith
    by_feed false h = omega arith

-- a line ends at an octet
pub ends_at_octet : (room : ℕ) (s : List ℕ) (n at : ℕ) → (join_of room s n at).ended ≡ true → 0 < length s
unfolding join_of
ends_at_octet room [] n at e = let z : ◌≡◌ {A = Bool} false true = e in absurd cc
ends_at_octet room (o ∷ s) n at e = omega arith

-- the octets behind an octet
behind : (o : ℕ) (s : List ℕ) (at : ℕ) {place : ℕ} → at + 1 ≤ place → drop (place - at) (o ∷ s) ≡ drop (place - (at + 1)) s
behind o s at {place} h = let e : place - at ≡ suc (place - (at + 1)) = omega arith in rw e refl

pub join_ends : (s : List ℕ) {array : List ℕ} {n : ℕ} {h : List ℕ} → Holds array n h → (at : ℕ) → (join_of 16_385 s n at).ended ≡ true → Ends (join_of 16_385 s n at) (line_after 16_385 s n array) h s at
unfolding join_of line_after ended left
join_ends [] x at e = let z : ◌≡◌ {A = ℕ} 0 1 = cc in absurd (omega arith)
join_ends (o ∷ s) {array} {n} {h} x at e = by_feed (eqb o 10) refl e (join_ends s (holds_more x o) (at + 1))
  where
    by_feed : (b : Bool) → eqb o 10 ≡ b → (pick b (record { at = at + 1; held = n; ended = true }) (join_of 16_385 s (more 16_385 n) (at + 1))).ended ≡ true
        → ((join_of 16_385 s (more 16_385 n) (at + 1)).ended ≡ true → Ends (join_of 16_385 s (more 16_385 n) (at + 1)) (line_after 16_385 s (more 16_385 n) (put_in 16_385 array n o)) (h ++ (o ∷ [])) s (at + 1))
        → Ends (join_of 16_385 (o ∷ s) n at) (line_after 16_385 (o ∷ s) n array) h (o ∷ s) at
    by_feed true t e ih =
        let z : at + 1 - at ≡ 1 = omega arith in
        rw t (record { line = h; stands = x; first = rw (t, z) refl; rest = rw (t, z) refl })
    by_feed false t e ih =
        let y = ih e in
        let b = behind o s at (place_later 16_385 s (more 16_385 n) (at + 1)) in
        rw t (record { line = y.line; stands = y.stands; first = rw (t, b) y.first; rest = rw (t, b) y.rest })

pub join-goes_on : (s : List ℕ) {array : List ℕ} {n : ℕ} {h : List ℕ} → Holds array n h → (at : ℕ) → (join_of 16_385 s n at).ended ≡ false → GoesOn (join_of 16_385 s n at) (line_after 16_385 s n array) h s at
unfolding join_of line_after ended left
join-goes_on [] x at e = record { none = refl; stands = x; all = omega arith }
join-goes_on (o ∷ s) {array} {n} {h} x at e = by_feed (eqb o 10) refl e (join-goes_on s (holds_more x o) (at + 1))
  where
    by_feed : (b : Bool) → eqb o 10 ≡ b → (pick b (record { at = at + 1; held = n; ended = true }) (join_of 16_385 s (more 16_385 n) (at + 1))).ended ≡ false
        → ((join_of 16_385 s (more 16_385 n) (at + 1)).ended ≡ false → GoesOn (join_of 16_385 s (more 16_385 n) (at + 1)) (line_after 16_385 s (more 16_385 n) (put_in 16_385 array n o)) (h ++ (o ∷ [])) s (at + 1))
        → GoesOn (join_of 16_385 (o ∷ s) n at) (line_after 16_385 (o ∷ s) n array) h (o ∷ s) at
    by_feed true t e ih = let z : ◌≡◌ {A = ℕ} 0 1 = cc in absurd (omega arith)
    by_feed false t e ih =
        let y = ih e in
        rw t (record { none = rw t y.none; stands = rw t y.stands; all = omega (arith, y.all) })

-- ---- reads, one behind the other

pub reads_end : (h a b : List ℕ) → ended h (a ++ b) ≡ ended h a ++ ended (left h a) b
unfolding ended left
reads_end h [] b = refl
reads_end h (o ∷ a) b = by_feed (eqb o 10) (reads_end [] a b) (reads_end (h ++ (o ∷ [])) a b)
  where
    by_feed : (t : Bool) → ended [] (a ++ b) ≡ ended [] a ++ ended (left [] a) b → ended (h ++ (o ∷ [])) (a ++ b) ≡ ended (h ++ (o ∷ [])) a ++ ended (left (h ++ (o ∷ [])) a) b
        → pick t (h ∷ ended [] (a ++ b)) (ended (h ++ (o ∷ [])) (a ++ b)) ≡ pick t (h ∷ ended [] a) (ended (h ++ (o ∷ [])) a) ++ ended (pick t (left [] a) (left (h ++ (o ∷ [])) a)) b
    by_feed true e f = ap (λ l. h ∷ l) e
    by_feed false e f = f

pub reads_left : (h a b : List ℕ) → left h (a ++ b) ≡ left (left h a) b
unfolding left
reads_left h [] b = refl
reads_left h (o ∷ a) b = by_feed (eqb o 10) (reads_left [] a b) (reads_left (h ++ (o ∷ [])) a b)
  where
    by_feed : (t : Bool) → left [] (a ++ b) ≡ left (left [] a) b → left (h ++ (o ∷ [])) (a ++ b) ≡ left (left (h ++ (o ∷ [])) a) b
        → pick t (left [] (a ++ b)) (left (h ++ (o ∷ [])) (a ++ b)) ≡ left (pick t (left [] a) (left (h ++ (o ∷ [])) a)) b
    by_feed true e f = e
    by_feed false e f = f
