-- One law for each way through the code.
use Rattle.std.specs.Prelude.{◌≡◌, Bool, true, false, Option, None, Some, List, [], ◌∷◌, ℕ, ◌+◌, eqb, ◌≤◌, ◌<◌, ltb, get_or, drop, set}
use Rattle.std.proofs.Math.Path.{refl, ap}
use Rattle.std.proofs.Common.{◌∙◌, add_assoc, length-set, drop_of_length-le, drop-cons}
use Rattle.std.proofs.Math.Numerals.{add-one}
use borrow.Author.Tests.{lt-ltb, le-ltb, eq-eqb, ne_eqb}
use Rattle.std.proofs.Math.ListN.{length}
use Rattle.codec.specs.Pick.{pick}
use Rattle.lines.specs.Joining.{more, put_in, Keeps, join_of, line_after, Joined, joined}

-- ---- of `keep`

pub keep_there : (line : List ℕ) (n o : ℕ) → n < length line → Keeps line n o (n + 1) (set line n o)
unfolding more put_in
keep_there line n o h = (rw (lt-ltb n (length line) h) refl, rw (lt-ltb n (length line) h) refl)

pub keep_full : (line : List ℕ) (n o : ℕ) → length line ≤ n → Keeps line n o n line
unfolding more put_in
keep_full line n o h = (rw (le-ltb n (length line) h) refl, rw (le-ltb n (length line) h) refl)

pub put_length : (room : ℕ) (line : List ℕ) (n o : ℕ) → length (put_in room line n o) ≡ length line
unfolding put_in
put_length room line n o = by_room (ltb n room)
  where
    by_room : (b : Bool) → length (pick b (set line n o) line) ≡ length line
    by_room true = length-set line n o
    by_room false = refl

-- ---- of `join`: the octets from a place on

module _ (room : ℕ) (s : List ℕ) (at n : ℕ) (line : List ℕ) where
  abbrev pub JoinsTo : Joined → List ℕ → Type 0
  JoinsTo j m = (j ≡ join_of room (drop at s) n at) × (m ≡ line_after room (drop at s) n line)

  pub join_end : length s ≤ at → JoinsTo (record { at = at; held = n; ended = false }) line
  unfolding join_of line_after
  join_end h = (rw (drop_of_length-le s {i = at} h) refl, rw (drop_of_length-le s {i = at} h) refl)

  pub join_feed : at < length s → get_or s at 0 ≡ 10 → JoinsTo (record { at = at + 1; held = n; ended = true }) line
  unfolding join_of line_after
  join_feed h e = (rw (drop-cons s at 0 h, eq-eqb (get_or s at 0) 10 e) refl, rw (drop-cons s at 0 h, eq-eqb (get_or s at 0) 10 e) refl)

  pub join_more : length line ≡ room → at < length s → (get_or s at 0 ≡ 10 → ⊥) → {m : ℕ} {line' : List ℕ} → Keeps line n (get_or s at 0) m line'
      → (length line' ≡ room) × (join_of room (drop at s) n at ≡ join_of room (drop (at + 1) s) m (at + 1)) × (line_after room (drop at s) n line ≡ line_after room (drop (at + 1) s) m line')
  unfolding join_of line_after
  join_more l h e {m} {line'} x =
      let p : line' ≡ put_in room line n (get_or s at 0) = x.1 ∙ ap (λ r. put_in r line n (get_or s at 0)) l in
      let q : m ≡ more room n = x.0 ∙ ap (λ r. more r n) l in (
        ap length p ∙ put_length room line n (get_or s at 0) ∙ l,
        rw (drop-cons s at 0 h, ne_eqb (get_or s at 0) 10 e, q, add-one at) refl,
        rw (drop-cons s at 0 h, ne_eqb (get_or s at 0) 10 e, p, q, add-one at) refl,
      )

-- the place of the first octet is only counted on from
pub join_from : (room : ℕ) (s : List ℕ) (n at from : ℕ) → join_of room s n (from + at) ≡ record (join_of room s n at) { at = from + (join_of room s n at).at }
unfolding join_of
join_from room [] n at from = refl
join_from room (o ∷ s) n at from = by_feed (eqb o 10) (join_from room s (more room n) (at + 1) from)
  where
    by_feed : (b : Bool) → join_of room s (more room n) (from + (at + 1)) ≡ record (join_of room s (more room n) (at + 1)) { at = from + (join_of room s (more room n) (at + 1)).at }
        → pick b (record { at = (from + at) + 1; held = n; ended = true }) (join_of room s (more room n) ((from + at) + 1))
        ≡ record (pick b (record { at = at + 1; held = n; ended = true }) (join_of room s (more room n) (at + 1))) { at = from + (pick b (record { at = at + 1; held = n; ended = true }) (join_of room s (more room n) (at + 1))).at }
    by_feed true e = rw (add_assoc from at 1) refl
    by_feed false e = rw (add_assoc from at 1) e

-- what `join` says decides its result
pub joined_one : (all n m : ℕ) (r r' : Option ℕ) → joined all n r ≡ joined all m r' → (r ≡ r') × (n ≡ m)
joined_one all n m None None e = (refl, ap (λ (j : Joined). j.held) e)
joined_one all n m None (Some b) e = let f : ◌≡◌ {A = Bool} false true = ap (λ (j : Joined). j.ended) e in absurd cc
joined_one all n m (Some a) None e = let f : ◌≡◌ {A = Bool} true false = ap (λ (j : Joined). j.ended) e in absurd cc
joined_one all n m (Some a) (Some b) e = (ap (λ (j : Joined). Some j.at) e, ap (λ (j : Joined). j.held) e)
