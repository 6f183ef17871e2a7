-- Demand 2 for a program in C, from the promises of `ref_read` and `ref_write` alone: "Writing what was read gives the same octets; reading what was written gives the same record".
use Rattle.std.specs.Prelude.{◌≡◌, Bool, true, false, ◌&&◌, ℕ, zero, suc, ◌-◌, ◌^◌, ◌≤◌, ◌<◌, ltb, eqb, ℤ, pos, take, drop, replicate}
use Rattle.std.proofs.Math.Path.{refl, sym, ap, subst}
use Rattle.std.proofs.Common.{◌∙◌, arith, lt→ltb, eqb→eq}
use mathlib.Core.List.{List, [], ◌∷◌, ◌++◌}
use borrow.Author.Tests.{eq-eqb}
use Rattle.std.proofs.Math.Dec.{T, ltb→lt}
use Rattle.std.proofs.Math.ListN.{length, length-append, length-replicate}
use Rattle.codec.specs.Radix.{total, digits}
use Rattle.codec.specs.Codec.{Octets, Codec, opt, number}
use Rattle.codec.specs.Line.{Line, Held, count, widths, fit_nums, clear, unnums, cells, line}
use Rattle.codec.specs.Item.{Item, chained, single, nothing, slots, slots_of, beside, fx_of, chain, item}
use Rattle.codec.specs.Field.{flags, is_nil, is_cons, uncons, first_flag, next_flags, place, row, indicator, Contents, body}
use Rattle.codec.specs.Frame.{accepted}
use Rattle.codec.proofs.Laws.Tests.{and_l, and_r, and_in}
use Rattle.codec.proofs.Laws.Codec.{octets_++}
use Rattle.codec.proofs.Laws.Field.{row_okay}
use Rattle.papers.specs.Cat048.{cat048}
use Rattle.papers.specs.Cat021.{cat021}
use Rattle.papers.specs.Cat007.{cat007}
use Rattle.papers.specs.Papers.{paper_of, SLOTS, all_slots}
use Rattle.papers.proofs.Laws.Papers.{by_paper, few_slots}
use Rattle.layout.specs.declared.Record.{Record}
use Rattle.layout.specs.Answer.{Accepted}
use Rattle.layout.specs.Record.{all_parts, all_numbers, flatten}
use Rattle.layout.specs.Laws.Record.{length_numbers}
use Rattle.scope.specs.Reading.{read_of}
use Rattle.scope.specs.Writing.{write_of, Wrote}
use Rattle.scope.specs.Outputs.{answer_of, after}
use Rattle.scope.proofs.Laws.Reading.{read_found, read_okay, read_parts}
use Rattle.demands.specs.RoundTrips.{written_reads, read_writes}
use Rattle.interface.specs.Packed.{answer_word, Hands}
use Rattle.interface.specs.Arrays.{PLACES, array_of, fill_answer, filled_by, of_array, write_array, Fills}
use Rattle.interface.proofs.Laws.Exact.{Sized, array_writes, array_written}

-- ---- the parts of an item are few

nothing_few : (n k : ℕ) (flag : Bool) (c : Codec Held) (v : Held) → (T (c.okay v) → v.0 ≤ n) → T ((opt (nothing k) flag c).okay v) → v.0 ≤ n
nothing_few n k true c v f t = f t
nothing_few n k false c v f t = let e : v.0 ≡ 0 = eqb→eq v.0 0 (and_l (eqb v.0 0) _ t) in omega arith

chain_few : (p : Line) (qs : List Line) (v : Held) → T ((chain p qs).okay v) → v.0 ≤ suc (length qs)
unfolding chain beside
chain_few p [] v t = let e : v.0 ≡ 1 = eqb→eq v.0 1 (and_l (eqb v.0 1) _ t) in omega arith
chain_few p (q ∷ qs) v t =
    let n : ℕ = count p.pieces in
    let w : Held = (v.0 - 1, drop n v.1) in
    let k : T ((opt (nothing (slots_of (q ∷ qs))) (eqb (fx_of v.0) 1) (chain q qs)).okay w) = and_r ((line p).okay (fx_of v.0, take n v.1)) _ (and_r (ltb 0 v.0) _ t) in
    let h : w.0 ≤ suc (length qs) = nothing_few (suc (length qs)) (slots_of (q ∷ qs)) (eqb (fx_of v.0) 1) (chain q qs) w (chain_few q qs w) k in
    omega arith

-- a chain has at most 255 parts, and what has no chain has no bit below its pieces
unfoldable pub few_parts : List Item → Bool
few_parts [] = true
few_parts (chained p qs ss ∷ its) = ltb (length qs) 255 && few_parts its
few_parts (single l ∷ its) = eqb l.fx 0 && few_parts its

few_parts_lem : (cat : ℕ) → T (few_parts (paper_of cat))
unfolding few_parts cat048 cat021 cat007
few_parts_lem cat = by_paper (λ its. T (few_parts its)) tt tt tt tt cat

line_few : (l : Line) → l.fx ≡ 0 → (v : Held) → T ((line l).okay v) → v.0 ≤ 255
unfolding line cells
line_few l e v t =
    let q : ℕ × List ℕ = (v.0, unnums l.pieces v.1) in
    let a : T ((cells l).okay q) = and_l ((cells l).okay q) _ (and_r (fit_nums l.pieces v.1) _ (and_l (fit_nums l.pieces v.1 && ((cells l).okay q && clear l.pieces q.1)) _ t)) in
    let b : T (ltb v.0 (2 ^ l.fx)) = and_l (ltb v.0 (2 ^ l.fx)) _ (and_l (ltb v.0 (2 ^ l.fx) && digits (widths l.pieces) q.1) _ a) in
    let c : v.0 < 2 ^ l.fx = ltb→lt v.0 (2 ^ l.fx) b in
    let d : v.0 < 1 = subst (λ (k : ℕ). v.0 < 2 ^ k) e c in
    omega arith

item_few : (it : Item) (its : List Item) → T (few_parts (it ∷ its)) → (v : Held) → T ((item it).okay v) → v.0 ≤ 255
unfolding few_parts item beside
item_few (chained p qs ss) its g v t =
    let n : ℕ = slots_of (p ∷ qs) in
    let h : v.0 ≤ suc (length qs) = chain_few p qs (v.0, take n v.1) (and_l ((chain p qs).okay (v.0, take n v.1)) _ t) in
    let k : length qs < 255 = ltb→lt (length qs) 255 (and_l (ltb (length qs) 255) _ g) in
    omega arith
item_few (single l) its g v t = line_few l (eqb→eq l.fx 0 (and_l (eqb l.fx 0) _ g)) v t

few_next : (it : Item) (its : List Item) → T (few_parts (it ∷ its)) → T (few_parts its)
unfolding few_parts
few_next (chained p qs ss) its g = and_r (ltb (length qs) 255) _ g
few_next (single l) its g = and_r (eqb l.fx 0) _ g

row_few : (ds : List ℕ) (its : List Item) (vs : List Held) → T (few_parts its) → T ((row ds its).okay vs) → Octets (all_parts vs)
unfolding row uncons is_cons is_nil all_parts
row_few ds [] [] g t = tt
row_few ds [] (v ∷ vs) g t = absurd t
row_few ds (it ∷ its) [] g t = absurd t
row_few ds (it ∷ its) (v ∷ vs) g t =
    let h : v.0 ≤ 255 = nothing_few 255 (slots it) (eqb (first_flag ds) 1) (item it) v (item_few it its g v) (and_l ((place (first_flag ds) it).okay v) _ t) in
    and_in (ltb v.0 256) _ (lt→ltb v.0 256 (omega arith)) (row_few (next_flags ds) its vs (few_next it its g) (and_r ((place (first_flag ds) it).okay v) _ t))

-- ---- what was read has octets and the right lengths, so it is got back from its array

zeros_octets : (n : ℕ) → Octets (replicate n 0)
zeros_octets zero = tt
zeros_octets (suc n) = zeros_octets n

module _ (cat : ℕ) (small : cat < 256) (s : List ℕ) (o : Octets s) {n : ℕ} (e : (read_of cat s).answer ≡ Accepted n) where
  read_sized : Sized (read_of cat s).kept
  unfolding flatten indicator number body total
  read_sized =
      let r = read_found cat s n e in
      let its : List Item = paper_of cat in
      let x : Contents = r.what in
      let b : T ((body its).okay x) = read_okay o r in
      let k : T ((row (flags x.0) its).okay x.1) = row_okay its x b in
      let i : T (ltb x.0 256) = and_l (ltb x.0 256) _ (and_l ((number 1).okay x.0) _ (and_l ((indicator its).okay x.0) _ b)) in
      let ln : length (all_numbers x.1) ≡ all_slots its = length_numbers (flags x.0) its x.1 k in
      subst Sized (sym r.kept_is) (record {
        cat_octet = small;
        items_octet = ltb→lt x.0 256 i;
        parts_octets = octets_++ (all_parts x.1) (replicate (8 - length its) 0) (row_few (flags x.0) its x.1 (few_parts_lem cat) k) (zeros_octets (8 - length its));
        parts_many = ap (λ (f : Record). length f.parts) (sym r.kept_is) ∙ read_parts cat s o n e;
        numbers_many = omega (arith, length-append (all_numbers x.1) (replicate (SLOTS - all_slots its) (pos 0)), length-replicate {A = ℤ} (SLOTS - all_slots its) (pos 0), ln, few_slots cat);
      })

  -- "Writing what was read gives the same octets": where there is room the front is the field, the rest is as before, and the word is the same
  pub read_written : (array : List ℤ) → length array ≡ PLACES → {w : ℕ} {a : List ℤ} → Fills (read_of cat s) array w a
      → (out : List ℕ) → n ≤ length out → {v : ℕ} {out' : List ℕ} → Hands (write_array a (length out)) out v out' → (v ≡ w) × (out' ≡ take n s ++ drop n out)
  unfolding fill_answer filled_by
  read_written array l {w} {a} p out room {v} {out'} q =
      let f : Record = (read_of cat s).kept in
      let ew : w ≡ answer_word (Accepted n) = p.word ∙ rw (e, eq-eqb (length array) PLACES l) refl in
      let ea : a ≡ array_of f = p.array ∙ rw (e, eq-eqb (length array) PLACES l) refl in
      let same : write_array a (length out) ≡ write_of f (length out) = ap (λ x. write_array x (length out)) ea ∙ array_writes f read_sized (length out) in
      let t = read_writes cat s o refl n e out room {a = answer_of (write_of f (length out))} {out' = after (write_of f (length out)) out} (record { answer = refl; output = refl }) in
      (q.word ∙ ap (λ x. answer_word (answer_of x)) same ∙ ap answer_word t.0 ∙ sym ew, q.output ∙ ap (λ x. after x out) same ∙ t.1)

-- ---- "reading what was written gives the same record": of the whole output, whatever stood there before

pub written_read : (a : List ℤ) (out : List ℕ) {w : ℕ} {out' : List ℕ} → Hands (write_array a (length out)) out w out' → (b : List ℕ) → write_array a (length out) ≡ accepted b
    → (array : List ℤ) → length array ≡ PLACES → {v : ℕ} {a' : List ℤ} → Fills (read_of (of_array a).cat out') array v a' → (v ≡ w) × (a' ≡ a)
unfolding answer_of fill_answer filled_by
written_read a out {w} {out'} p b e array l {v} {a'} q =
    let f : Record = of_array a in
    let k = array_written a (length out) b e in
    let wrote : Wrote f out (Accepted (length b)) out' = record { answer = ap answer_of (sym k.1); output = p.output ∙ ap (λ x. after x out) (e ∙ sym k.1) } in
    let back : read_of f.cat out' ≡ record { answer = Accepted (length b); kept = f } = written_reads f out wrote refl refl in (
      q.word ∙ rw (back, eq-eqb (length array) PLACES l) refl ∙ sym (p.word ∙ ap (λ x. answer_word (answer_of x)) e),
      q.array ∙ rw (back, eq-eqb (length array) PLACES l) refl ∙ k.0,
    )
