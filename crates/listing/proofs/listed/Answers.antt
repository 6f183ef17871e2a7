-- `listing::listed` meets its contract: no sheet is longer than the room. Assumes nothing.
use Rattle.std.proofs.Common.{◌≡◌, refl, sym, ap, ◌∙◌, true, List, ◌++◌, ℕ, ◌≤◌, arith, leb, length, take, drop, length-append, length-take-le}
use Rattle.std.proofs.Math.Seq.{take-append_seam}
use borrow.Author.Tests.{le-leb}
use Rattle.codec.specs.Codec.{Octets}
use Rattle.codec.proofs.Laws.Codec.{octets_all}
use Rattle.std.specs.Prelude.{Result, Ok}
use Rattle.layout.specs.declared.Refusal.{Refusal}
use Rattle.layout.specs.Answer.{Answer, Accepted, by_number, length_of}
use Rattle.layout.specs.Laws.Answer.{one_answer}
use Rattle.scope.specs.Sheet.{sheet_of}
use Rattle.scope.specs.Outputs.{with_room, answer_of, after, Leaves}
use Rattle.longest.specs.Longest.{longest_sheet}
use Rattle.longest.proofs.Laws.Longest.{sheet_longest}
use Rattle.listing.proofs.listed.Goals as goal

-- the sheet is accepted, and stands in the front of the output
record Stands (s : List ℕ) (a : Answer) (out : List ℕ) : Type 0 where
  answer : a ≡ Accepted (length (sheet_of s))
  within : length (sheet_of s) ≤ length out
  front : take (length (sheet_of s)) out ≡ sheet_of s

fits : (s out : List ℕ) → Octets s → longest_sheet ≤ length out → {a : Answer} {out' : List ℕ} → Leaves (with_room (length out) (sheet_of s)) out a out' → Stands s a out'
unfolding with_room answer_of after
fits s out o room {out' = out'} l =
    let e : leb (length (sheet_of s)) (length out) ≡ true = le-leb (length (sheet_of s)) (length out) (omega (arith, sheet_longest s o, room)) in
    let rest = drop (length (sheet_of s)) out in
    let output : out' ≡ sheet_of s ++ rest = l.output ∙ rw e refl in
    record {
      answer = l.answer ∙ rw e refl;
      within = omega (arith, ap length output, length-append (sheet_of s) rest);
      front = ap (take (length (sheet_of s))) output ∙ take-append_seam (sheet_of s) rest;
    }

-- so the length that is unwrapped is the sheet's
length_is : {s out' : List ℕ} {a : Result ℕ Refusal} {n : ℕ} → Stands s (by_number a) out' → a ≡ Ok n → n ≡ length (sheet_of s)
unfolding length_of
length_is t e = ap length_of (sym (ap by_number e) ∙ t.answer)

pub unwrap-len-requires : goal.unwrap-len-requires
unwrap-len-requires c =
    let t = c.args.input.now in
    let s = fits t c.args.output.now (octets_all t (λ i. omega (arith, c.type_inv.input i))) c.requires c.sheet.ensures in
    rw (one_answer c.sheet.result (Ok (length (sheet_of t))) s.answer) refl

pub slice_bounds-result-end : goal.slice_bounds-result-end
slice_bounds-result-end c =
    let t = c.args.input.now in
    let s = fits t c.args.output.now (octets_all t (λ i. omega (arith, c.type_inv.input i))) c.requires c.sheet.ensures in
    omega (arith, length-take-le c.unwrap-len.result c.sheet.new.out (omega (arith, length_is s c.unwrap-len.ensures, s.within)))

pub returns : goal.returns
returns c =
    let t = c.args.input.now in
    let s = fits t c.args.output.now (octets_all t (λ i. omega (arith, c.type_inv.input i))) c.requires c.sheet.ensures in
    ap (λ n. take n c.sheet.new.out) (length_is s c.unwrap-len.ensures) ∙ s.front
