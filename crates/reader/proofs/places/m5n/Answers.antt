-- `reader::places::m5n` meets its contract: one law at each way out, and one at each subfield. Assumes nothing.
use mathlib.Core.Path.{◌≡◌, refl, sym, ap, ◌∙◌}
use mathlib.Core.List.{List}
use Prim.Native.Nat.{ℕ, ◌+◌, ◌%◌}
use native.Mathlib.Omega.{arith}
use borrow.Author.Rules.{rules}
use lib.Dec.{eqb}
use lib.IntN.{ℤ, pos}
use lib.ListN.{get_or, replicate}
use Rattle.codec.specs.Codec.{Res}
use Rattle.codec.specs.Line.{Held}
use Rattle.codec.specs.Pick.{pick}
use Rattle.reader.specs.Laws.Tables.{total, cut, to_num, widths, count, nums, lines_of, slots_of, cat048, cat021, cat007, items, placed_from, placed_in, placed, placed_at, item_at, lines_from, parts_ok, flags_under, item_of, item_run, line_run, more_from}
use Rattle.lengths.specs.Lines.{line_at}
use Rattle.reader.specs.Items.{more}
use Rattle.reader.specs.Chains.{chain_at}
use Rattle.reader.specs.Seen.{Ends, Went, flag_at}
use Rattle.reader.specs.Laws.Items.{item_from}
use Rattle.reader.specs.Laws.Parts.{Bits, bits, flag_leads, flag_behind, behind_some, two_hold}
use Rattle.reader.specs.Laws.Onward.{chain-from, by_octet}
use Rattle.reader.specs.Laws.Looked.{Looked, look_chain, look_on, more_stop}
use Rattle.reader.specs.Laws.Seen.{went_by, went_stop, err_big, handed, ends_same}
use Rattle.std.specs.Prelude.{T, ◌++◌}
use Rattle.std.proofs.iter.Serving.{serving}
use Rattle.reader.proofs.places.m5n.Goals as goal

first_bits : Bits 8 7
unfolding nums to_num widths cut total placed_at placed placed_in placed_from lines_of items cat048 cat021 cat007
first_bits = record { part = refl; octet = refl; numbers = λ m. refl }

second_bits : Bits 9 1
unfolding nums to_num widths cut total placed_at placed placed_in placed_from lines_of items cat048 cat021 cat007
second_bits = record { part = refl; octet = refl; numbers = λ m. refl }

lone : T (parts_ok 9 0)
unfolding parts_ok count placed_at placed placed_in placed_from lines_of items cat048 cat021 cat007
lone = tt

module _ (xs : List ℕ) (at f : ℕ) (u : f ≡ get_or xs at 0) where
  abbrev z : ℕ
  z = get_or xs at 0

  abbrev y : ℕ
  y = get_or xs (at + 1) 0

  abbrev rest : List ℤ
  rest = pick (eqb (z % 2) 1) (bits 1 y) (replicate 1 (pos 0))

  h0 : {a : ℕ} → Ends (chain_at 8 xs at 1) a → Looked xs (bits 7 z ++ rest) (chain_at 8 xs at 1) a
  unfolding slots_of lines_from count placed_at placed placed_in placed_from lines_of items cat048 cat021 cat007
  h0 e = look_chain xs _ e (two_hold 8 7 1 first_bits second_bits xs at)

  h1 : {x : Res Held} {a r : ℕ} → Looked xs (bits 7 z ++ rest) x a → Went (flag_at f 0) (line_run 10 xs a) a r → Looked xs (bits 7 z ++ rest) (more (line_at 10) xs x) r
  unfolding slots_of count cut total placed_at placed placed_in placed_from lines_of items cat048 cat021 cat007
  h1 k w = look_on 10 xs _ k (omega arith) (flag_leads z rest 0 (omega arith) (ap (λ x. flag_at x 0) u)) w

  h2 : {x : Res Held} {a r : ℕ} → Looked xs (bits 7 z ++ rest) x a → Went (flag_at f 1) (line_run 11 xs a) a r → Looked xs (bits 7 z ++ rest) (more (line_at 11) xs x) r
  unfolding slots_of count cut total placed_at placed placed_in placed_from lines_of items cat048 cat021 cat007
  h2 k w = look_on 11 xs _ k (omega arith) (flag_leads z rest 1 (omega arith) (ap (λ x. flag_at x 1) u)) w

  h3 : {x : Res Held} {a r : ℕ} → Looked xs (bits 7 z ++ rest) x a → Went (flag_at f 2) (line_run 12 xs a) a r → Looked xs (bits 7 z ++ rest) (more (line_at 12) xs x) r
  unfolding slots_of count cut total placed_at placed placed_in placed_from lines_of items cat048 cat021 cat007
  h3 k w = look_on 12 xs _ k (omega arith) (flag_leads z rest 2 (omega arith) (ap (λ x. flag_at x 2) u)) w

  h4 : {x : Res Held} {a r : ℕ} → Looked xs (bits 7 z ++ rest) x a → Went (flag_at f 3) (line_run 13 xs a) a r → Looked xs (bits 7 z ++ rest) (more (line_at 13) xs x) r
  unfolding slots_of count cut total placed_at placed placed_in placed_from lines_of items cat048 cat021 cat007
  h4 k w = look_on 13 xs _ k (omega arith) (flag_leads z rest 3 (omega arith) (ap (λ x. flag_at x 3) u)) w

  h5 : {x : Res Held} {a r : ℕ} → Looked xs (bits 7 z ++ rest) x a → Went (flag_at f 4) (line_run 14 xs a) a r → Looked xs (bits 7 z ++ rest) (more (line_at 14) xs x) r
  unfolding slots_of count cut total placed_at placed placed_in placed_from lines_of items cat048 cat021 cat007
  h5 k w = look_on 14 xs _ k (omega arith) (flag_leads z rest 4 (omega arith) (ap (λ x. flag_at x 4) u)) w

  h6 : {x : Res Held} {a r : ℕ} → Looked xs (bits 7 z ++ rest) x a → Went (flag_at f 5) (line_run 15 xs a) a r → Looked xs (bits 7 z ++ rest) (more (line_at 15) xs x) r
  unfolding slots_of count cut total placed_at placed placed_in placed_from lines_of items cat048 cat021 cat007
  h6 k w = look_on 15 xs _ k (omega arith) (flag_leads z rest 5 (omega arith) (ap (λ x. flag_at x 5) u)) w

  h7 : {x : Res Held} {a r : ℕ} → Looked xs (bits 7 z ++ rest) x a → Went (flag_at f 6) (line_run 16 xs a) a r → Looked xs (bits 7 z ++ rest) (more (line_at 16) xs x) r
  unfolding slots_of count cut total placed_at placed placed_in placed_from lines_of items cat048 cat021 cat007
  h7 k w = look_on 16 xs _ k (omega arith) (flag_leads z rest 6 (omega arith) (ap (λ x. flag_at x 6) u)) w

pub there-requires : goal.there-requires
there-requires c = grind (serving, lone)

pub returns-in_err-part : goal.returns-in_err-part
unfolding parts_ok flags_under item_run item_at item_of more_from lines_from slots_of count cut total placed_at placed placed_in placed_from lines_of items cat048 cat021 cat007
returns-in_err-part c =
    let a = c.args in let xs = a.s.now in let f = c.octet_at-f.result in let u = c.octet_at-f.ensures ∙ ap (λ i. get_or xs i 0) c.from.ensures in
    handed c.from_residual.result c.in_err-part.field-0.0 c.from_residual.ensures.1 (more_stop 10 8 xs (sym (item_from 8 1 8 xs a.at tt)) c.in_err-part.field-0.0 (chain-from 8 xs 0 tt a.at c.in_err-part.ensures (went_stop (err_big c.in_err-part.field-0.0))))

pub returns-in_err-parts : goal.returns-in_err-parts
unfolding parts_ok flags_under item_run item_at item_of more_from lines_from slots_of count cut total placed_at placed placed_in placed_from lines_of items cat048 cat021 cat007
returns-in_err-parts c =
    let a = c.args in let xs = a.s.now in let f = c.octet_at-f.result in let u = c.octet_at-f.ensures ∙ ap (λ i. get_or xs i 0) c.from.ensures in
    handed c.from_residual-in_err-parts.result c.in_err-parts.field-0.0 c.from_residual-in_err-parts.ensures.1 (more_stop 10 8 xs (sym (item_from 8 1 8 xs a.at tt)) c.in_err-parts.field-0.0 (chain-from 8 xs 0 tt a.at c.in_ok-part.ensures (by_octet xs c.before-2.ensures (went_by c.in_err-parts.ensures (λ p. search rules)))))

pub returns-in_err-sum : goal.returns-in_err-sum
unfolding parts_ok flags_under item_run item_at item_of more_from lines_from slots_of count cut total placed_at placed placed_in placed_from lines_of items cat048 cat021 cat007
returns-in_err-sum c =
    let a = c.args in let xs = a.s.now in let f = c.octet_at-f.result in let u = c.octet_at-f.ensures ∙ ap (λ i. get_or xs i 0) c.from.ensures in
    handed c.from_residual-in_err-sum.result c.in_err-sum.field-0.0 c.from_residual-in_err-sum.ensures.1 (more_stop 11 7 xs (sym (item_from 8 1 8 xs a.at tt)) c.in_err-sum.field-0.0 (h1 xs a.at f u (h0 xs a.at f u (chain-from 8 xs 0 tt a.at c.in_ok-part.ensures (by_octet xs c.before-2.ensures (went_by c.in_ok-parts.ensures (λ p. search rules))))) c.in_err-sum.ensures).ends)

pub returns-in_err-pmn : goal.returns-in_err-pmn
unfolding parts_ok flags_under item_run item_at item_of more_from lines_from slots_of count cut total placed_at placed placed_in placed_from lines_of items cat048 cat021 cat007
returns-in_err-pmn c =
    let a = c.args in let xs = a.s.now in let f = c.octet_at-f.result in let u = c.octet_at-f.ensures ∙ ap (λ i. get_or xs i 0) c.from.ensures in
    handed c.from_residual-in_err-pmn.result c.in_err-pmn.field-0.0 c.from_residual-in_err-pmn.ensures.1 (more_stop 12 6 xs (sym (item_from 8 1 8 xs a.at tt)) c.in_err-pmn.field-0.0 (h2 xs a.at f u (h1 xs a.at f u (h0 xs a.at f u (chain-from 8 xs 0 tt a.at c.in_ok-part.ensures (by_octet xs c.before-2.ensures (went_by c.in_ok-parts.ensures (λ p. search rules))))) c.in_ok-sum.ensures) c.in_err-pmn.ensures).ends)

pub returns-in_err-pos : goal.returns-in_err-pos
unfolding parts_ok flags_under item_run item_at item_of more_from lines_from slots_of count cut total placed_at placed placed_in placed_from lines_of items cat048 cat021 cat007
returns-in_err-pos c =
    let a = c.args in let xs = a.s.now in let f = c.octet_at-f.result in let u = c.octet_at-f.ensures ∙ ap (λ i. get_or xs i 0) c.from.ensures in
    handed c.from_residual-in_err-pos.result c.in_err-pos.field-0.0 c.from_residual-in_err-pos.ensures.1 (more_stop 13 5 xs (sym (item_from 8 1 8 xs a.at tt)) c.in_err-pos.field-0.0 (h3 xs a.at f u (h2 xs a.at f u (h1 xs a.at f u (h0 xs a.at f u (chain-from 8 xs 0 tt a.at c.in_ok-part.ensures (by_octet xs c.before-2.ensures (went_by c.in_ok-parts.ensures (λ p. search rules))))) c.in_ok-sum.ensures) c.in_ok-pmn.ensures) c.in_err-pos.ensures).ends)

pub returns-in_err-ga : goal.returns-in_err-ga
unfolding parts_ok flags_under item_run item_at item_of more_from lines_from slots_of count cut total placed_at placed placed_in placed_from lines_of items cat048 cat021 cat007
returns-in_err-ga c =
    let a = c.args in let xs = a.s.now in let f = c.octet_at-f.result in let u = c.octet_at-f.ensures ∙ ap (λ i. get_or xs i 0) c.from.ensures in
    handed c.from_residual-in_err-ga.result c.in_err-ga.field-0.0 c.from_residual-in_err-ga.ensures.1 (more_stop 14 4 xs (sym (item_from 8 1 8 xs a.at tt)) c.in_err-ga.field-0.0 (h4 xs a.at f u (h3 xs a.at f u (h2 xs a.at f u (h1 xs a.at f u (h0 xs a.at f u (chain-from 8 xs 0 tt a.at c.in_ok-part.ensures (by_octet xs c.before-2.ensures (went_by c.in_ok-parts.ensures (λ p. search rules))))) c.in_ok-sum.ensures) c.in_ok-pmn.ensures) c.in_ok-pos.ensures) c.in_err-ga.ensures).ends)

pub returns-in_err-em1 : goal.returns-in_err-em1
unfolding parts_ok flags_under item_run item_at item_of more_from lines_from slots_of count cut total placed_at placed placed_in placed_from lines_of items cat048 cat021 cat007
returns-in_err-em1 c =
    let a = c.args in let xs = a.s.now in let f = c.octet_at-f.result in let u = c.octet_at-f.ensures ∙ ap (λ i. get_or xs i 0) c.from.ensures in
    handed c.from_residual-in_err-em1.result c.in_err-em1.field-0.0 c.from_residual-in_err-em1.ensures.1 (more_stop 15 3 xs (sym (item_from 8 1 8 xs a.at tt)) c.in_err-em1.field-0.0 (h5 xs a.at f u (h4 xs a.at f u (h3 xs a.at f u (h2 xs a.at f u (h1 xs a.at f u (h0 xs a.at f u (chain-from 8 xs 0 tt a.at c.in_ok-part.ensures (by_octet xs c.before-2.ensures (went_by c.in_ok-parts.ensures (λ p. search rules))))) c.in_ok-sum.ensures) c.in_ok-pmn.ensures) c.in_ok-pos.ensures) c.in_ok-ga.ensures) c.in_err-em1.ensures).ends)

pub returns-in_err-tos : goal.returns-in_err-tos
unfolding parts_ok flags_under item_run item_at item_of more_from lines_from slots_of count cut total placed_at placed placed_in placed_from lines_of items cat048 cat021 cat007
returns-in_err-tos c =
    let a = c.args in let xs = a.s.now in let f = c.octet_at-f.result in let u = c.octet_at-f.ensures ∙ ap (λ i. get_or xs i 0) c.from.ensures in
    handed c.from_residual-in_err-tos.result c.in_err-tos.field-0.0 c.from_residual-in_err-tos.ensures.1 (more_stop 16 2 xs (sym (item_from 8 1 8 xs a.at tt)) c.in_err-tos.field-0.0 (h6 xs a.at f u (h5 xs a.at f u (h4 xs a.at f u (h3 xs a.at f u (h2 xs a.at f u (h1 xs a.at f u (h0 xs a.at f u (chain-from 8 xs 0 tt a.at c.in_ok-part.ensures (by_octet xs c.before-2.ensures (went_by c.in_ok-parts.ensures (λ p. search rules))))) c.in_ok-sum.ensures) c.in_ok-pmn.ensures) c.in_ok-pos.ensures) c.in_ok-ga.ensures) c.in_ok-em1.ensures) c.in_err-tos.ensures).ends)

pub returns-in_err-xp : goal.returns-in_err-xp
unfolding parts_ok flags_under item_run item_at item_of more_from lines_from slots_of count cut total placed_at placed placed_in placed_from lines_of items cat048 cat021 cat007
returns-in_err-xp c =
    let a = c.args in let xs = a.s.now in let f = c.octet_at-f.result in let u = c.octet_at-f.ensures ∙ ap (λ i. get_or xs i 0) c.from.ensures in
    handed c.from_residual-in_err-xp.result c.in_err-xp.field-0.0 c.from_residual-in_err-xp.ensures.1 (more_stop 17 1 xs (sym (item_from 8 1 8 xs a.at tt)) c.in_err-xp.field-0.0 (h7 xs a.at f u (h6 xs a.at f u (h5 xs a.at f u (h4 xs a.at f u (h3 xs a.at f u (h2 xs a.at f u (h1 xs a.at f u (h0 xs a.at f u (chain-from 8 xs 0 tt a.at c.in_ok-part.ensures (by_octet xs c.before-2.ensures (went_by c.in_ok-parts.ensures (λ p. search rules))))) c.in_ok-sum.ensures) c.in_ok-pmn.ensures) c.in_ok-pos.ensures) c.in_ok-ga.ensures) c.in_ok-em1.ensures) c.in_ok-tos.ensures) c.in_err-xp.ensures).ends)

pub returns : goal.returns
unfolding parts_ok flags_under item_run item_at item_of more_from lines_from slots_of count cut total placed_at placed placed_in placed_from lines_of items cat048 cat021 cat007
returns c =
    let a = c.args in let xs = a.s.now in let f = c.octet_at-f.result in let u = c.octet_at-f.ensures ∙ ap (λ i. get_or xs i 0) c.from.ensures in
    let z = get_or xs a.at 0 in let y = get_or xs (a.at + 1) 0 in
    let h7 = h7 xs a.at f u (h6 xs a.at f u (h5 xs a.at f u (h4 xs a.at f u (h3 xs a.at f u (h2 xs a.at f u (h1 xs a.at f u (h0 xs a.at f u (chain-from 8 xs 0 tt a.at c.in_ok-part.ensures (by_octet xs c.before-2.ensures (went_by c.in_ok-parts.ensures (λ p. search rules))))) c.in_ok-sum.ensures) c.in_ok-pmn.ensures) c.in_ok-pos.ensures) c.in_ok-ga.ensures) c.in_ok-em1.ensures) c.in_ok-tos.ensures) c.in_ok-xp.ensures in
    let h8 = look_on 17 xs _ h7 (behind_some z y 1 (omega arith)) (flag_behind z y 1 (ap (λ x. flag_at x 0) (c.second.ensures ∙ ap (λ x. pick (eqb (x % 2) 1) y 0) u))) c.line-8.ensures in
    ends_same h8.ends (sym (item_from 8 1 8 xs a.at tt))
