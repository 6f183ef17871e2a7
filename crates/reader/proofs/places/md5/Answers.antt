-- `reader::places::md5` meets its contract: one law at each subfield, and one at each way out. Assumes nothing.
use mathlib.Core.Path.{◌≡◌, refl, sym, ap, ◌∙◌}
use Prim.Native.Nat.{ℕ}
use native.Mathlib.Omega.{arith}
use mathlib.Core.List.{List}
use lib.ListN.{get_or}
use Rattle.codec.specs.Codec.{Res}
use Rattle.codec.specs.Line.{Held}
use Rattle.lengths.specs.Lines.{line_at}
use Rattle.reader.specs.Items.{more}
use Rattle.reader.specs.Chains.{chain_at}
use Rattle.reader.specs.Seen.{Ends, Went, flag_at}
use Rattle.reader.specs.Laws.Tables.{total, cut, to_num, widths, count, nums, slots_of, cat048, cat021, cat007, items, placed_from, placed_in, placed, placed_at, lines_of, item_at, lines_from, parts_ok, flags_under, item_of, item_run, line_run, more_from}
use Rattle.reader.specs.Laws.Items.{item_from}
use Rattle.reader.specs.Laws.Parts.{Bits, bits, flag_is_bit, one_holds}
use Rattle.reader.specs.Laws.Looked.{Looked, look_chain, look_on, more_stop}
use Rattle.reader.specs.Laws.Seen.{ends_same, handed}
use Rattle.reader.proofs.places.md5.Goals as goal

part_bits : Bits 0 7
unfolding nums to_num widths cut total placed_at placed placed_in placed_from lines_of items cat048 cat021 cat007
part_bits = record { part = refl; octet = refl; numbers = λ m. refl }

module _ (xs : List ℕ) (f : ℕ) where
  h0 : (at : ℕ) → f ≡ get_or xs at 0 → {a : ℕ} → Ends (chain_at 0 xs at 0) a → Looked xs (bits 7 f) (chain_at 0 xs at 0) a
  h0 at ef e = look_chain xs (bits 7 f) e (rw ef (one_holds 0 7 part_bits xs at))

  h1 : {x : Res Held} {a r : ℕ} → Looked xs (bits 7 f) x a → Went (flag_at f 0) (line_run 1 xs a) a r → Looked xs (bits 7 f) (more (line_at 1) xs x) r
  unfolding slots_of count cut total placed_at placed placed_in placed_from lines_of items cat048 cat021 cat007
  h1 k w = look_on 1 xs _ k (omega arith) (flag_is_bit f 7 0 (omega arith) (omega arith) refl) w

  h2 : {x : Res Held} {a r : ℕ} → Looked xs (bits 7 f) x a → Went (flag_at f 1) (line_run 2 xs a) a r → Looked xs (bits 7 f) (more (line_at 2) xs x) r
  unfolding slots_of count cut total placed_at placed placed_in placed_from lines_of items cat048 cat021 cat007
  h2 k w = look_on 2 xs _ k (omega arith) (flag_is_bit f 7 1 (omega arith) (omega arith) refl) w

  h3 : {x : Res Held} {a r : ℕ} → Looked xs (bits 7 f) x a → Went (flag_at f 2) (line_run 3 xs a) a r → Looked xs (bits 7 f) (more (line_at 3) xs x) r
  unfolding slots_of count cut total placed_at placed placed_in placed_from lines_of items cat048 cat021 cat007
  h3 k w = look_on 3 xs _ k (omega arith) (flag_is_bit f 7 2 (omega arith) (omega arith) refl) w

  h4 : {x : Res Held} {a r : ℕ} → Looked xs (bits 7 f) x a → Went (flag_at f 3) (line_run 4 xs a) a r → Looked xs (bits 7 f) (more (line_at 4) xs x) r
  unfolding slots_of count cut total placed_at placed placed_in placed_from lines_of items cat048 cat021 cat007
  h4 k w = look_on 4 xs _ k (omega arith) (flag_is_bit f 7 3 (omega arith) (omega arith) refl) w

  h5 : {x : Res Held} {a r : ℕ} → Looked xs (bits 7 f) x a → Went (flag_at f 4) (line_run 5 xs a) a r → Looked xs (bits 7 f) (more (line_at 5) xs x) r
  unfolding slots_of count cut total placed_at placed placed_in placed_from lines_of items cat048 cat021 cat007
  h5 k w = look_on 5 xs _ k (omega arith) (flag_is_bit f 7 4 (omega arith) (omega arith) refl) w

  h6 : {x : Res Held} {a r : ℕ} → Looked xs (bits 7 f) x a → Went (flag_at f 5) (line_run 6 xs a) a r → Looked xs (bits 7 f) (more (line_at 6) xs x) r
  unfolding slots_of count cut total placed_at placed placed_in placed_from lines_of items cat048 cat021 cat007
  h6 k w = look_on 6 xs _ k (omega arith) (flag_is_bit f 7 5 (omega arith) (omega arith) refl) w

  h7 : {x : Res Held} {a r : ℕ} → Looked xs (bits 7 f) x a → Went (flag_at f 6) (line_run 7 xs a) a r → Looked xs (bits 7 f) (more (line_at 7) xs x) r
  unfolding slots_of count cut total placed_at placed placed_in placed_from lines_of items cat048 cat021 cat007
  h7 k w = look_on 7 xs _ k (omega arith) (flag_is_bit f 7 6 (omega arith) (omega arith) refl) w

pub only-requires : goal.only-requires
unfolding parts_ok count placed_at placed placed_in placed_from lines_of items cat048 cat021 cat007
only-requires c = (c.requires, tt)

pub returns-in_err-part : goal.returns-in_err-part
unfolding flags_under item_run item_at item_of more_from lines_from slots_of count cut total placed_at placed placed_in placed_from lines_of items cat048 cat021 cat007
returns-in_err-part c =
    let a = c.args in let xs = a.s.now in let f = c.octet_at-f.result in let ef = c.octet_at-f.ensures ∙ ap (λ i. get_or xs i 0) c.from.ensures in
    handed c.from_residual.result c.in_err-part.field-0.0 c.from_residual.ensures.1 (more_stop 1 7 xs (sym (item_from 0 0 7 xs a.at tt)) c.in_err-part.field-0.0 (h0 xs f a.at ef c.in_err-part.ensures).ends)

pub returns-in_err-sum : goal.returns-in_err-sum
unfolding flags_under item_run item_at item_of more_from lines_from slots_of count cut total placed_at placed placed_in placed_from lines_of items cat048 cat021 cat007
returns-in_err-sum c =
    let a = c.args in let xs = a.s.now in let f = c.octet_at-f.result in let ef = c.octet_at-f.ensures ∙ ap (λ i. get_or xs i 0) c.from.ensures in
    handed c.from_residual-in_err-sum.result c.in_err-sum.field-0.0 c.from_residual-in_err-sum.ensures.1 (more_stop 2 6 xs (sym (item_from 0 0 7 xs a.at tt)) c.in_err-sum.field-0.0 (h1 xs f (h0 xs f a.at ef c.in_ok-part.ensures) c.in_err-sum.ensures).ends)

pub returns-in_err-pmn : goal.returns-in_err-pmn
unfolding flags_under item_run item_at item_of more_from lines_from slots_of count cut total placed_at placed placed_in placed_from lines_of items cat048 cat021 cat007
returns-in_err-pmn c =
    let a = c.args in let xs = a.s.now in let f = c.octet_at-f.result in let ef = c.octet_at-f.ensures ∙ ap (λ i. get_or xs i 0) c.from.ensures in
    handed c.from_residual-in_err-pmn.result c.in_err-pmn.field-0.0 c.from_residual-in_err-pmn.ensures.1 (more_stop 3 5 xs (sym (item_from 0 0 7 xs a.at tt)) c.in_err-pmn.field-0.0 (h2 xs f (h1 xs f (h0 xs f a.at ef c.in_ok-part.ensures) c.in_ok-sum.ensures) c.in_err-pmn.ensures).ends)

pub returns-in_err-pos : goal.returns-in_err-pos
unfolding flags_under item_run item_at item_of more_from lines_from slots_of count cut total placed_at placed placed_in placed_from lines_of items cat048 cat021 cat007
returns-in_err-pos c =
    let a = c.args in let xs = a.s.now in let f = c.octet_at-f.result in let ef = c.octet_at-f.ensures ∙ ap (λ i. get_or xs i 0) c.from.ensures in
    handed c.from_residual-in_err-pos.result c.in_err-pos.field-0.0 c.from_residual-in_err-pos.ensures.1 (more_stop 4 4 xs (sym (item_from 0 0 7 xs a.at tt)) c.in_err-pos.field-0.0 (h3 xs f (h2 xs f (h1 xs f (h0 xs f a.at ef c.in_ok-part.ensures) c.in_ok-sum.ensures) c.in_ok-pmn.ensures) c.in_err-pos.ensures).ends)

pub returns-in_err-ga : goal.returns-in_err-ga
unfolding flags_under item_run item_at item_of more_from lines_from slots_of count cut total placed_at placed placed_in placed_from lines_of items cat048 cat021 cat007
returns-in_err-ga c =
    let a = c.args in let xs = a.s.now in let f = c.octet_at-f.result in let ef = c.octet_at-f.ensures ∙ ap (λ i. get_or xs i 0) c.from.ensures in
    handed c.from_residual-in_err-ga.result c.in_err-ga.field-0.0 c.from_residual-in_err-ga.ensures.1 (more_stop 5 3 xs (sym (item_from 0 0 7 xs a.at tt)) c.in_err-ga.field-0.0 (h4 xs f (h3 xs f (h2 xs f (h1 xs f (h0 xs f a.at ef c.in_ok-part.ensures) c.in_ok-sum.ensures) c.in_ok-pmn.ensures) c.in_ok-pos.ensures) c.in_err-ga.ensures).ends)

pub returns-in_err-em1 : goal.returns-in_err-em1
unfolding flags_under item_run item_at item_of more_from lines_from slots_of count cut total placed_at placed placed_in placed_from lines_of items cat048 cat021 cat007
returns-in_err-em1 c =
    let a = c.args in let xs = a.s.now in let f = c.octet_at-f.result in let ef = c.octet_at-f.ensures ∙ ap (λ i. get_or xs i 0) c.from.ensures in
    handed c.from_residual-in_err-em1.result c.in_err-em1.field-0.0 c.from_residual-in_err-em1.ensures.1 (more_stop 6 2 xs (sym (item_from 0 0 7 xs a.at tt)) c.in_err-em1.field-0.0 (h5 xs f (h4 xs f (h3 xs f (h2 xs f (h1 xs f (h0 xs f a.at ef c.in_ok-part.ensures) c.in_ok-sum.ensures) c.in_ok-pmn.ensures) c.in_ok-pos.ensures) c.in_ok-ga.ensures) c.in_err-em1.ensures).ends)

pub returns-in_err-tos : goal.returns-in_err-tos
unfolding flags_under item_run item_at item_of more_from lines_from slots_of count cut total placed_at placed placed_in placed_from lines_of items cat048 cat021 cat007
returns-in_err-tos c =
    let a = c.args in let xs = a.s.now in let f = c.octet_at-f.result in let ef = c.octet_at-f.ensures ∙ ap (λ i. get_or xs i 0) c.from.ensures in
    handed c.from_residual-in_err-tos.result c.in_err-tos.field-0.0 c.from_residual-in_err-tos.ensures.1 (more_stop 7 1 xs (sym (item_from 0 0 7 xs a.at tt)) c.in_err-tos.field-0.0 (h6 xs f (h5 xs f (h4 xs f (h3 xs f (h2 xs f (h1 xs f (h0 xs f a.at ef c.in_ok-part.ensures) c.in_ok-sum.ensures) c.in_ok-pmn.ensures) c.in_ok-pos.ensures) c.in_ok-ga.ensures) c.in_ok-em1.ensures) c.in_err-tos.ensures).ends)

pub returns : goal.returns
unfolding flags_under item_run item_at item_of more_from lines_from slots_of count cut total placed_at placed placed_in placed_from lines_of items cat048 cat021 cat007
returns c =
    let a = c.args in let xs = a.s.now in let f = c.octet_at-f.result in let ef = c.octet_at-f.ensures ∙ ap (λ i. get_or xs i 0) c.from.ensures in
    ends_same (h7 xs f (h6 xs f (h5 xs f (h4 xs f (h3 xs f (h2 xs f (h1 xs f (h0 xs f a.at ef c.in_ok-part.ensures) c.in_ok-sum.ensures) c.in_ok-pmn.ensures) c.in_ok-pos.ensures) c.in_ok-ga.ensures) c.in_ok-em1.ensures) c.in_ok-tos.ensures) c.line-7.ensures).ends (sym (item_from 0 0 7 xs a.at tt))
