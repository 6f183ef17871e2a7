-- `reader::places::mes` meets its contract: one law at each subfield, and one at each way out. Assumes nothing.
use mathlib.Core.Path.{◌≡◌, refl, sym, ap, ◌∙◌}
use Prim.Native.Nat.{ℕ}
use native.Mathlib.Omega.{arith}
use mathlib.Core.List.{List}
use lib.ListN.{get_or}
use Rattle.codec.specs.Codec.{Res}
use Rattle.codec.specs.Line.{Held}
use Rattle.lengths.specs.Lines.{line_at}
use Rattle.reader.specs.Items.{more}
use Rattle.reader.specs.Chains.{chain_at}
use Rattle.reader.specs.Seen.{Ends, Went, flag_at}
use Rattle.reader.specs.Laws.Tables.{total, cut, to_num, widths, count, nums, slots_of, cat048, cat021, cat007, items, placed_from, placed_in, placed, placed_at, lines_of, item_at, lines_from, parts_ok, flags_under, item_of, item_run, line_run, more_from}
use Rattle.reader.specs.Laws.Items.{item_from}
use Rattle.reader.specs.Laws.Parts.{Bits, bits, flag_is_bit, one_holds}
use Rattle.reader.specs.Laws.Looked.{Looked, look_chain, look_on, more_stop}
use Rattle.reader.specs.Laws.Seen.{ends_same, handed}
use Rattle.reader.proofs.places.mes.Goals as goal

part_bits : Bits 38 6
unfolding nums to_num widths cut total placed_at placed placed_in placed_from lines_of items cat048 cat021 cat007
part_bits = record { part = refl; octet = refl; numbers = λ m. refl }

module _ (xs : List ℕ) (f : ℕ) where
  h0 : (at : ℕ) → f ≡ get_or xs at 0 → {a : ℕ} → Ends (chain_at 38 xs at 0) a → Looked xs (bits 6 f) (chain_at 38 xs at 0) a
  h0 at ef e = look_chain xs (bits 6 f) e (rw ef (one_holds 38 6 part_bits xs at))

  h1 : {x : Res Held} {a r : ℕ} → Looked xs (bits 6 f) x a → Went (flag_at f 0) (line_run 39 xs a) a r → Looked xs (bits 6 f) (more (line_at 39) xs x) r
  unfolding slots_of count cut total placed_at placed placed_in placed_from lines_of items cat048 cat021 cat007
  h1 k w = look_on 39 xs _ k (omega arith) (flag_is_bit f 6 0 (omega arith) (omega arith) refl) w

  h2 : {x : Res Held} {a r : ℕ} → Looked xs (bits 6 f) x a → Went (flag_at f 1) (line_run 40 xs a) a r → Looked xs (bits 6 f) (more (line_at 40) xs x) r
  unfolding slots_of count cut total placed_at placed placed_in placed_from lines_of items cat048 cat021 cat007
  h2 k w = look_on 40 xs _ k (omega arith) (flag_is_bit f 6 1 (omega arith) (omega arith) refl) w

  h3 : {x : Res Held} {a r : ℕ} → Looked xs (bits 6 f) x a → Went (flag_at f 2) (line_run 41 xs a) a r → Looked xs (bits 6 f) (more (line_at 41) xs x) r
  unfolding slots_of count cut total placed_at placed placed_in placed_from lines_of items cat048 cat021 cat007
  h3 k w = look_on 41 xs _ k (omega arith) (flag_is_bit f 6 2 (omega arith) (omega arith) refl) w

  h4 : {x : Res Held} {a r : ℕ} → Looked xs (bits 6 f) x a → Went (flag_at f 3) (line_run 42 xs a) a r → Looked xs (bits 6 f) (more (line_at 42) xs x) r
  unfolding slots_of count cut total placed_at placed placed_in placed_from lines_of items cat048 cat021 cat007
  h4 k w = look_on 42 xs _ k (omega arith) (flag_is_bit f 6 3 (omega arith) (omega arith) refl) w

  h5 : {x : Res Held} {a r : ℕ} → Looked xs (bits 6 f) x a → Went (flag_at f 4) (line_run 43 xs a) a r → Looked xs (bits 6 f) (more (line_at 43) xs x) r
  unfolding slots_of count cut total placed_at placed placed_in placed_from lines_of items cat048 cat021 cat007
  h5 k w = look_on 43 xs _ k (omega arith) (flag_is_bit f 6 4 (omega arith) (omega arith) refl) w

  h6 : {x : Res Held} {a r : ℕ} → Looked xs (bits 6 f) x a → Went (flag_at f 5) (line_run 44 xs a) a r → Looked xs (bits 6 f) (more (line_at 44) xs x) r
  unfolding slots_of count cut total placed_at placed placed_in placed_from lines_of items cat048 cat021 cat007
  h6 k w = look_on 44 xs _ k (omega arith) (flag_is_bit f 6 5 (omega arith) (omega arith) refl) w

pub only-requires : goal.only-requires
unfolding parts_ok count placed_at placed placed_in placed_from lines_of items cat048 cat021 cat007
only-requires c = (c.requires, tt)

pub returns-in_err-part : goal.returns-in_err-part
unfolding flags_under item_run item_at item_of more_from lines_from slots_of count cut total placed_at placed placed_in placed_from lines_of items cat048 cat021 cat007
returns-in_err-part c =
    let a = c.args in let xs = a.s.now in let f = c.octet_at-f.result in let ef = c.octet_at-f.ensures ∙ ap (λ i. get_or xs i 0) c.from.ensures in
    handed c.from_residual.result c.in_err-part.field-0.0 c.from_residual.ensures.1 (more_stop 39 6 xs (sym (item_from 38 0 6 xs a.at tt)) c.in_err-part.field-0.0 (h0 xs f a.at ef c.in_err-part.ensures).ends)

pub returns-in_err-sum : goal.returns-in_err-sum
unfolding flags_under item_run item_at item_of more_from lines_from slots_of count cut total placed_at placed placed_in placed_from lines_of items cat048 cat021 cat007
returns-in_err-sum c =
    let a = c.args in let xs = a.s.now in let f = c.octet_at-f.result in let ef = c.octet_at-f.ensures ∙ ap (λ i. get_or xs i 0) c.from.ensures in
    handed c.from_residual-in_err-sum.result c.in_err-sum.field-0.0 c.from_residual-in_err-sum.ensures.1 (more_stop 40 5 xs (sym (item_from 38 0 6 xs a.at tt)) c.in_err-sum.field-0.0 (h1 xs f (h0 xs f a.at ef c.in_ok-part.ensures) c.in_err-sum.ensures).ends)

pub returns-in_err-pno : goal.returns-in_err-pno
unfolding flags_under item_run item_at item_of more_from lines_from slots_of count cut total placed_at placed placed_in placed_from lines_of items cat048 cat021 cat007
returns-in_err-pno c =
    let a = c.args in let xs = a.s.now in let f = c.octet_at-f.result in let ef = c.octet_at-f.ensures ∙ ap (λ i. get_or xs i 0) c.from.ensures in
    handed c.from_residual-in_err-pno.result c.in_err-pno.field-0.0 c.from_residual-in_err-pno.ensures.1 (more_stop 41 4 xs (sym (item_from 38 0 6 xs a.at tt)) c.in_err-pno.field-0.0 (h2 xs f (h1 xs f (h0 xs f a.at ef c.in_ok-part.ensures) c.in_ok-sum.ensures) c.in_err-pno.ensures).ends)

pub returns-in_err-em1 : goal.returns-in_err-em1
unfolding flags_under item_run item_at item_of more_from lines_from slots_of count cut total placed_at placed placed_in placed_from lines_of items cat048 cat021 cat007
returns-in_err-em1 c =
    let a = c.args in let xs = a.s.now in let f = c.octet_at-f.result in let ef = c.octet_at-f.ensures ∙ ap (λ i. get_or xs i 0) c.from.ensures in
    handed c.from_residual-in_err-em1.result c.in_err-em1.field-0.0 c.from_residual-in_err-em1.ensures.1 (more_stop 42 3 xs (sym (item_from 38 0 6 xs a.at tt)) c.in_err-em1.field-0.0 (h3 xs f (h2 xs f (h1 xs f (h0 xs f a.at ef c.in_ok-part.ensures) c.in_ok-sum.ensures) c.in_ok-pno.ensures) c.in_err-em1.ensures).ends)

pub returns-in_err-xp : goal.returns-in_err-xp
unfolding flags_under item_run item_at item_of more_from lines_from slots_of count cut total placed_at placed placed_in placed_from lines_of items cat048 cat021 cat007
returns-in_err-xp c =
    let a = c.args in let xs = a.s.now in let f = c.octet_at-f.result in let ef = c.octet_at-f.ensures ∙ ap (λ i. get_or xs i 0) c.from.ensures in
    handed c.from_residual-in_err-xp.result c.in_err-xp.field-0.0 c.from_residual-in_err-xp.ensures.1 (more_stop 43 2 xs (sym (item_from 38 0 6 xs a.at tt)) c.in_err-xp.field-0.0 (h4 xs f (h3 xs f (h2 xs f (h1 xs f (h0 xs f a.at ef c.in_ok-part.ensures) c.in_ok-sum.ensures) c.in_ok-pno.ensures) c.in_ok-em1.ensures) c.in_err-xp.ensures).ends)

pub returns-in_err-fom : goal.returns-in_err-fom
unfolding flags_under item_run item_at item_of more_from lines_from slots_of count cut total placed_at placed placed_in placed_from lines_of items cat048 cat021 cat007
returns-in_err-fom c =
    let a = c.args in let xs = a.s.now in let f = c.octet_at-f.result in let ef = c.octet_at-f.ensures ∙ ap (λ i. get_or xs i 0) c.from.ensures in
    handed c.from_residual-in_err-fom.result c.in_err-fom.field-0.0 c.from_residual-in_err-fom.ensures.1 (more_stop 44 1 xs (sym (item_from 38 0 6 xs a.at tt)) c.in_err-fom.field-0.0 (h5 xs f (h4 xs f (h3 xs f (h2 xs f (h1 xs f (h0 xs f a.at ef c.in_ok-part.ensures) c.in_ok-sum.ensures) c.in_ok-pno.ensures) c.in_ok-em1.ensures) c.in_ok-xp.ensures) c.in_err-fom.ensures).ends)

pub returns : goal.returns
unfolding flags_under item_run item_at item_of more_from lines_from slots_of count cut total placed_at placed placed_in placed_from lines_of items cat048 cat021 cat007
returns c =
    let a = c.args in let xs = a.s.now in let f = c.octet_at-f.result in let ef = c.octet_at-f.ensures ∙ ap (λ i. get_or xs i 0) c.from.ensures in
    ends_same (h6 xs f (h5 xs f (h4 xs f (h3 xs f (h2 xs f (h1 xs f (h0 xs f a.at ef c.in_ok-part.ensures) c.in_ok-sum.ensures) c.in_ok-pno.ensures) c.in_ok-em1.ensures) c.in_ok-xp.ensures) c.in_ok-fom.ensures) c.line-6.ensures).ends (sym (item_from 38 0 6 xs a.at tt))
