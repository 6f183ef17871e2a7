-- `reader::places::rpc` meets its contract: one law at each subfield, and one at each way out. Assumes nothing.
use mathlib.Core.Path.{◌≡◌, refl, sym, ap, ◌∙◌}
use Prim.Native.Nat.{ℕ}
use native.Mathlib.Omega.{arith}
use mathlib.Core.List.{List}
use lib.ListN.{get_or}
use Rattle.codec.specs.Codec.{Res}
use Rattle.codec.specs.Line.{Held}
use Rattle.lengths.specs.Lines.{line_at}
use Rattle.reader.specs.Items.{more}
use Rattle.reader.specs.Chains.{chain_at}
use Rattle.reader.specs.Seen.{Ends, Went, flag_at}
use Rattle.reader.specs.Laws.Tables.{total, cut, to_num, widths, count, nums, slots_of, cat048, cat021, cat007, items, placed_from, placed_in, placed, placed_at, lines_of, item_at, lines_from, parts_ok, flags_under, item_of, item_run, line_run, more_from}
use Rattle.reader.specs.Laws.Items.{item_from}
use Rattle.reader.specs.Laws.Parts.{Bits, bits, flag_is_bit, one_holds}
use Rattle.reader.specs.Laws.Looked.{Looked, look_chain, look_on, more_stop}
use Rattle.reader.specs.Laws.Seen.{ends_same, handed}
use Rattle.reader.proofs.places.rpc.Goals as goal

part_bits : Bits 19 4
unfolding nums to_num widths cut total placed_at placed placed_in placed_from lines_of items cat048 cat021 cat007
part_bits = record { part = refl; octet = refl; numbers = λ m. refl }

module _ (xs : List ℕ) (f : ℕ) where
  h0 : (at : ℕ) → f ≡ get_or xs at 0 → {a : ℕ} → Ends (chain_at 19 xs at 0) a → Looked xs (bits 4 f) (chain_at 19 xs at 0) a
  h0 at ef e = look_chain xs (bits 4 f) e (rw ef (one_holds 19 4 part_bits xs at))

  h1 : {x : Res Held} {a r : ℕ} → Looked xs (bits 4 f) x a → Went (flag_at f 0) (line_run 20 xs a) a r → Looked xs (bits 4 f) (more (line_at 20) xs x) r
  unfolding slots_of count cut total placed_at placed placed_in placed_from lines_of items cat048 cat021 cat007
  h1 k w = look_on 20 xs _ k (omega arith) (flag_is_bit f 4 0 (omega arith) (omega arith) refl) w

  h2 : {x : Res Held} {a r : ℕ} → Looked xs (bits 4 f) x a → Went (flag_at f 1) (line_run 21 xs a) a r → Looked xs (bits 4 f) (more (line_at 21) xs x) r
  unfolding slots_of count cut total placed_at placed placed_in placed_from lines_of items cat048 cat021 cat007
  h2 k w = look_on 21 xs _ k (omega arith) (flag_is_bit f 4 1 (omega arith) (omega arith) refl) w

  h3 : {x : Res Held} {a r : ℕ} → Looked xs (bits 4 f) x a → Went (flag_at f 2) (line_run 22 xs a) a r → Looked xs (bits 4 f) (more (line_at 22) xs x) r
  unfolding slots_of count cut total placed_at placed placed_in placed_from lines_of items cat048 cat021 cat007
  h3 k w = look_on 22 xs _ k (omega arith) (flag_is_bit f 4 2 (omega arith) (omega arith) refl) w

  h4 : {x : Res Held} {a r : ℕ} → Looked xs (bits 4 f) x a → Went (flag_at f 3) (line_run 23 xs a) a r → Looked xs (bits 4 f) (more (line_at 23) xs x) r
  unfolding slots_of count cut total placed_at placed placed_in placed_from lines_of items cat048 cat021 cat007
  h4 k w = look_on 23 xs _ k (omega arith) (flag_is_bit f 4 3 (omega arith) (omega arith) refl) w

pub only-requires : goal.only-requires
unfolding parts_ok count placed_at placed placed_in placed_from lines_of items cat048 cat021 cat007
only-requires c = (c.requires, tt)

pub returns-in_err-part : goal.returns-in_err-part
unfolding flags_under item_run item_at item_of more_from lines_from slots_of count cut total placed_at placed placed_in placed_from lines_of items cat048 cat021 cat007
returns-in_err-part c =
    let a = c.args in let xs = a.s.now in let f = c.octet_at-f.result in let ef = c.octet_at-f.ensures ∙ ap (λ i. get_or xs i 0) c.from.ensures in
    handed c.from_residual.result c.in_err-part.field-0.0 c.from_residual.ensures.1 (more_stop 20 4 xs (sym (item_from 19 0 4 xs a.at tt)) c.in_err-part.field-0.0 (h0 xs f a.at ef c.in_err-part.ensures).ends)

pub returns-in_err-sco : goal.returns-in_err-sco
unfolding flags_under item_run item_at item_of more_from lines_from slots_of count cut total placed_at placed placed_in placed_from lines_of items cat048 cat021 cat007
returns-in_err-sco c =
    let a = c.args in let xs = a.s.now in let f = c.octet_at-f.result in let ef = c.octet_at-f.ensures ∙ ap (λ i. get_or xs i 0) c.from.ensures in
    handed c.from_residual-in_err-sco.result c.in_err-sco.field-0.0 c.from_residual-in_err-sco.ensures.1 (more_stop 21 3 xs (sym (item_from 19 0 4 xs a.at tt)) c.in_err-sco.field-0.0 (h1 xs f (h0 xs f a.at ef c.in_ok-part.ensures) c.in_err-sco.ensures).ends)

pub returns-in_err-scr : goal.returns-in_err-scr
unfolding flags_under item_run item_at item_of more_from lines_from slots_of count cut total placed_at placed placed_in placed_from lines_of items cat048 cat021 cat007
returns-in_err-scr c =
    let a = c.args in let xs = a.s.now in let f = c.octet_at-f.result in let ef = c.octet_at-f.ensures ∙ ap (λ i. get_or xs i 0) c.from.ensures in
    handed c.from_residual-in_err-scr.result c.in_err-scr.field-0.0 c.from_residual-in_err-scr.ensures.1 (more_stop 22 2 xs (sym (item_from 19 0 4 xs a.at tt)) c.in_err-scr.field-0.0 (h2 xs f (h1 xs f (h0 xs f a.at ef c.in_ok-part.ensures) c.in_ok-sco.ensures) c.in_err-scr.ensures).ends)

pub returns-in_err-rw : goal.returns-in_err-rw
unfolding flags_under item_run item_at item_of more_from lines_from slots_of count cut total placed_at placed placed_in placed_from lines_of items cat048 cat021 cat007
returns-in_err-rw c =
    let a = c.args in let xs = a.s.now in let f = c.octet_at-f.result in let ef = c.octet_at-f.ensures ∙ ap (λ i. get_or xs i 0) c.from.ensures in
    handed c.from_residual-in_err-rw.result c.in_err-rw.field-0.0 c.from_residual-in_err-rw.ensures.1 (more_stop 23 1 xs (sym (item_from 19 0 4 xs a.at tt)) c.in_err-rw.field-0.0 (h3 xs f (h2 xs f (h1 xs f (h0 xs f a.at ef c.in_ok-part.ensures) c.in_ok-sco.ensures) c.in_ok-scr.ensures) c.in_err-rw.ensures).ends)

pub returns : goal.returns
unfolding flags_under item_run item_at item_of more_from lines_from slots_of count cut total placed_at placed placed_in placed_from lines_of items cat048 cat021 cat007
returns c =
    let a = c.args in let xs = a.s.now in let f = c.octet_at-f.result in let ef = c.octet_at-f.ensures ∙ ap (λ i. get_or xs i 0) c.from.ensures in
    ends_same (h4 xs f (h3 xs f (h2 xs f (h1 xs f (h0 xs f a.at ef c.in_ok-part.ensures) c.in_ok-sco.ensures) c.in_ok-scr.ensures) c.in_ok-rw.ensures) c.line-4.ensures).ends (sym (item_from 19 0 4 xs a.at tt))
