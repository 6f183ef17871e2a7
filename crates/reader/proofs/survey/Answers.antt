-- `reader::survey` meets its contract: one law at each way out. Assumes nothing.
use mathlib.Core.Path.{sym, ap₂, ◌∙◌, subst}
use Prim.Native.Nat.{◌≤◌, ◌<◌}
use native.Mathlib.Omega.{arith}
use lib.ListN.{length, get_or, take}
use lib.Seq.{length-take-le}
use Rattle.codec.specs.Codec.{Octets}
use Rattle.codec.proofs.Laws.Codec.{octets_all}
use Rattle.papers.specs.Papers.{items_of}
use Rattle.reader.specs.Fields.{items_in}
use Rattle.reader.specs.Places.{surveyed_by}
use Rattle.reader.specs.Laws.Fields.{other_is, len_is, empty_is, small_is, short_is, long_is}
use Rattle.reader.specs.Laws.Surveys.{survey_by}
use Rattle.reader.proofs.survey.Goals as goal

pub returns-then-field-eq0 : goal.returns-then-field-eq0
returns-then-field-eq0 c =
    let octets : Octets c.args.field.now =
    octets_all c.args.field.now (λ i. omega (arith, c.type_inv.field i)) in
    let a = c.args in
    rw c.at.ensures (survey_by a.cat a.field.now octets (empty_is a.cat (sym c.is_known.ensures ∙ c.if-is_known.true) a.field.now c.if-field-eq0.true))

pub returns-then-len-lt2 : goal.returns-then-len-lt2
returns-then-len-lt2 c =
    let octets : Octets c.args.field.now =
    octets_all c.args.field.now (λ i. omega (arith, c.type_inv.field i)) in
    let a = c.args in
    let s = a.field.now in
    rw c.at-then-len-lt2.ensures (survey_by a.cat s octets (small_is a.cat (sym c.is_known.ensures ∙ c.if-is_known.true) s c.if-field-eq0.false (subst (◌< 2) c.wide-len.ensures.0 c.if-len-lt2.true)))

pub returns-then-field-len : goal.returns-then-field-len
returns-then-field-len c =
    let octets : Octets c.args.field.now =
    octets_all c.args.field.now (λ i. omega (arith, c.type_inv.field i)) in
    let a = c.args in let s = a.field.now in
    rw c.at-then-field-len.ensures (survey_by a.cat s octets (short_is a.cat (sym c.is_known.ensures ∙ c.if-is_known.true) s c.if-field-eq0.false
    (omega (arith, c.wide-len.ensures.0, c.if-len-lt2.false)) (omega (arith, c.wide-len.ensures.0, c.if-field-len.true))))

pub slice_bounds-items-end : goal.slice_bounds-items-end
slice_bounds-items-end c =
    sym (length-take-le c.wide-len.result _ (omega (arith, c.if-field-len.false)))

pub items-requires : goal.items-requires
items-requires c =
    (sym c.is_known.ensures ∙ c.if-is_known.true, subst (◌< 256) (sym (length-take-le c.wide-len.result _ (omega (arith, c.if-field-len.false)))) c.wide-len.ensures.1)

pub returns-then-is_known : goal.returns-then-is_known
returns-then-is_known c =
    let octets : Octets c.args.field.now =
    octets_all c.args.field.now (λ i. omega (arith, c.type_inv.field i)) in
    let a = c.args in let s = a.field.now in let n = c.wide-len.result in
    let two : 2 ≤ get_or s 0 0 = omega (arith, c.wide-len.ensures.0, c.if-len-lt2.false) in
    let long : get_or s 0 0 ≤ length s = omega (arith, c.wide-len.ensures.0, c.if-field-len.false) in
    c.items.ensures
    ∙ ap₂ (λ i j. surveyed_by (items_of a.cat) i (get_or s 1 0) (items_in a.cat (get_or s 1 0) (take j s))) (length-take-le n s (omega (arith, c.if-field-len.false)) ∙ c.wide-len.ensures.0 ∙ sym (len_is s)) c.wide-len.ensures.0
    ∙ survey_by a.cat s octets (long_is a.cat (sym c.is_known.ensures ∙ c.if-is_known.true) s c.if-field-eq0.false two long)

pub returns : goal.returns
returns c =
    let octets : Octets c.args.field.now =
    octets_all c.args.field.now (λ i. omega (arith, c.type_inv.field i)) in
    let a = c.args in
    rw c.at-2.ensures (survey_by a.cat a.field.now octets (other_is a.cat a.field.now (sym c.is_known.ensures ∙ c.if-is_known.false)))
