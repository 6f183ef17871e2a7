-- The pairs that are left go where they went from the start.
use Rattle.std.proofs.Common.{◌≡◌, length, set, sym, ap, ap₂, ◌∙◌, arith, length-append}
use Rattle.std.proofs.lemmas.List.Edits.{sets}
use Rattle.hex_words.specs.Octets.{octets_of}
use Rattle.hex_words.specs.Laws.Octets.{lay_more, lay_end}
use Rattle.hex_words.proofs.lay.Goals as goal

pub loop-i-preserved : goal.loop-i-preserved
loop-i-preserved c =
    let told = c.in-Some.ensures.steps in
    let pair = c.in-Some.pair.now in
    let rest = c.next.new.self.iter.rest.now in
    let two : length pair ≡ 2 = told.0.1.1 ∙ c.loop-i.invariant.pairs in
    let long = ap length told.0.1.0 ∙ length-append pair rest in
    record {
      pairs = told.0.0 ∙ c.loop-i.invariant.pairs;
      few = omega (arith, c.loop-i.invariant.few, two, long, told.2);
      laid = c.loop-i.invariant.laid
          ∙ ap (λ w. sets c.loop-i.out c.loop-i.i-iterator.count (octets_of w)) told.0.1.0
          ∙ lay_more pair rest c.loop-i.out c.loop-i.i-iterator.count two c.octet.ensures
          ∙ ap₂ (λ n m. sets (set c.loop-i.out n c.octet.result) m (octets_of rest)) (sym told.1) (sym told.2);
    }

pub returns : goal.returns
returns c =
    let told = c.in-None.ensures.steps in
    sym (c.loop-i.invariant.laid ∙ lay_end c.loop-i.i-iterator.iter.rest.now c.loop-i.out c.loop-i.i-iterator.count (omega (arith, told.0.1.0, c.loop-i.invariant.pairs)))
