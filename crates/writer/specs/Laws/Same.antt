-- `==` on records tells whether they are the same.
use Rattle.std.specs.Prelude.{◌≡◌, ◌&&◌, eqb}
use Rattle.std.specs.Bool.{Decides}
use Rattle.std.specs.Ordering.{int_eq}
use Rattle.std.specs.Cmp.Lexicographic.{pointwise, pointwise_decides}
use Rattle.std.specs.Cmp.Rules.{signed_items}
use Rattle.std.proofs.Common.{ap}
use Rattle.std.proofs.lemmas.Bool.Decides.{Decides-eqb, Decides-and, Decides-like}
use Rattle.layout.specs.declared.Record.{Record}

pub same_records : (f g : Record)
    → Decides (eqb f.cat g.cat && (eqb f.items g.items && (pointwise eqb f.parts g.parts && pointwise int_eq f.numbers g.numbers))) (f ≡ g)
same_records f g =
    Decides-like _ (λ p k. record { cat = p.0 k; items = p.1.0 k; parts = p.1.1.0 k; numbers = p.1.1.1 k })
    (λ e. (ap (λ (x : Record). x.cat) e, (ap (λ (x : Record). x.items) e, (ap (λ (x : Record). x.parts) e, ap (λ (x : Record). x.numbers) e))))
    (Decides-and _ _ (Decides-eqb f.cat g.cat)
    (Decides-and _ _ (Decides-eqb f.items g.items) (Decides-and _ _ (pointwise_decides Decides-eqb f.parts g.parts) (signed_items f.numbers g.numbers))))
