-- 12 and 13: what the desk asks of an edit beside the field.
use Rattle.std.specs.Prelude.{◌≡◌, Bool, true, ℕ, ◌-◌, get_or}
use Rattle.std.proofs.Math.Path.{refl, sym, ap}
use Rattle.std.proofs.Common.{◌∙◌, arith}
use Rattle.std.proofs.Math.Bool.{false}
use Rattle.std.proofs.Math.Dec.{eqb}
use Rattle.codec.specs.Pick.{pick}
use Rattle.codec.specs.Field.{flags}
use Rattle.papers.specs.Papers.{paper_of, numbered}
use Rattle.scope.specs.Views.{is_item}
use Rattle.scope.specs.Desk.{listed}
use Rattle.desk.specs.Asking.{asked_of}

module _ (cat list item : ℕ) {b : Bool} (eb : b ≡ numbered cat item) where
  pub asked_none : b ≡ false → 12 ≡ asked_of cat list item
  unfolding asked_of is_item
  asked_none z = let e : numbered cat item ≡ false = sym eb ∙ z in rw e refl

  module _ (there : b ≡ true) {i : ℕ} (ei : i ≡ item - 1) {t : Bool} (et : t ≡ eqb (get_or (flags list) i 0) 1) where
    is_an_item : is_item (paper_of cat) item ≡ true
    unfolding is_item
    is_an_item = sym eb ∙ there

    on_list : listed list item ≡ t
    unfolding listed
    on_list = sym (et ∙ ap (λ j. eqb (get_or (flags list) j 0) 1) ei)

    pub asked_on : t ≡ true → 0 ≡ asked_of cat list item
    unfolding asked_of
    asked_on e = rw (is_an_item, on_list, e) refl

    pub asked_off : t ≡ false → 13 ≡ asked_of cat list item
    unfolding asked_of
    asked_off e = rw (is_an_item, on_list, e) refl

-- an edit that is asked for rightly
pub asked_right : (cat list item : ℕ) → asked_of cat list item ≡ 0 → (is_item (paper_of cat) item ≡ true) × (listed list item ≡ true)
unfolding asked_of
asked_right cat list item e = go (is_item (paper_of cat) item) refl (listed list item) refl e
  where
    go : (x : Bool) → is_item (paper_of cat) item ≡ x → (y : Bool) → listed list item ≡ y → ◌≡◌ {A = ℕ} (pick x (pick y 0 13) 12) 0 → (is_item (paper_of cat) item ≡ true) × (listed list item ≡ true)
    go true ex true ey h = (ex, ey)
    go true ex false ey h = absurd (omega arith)
    go false ex y ey h = absurd (omega arith)
