-- An answer is not both accepted and refused; a reason has a number of its own.
use Rattle.std.specs.Prelude.{◌≡◌, ℕ, ◌≤◌, ◌-◌, Result, Ok, Err, [], ◌∷◌, get_or}
use Rattle.std.proofs.Common.{sym, subst, refl, ap, ap₂, ◌∙◌, arith}
use Rattle.layout.specs.declared.Reason.{Reason}
use Rattle.layout.specs.declared.Reason.TheVariants.{Category, Short, Len, Indicator, Cut, Spare, Chain, Range, Left, Unwritable, Room, Item, List as OffList, New, Absent, Text}
use Rattle.layout.specs.declared.Refusal.{Refusal}
use Rattle.layout.specs.declared.Part.{Part}
use Rattle.layout.specs.declared.Survey.{Survey}
use Rattle.layout.specs.declared.Rebuilt.{Rebuilt}
use Rattle.layout.specs.declared.Reading.{Reading as Given}
use Rattle.layout.specs.declared.Choice.{Choice as Chosen}
use Rattle.layout.specs.Answer.{Answer, Accepted, Refused, View, Shown, Hidden, Reading, Choice, Surveyed, Rebuilding, number_of, place_of, length_of, view_number, view_place, view_length, reason_number, by_number, view_by_number, survey_by_number, reading_by_number, choice_by_number, rebuilt_by_number}

IsAccepted : Answer → Type 0
IsAccepted (Accepted n) = Unit {0}
IsAccepted (Refused n p) = ⊥

pub Refused≢Accepted {ℓ} : {X : Type ℓ} {n p m : ℕ} → Refused n p ≡ Accepted m → X
unfolding IsAccepted
Refused≢Accepted e = absurd (subst IsAccepted (sym e) tt)

pub Accepted≢Refused {ℓ} : {X : Type ℓ} {n p m : ℕ} → Accepted m ≡ Refused n p → X
Accepted≢Refused e = Refused≢Accepted (sym e)

-- 0 is no reason's number
pub reason_some : (r : Reason) → 1 ≤ reason_number r
reason_some Category = omega arith
reason_some Short = omega arith
reason_some Len = omega arith
reason_some Indicator = omega arith
reason_some Cut = omega arith
reason_some Spare = omega arith
reason_some Chain = omega arith
reason_some Range = omega arith
reason_some Left = omega arith
reason_some Unwritable = omega arith
reason_some Room = omega arith
reason_some Item = omega arith
reason_some OffList = omega arith
reason_some New = omega arith
reason_some Absent = omega arith
reason_some Text = omega arith

-- the reason of a number
reason_at : ℕ → Reason
reason_at n = get_or (Category ∷ Short ∷ Len ∷ Indicator ∷ Cut ∷ Spare ∷ Chain ∷ Range ∷ Left ∷ Unwritable ∷ Room ∷ Item ∷ OffList ∷ New ∷ Absent ∷ []) (n - 1) Text

reason_back : (r : Reason) → reason_at (reason_number r) ≡ r
unfolding reason_at
reason_back Category = refl
reason_back Short = refl
reason_back Len = refl
reason_back Indicator = refl
reason_back Cut = refl
reason_back Spare = refl
reason_back Chain = refl
reason_back Range = refl
reason_back Left = refl
reason_back Unwritable = refl
reason_back Room = refl
reason_back Item = refl
reason_back OffList = refl
reason_back New = refl
reason_back Absent = refl
reason_back Text = refl

pub one_reason : {r s : Reason} → reason_number r ≡ reason_number s → r ≡ s
one_reason {r} {s} e = sym (reason_back r) ∙ ap reason_at e ∙ reason_back s

-- ---- the numbers tell an answer: two that have the same are the same

one_refusal : {r s : Refusal} → reason_number r.reason ≡ reason_number s.reason → r.place ≡ s.place → r ≡ s
one_refusal e p = let z = one_reason e in λ i. record { reason = z i; place = p i }

refused_number : {n p m q : ℕ} → Refused n p ≡ Refused m q → (n ≡ m) × (p ≡ q)
unfolding number_of place_of
refused_number e = (ap number_of e, ap place_of e)

pub one_answer : (a b : Result ℕ Refusal) → by_number a ≡ by_number b → a ≡ b
unfolding length_of
one_answer (Ok n) (Ok m) e = ap Ok (ap length_of e)
one_answer (Ok n) (Err s) e = Accepted≢Refused e
one_answer (Err r) (Ok m) e = Refused≢Accepted e
one_answer (Err r) (Err s) e = let z = refused_number e in ap Err (one_refusal z.0 z.1)

IsShown : View → Type 0
IsShown (Shown a n) = Unit {0}
IsShown (Hidden e p) = ⊥

pub one_view : (a b : Result Part Refusal) → view_by_number a ≡ view_by_number b → a ≡ b
unfolding IsShown view_number view_place view_length
one_view (Ok v) (Ok w) e = let s = ap view_place e in let l = ap view_length e in λ i. Ok (record { start = s i; length = l i })
one_view (Ok v) (Err s) e = absurd (subst IsShown e tt)
one_view (Err r) (Ok w) e = absurd (subst IsShown (sym e) tt)
one_view (Err r) (Err s) e = ap Err (one_refusal (ap view_number e) (ap view_place e))

pub one_survey : (a b : Result Survey Refusal) → survey_by_number a ≡ survey_by_number b → a ≡ b
unfolding length_of
one_survey (Ok v) (Ok w) e =
    let n = ap (λ (x : Surveyed). length_of x.answer) e in
    let k = ap (λ (x : Surveyed). x.items) e in
    let s = ap (λ (x : Surveyed). x.starts) e in
    λ i. Ok (record { len = n i; items = k i; starts = s i })
one_survey (Ok v) (Err s) e = Accepted≢Refused (ap (λ (x : Surveyed). x.answer) e)
one_survey (Err r) (Ok w) e = Refused≢Accepted (ap (λ (x : Surveyed). x.answer) e)
one_survey (Err r) (Err s) e = let z = refused_number (ap (λ (x : Surveyed). x.answer) e) in ap Err (one_refusal z.0 z.1)

pub one_reading : (a b : Given) → reading_by_number a ≡ reading_by_number b → a ≡ b
one_reading a b e =
    let z = one_answer a.answer b.answer (ap (λ (x : Reading). x.answer) e) in
    let k = ap (λ (x : Reading). x.kept) e in
    λ i. record { answer = z i; kept = k i }

pub one_choice : (a b : Chosen) → choice_by_number a ≡ choice_by_number b → a ≡ b
one_choice a b e =
    let z = one_view a.view b.view (ap (λ (x : Choice). x.view) e) in
    let w = ap (λ (x : Choice). x.which) e in
    λ i. record { which = w i; view = z i }

pub one_rebuilt : (a b : Result Rebuilt Refusal) → rebuilt_by_number a ≡ rebuilt_by_number b → a ≡ b
unfolding length_of
one_rebuilt (Ok v) (Ok w) e =
    let c = ap (λ (x : Rebuilding). x.cat) e in
    let n = ap (λ (x : Rebuilding). length_of x.answer) e in
    λ i. Ok (record { cat = c i; len = n i })
one_rebuilt (Ok v) (Err s) e = Accepted≢Refused (ap (λ (x : Rebuilding). x.answer) e)
one_rebuilt (Err r) (Ok w) e = Refused≢Accepted (ap (λ (x : Rebuilding). x.answer) e)
one_rebuilt (Err r) (Err s) e = let z = refused_number (ap (λ (x : Rebuilding). x.answer) e) in ap Err (one_refusal z.0 z.1)
