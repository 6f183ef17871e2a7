-- A reading as the survey has it: the next place, or a refusal's number and its place.
use Rattle.std.specs.Prelude.{◌≡◌, Bool, true, false, ℕ, ◌+◌, ◌-◌, ◌*◌, ◌%◌, ◌≤◌, ◌<◌, eqb, get_or, List, Result, Ok, Err}
use Rattle.codec.specs.Codec.{Res, got, bad}
use Rattle.codec.specs.Field.{flags}
use Rattle.layout.specs.Answer.{reason_number}
use Rattle.reader.specs.declared.lines.Stop.{Stop}

-- a step as one number: the next place, or a refusal's number times 65,536 and its place
abbrev pub step_number : Result ℕ Stop → ℕ
step_number (Ok n) = n
step_number (Err e) = reason_number e.reason * 65_536 + e.at

-- and a reading
abbrev pub code_of : {A : Type 0} → Res A → ℕ
code_of (got a n) = n
code_of (bad e p) = e * 65_536 + p

abbrev pub Coded : {A : Type 0} → Res A → Type 0
Coded (got a n) = n < 65_536
Coded (bad e p) = (5 ≤ e) × (e ≤ 8) × (p < 65_536)

pub record Ends {A : Type 0} (x : Res A) (r : ℕ) : Type 0 where
  pub is : r ≡ code_of x
  pub fits : Coded x

-- the flag of index i in an octet; FX of a part that ends at a place is the lowest bit of the octet before it
abbrev pub flag_at : ℕ → ℕ → Bool
flag_at o i = eqb (get_or (flags o) i 0) 1

abbrev pub goes_on : List ℕ → ℕ → Bool
goes_on xs at = eqb (get_or xs (at - 1) 0 % 2) 1

-- what gives P is called behind a place a, if it is there
pub record Asked (t : Bool) (P : Result ℕ Stop → Type 0) (a : ℕ) (r : Result ℕ Stop) : Type 0 where
  pub few : a < 256
  pub absent : t ≡ false → r ≡ Ok a
  pub there : t ≡ true → P r

-- x is read behind a step a, if it is there; a refusal is handed on
pub record Went {A : Type 0} (t : Bool) (x : Res A) (a r : ℕ) : Type 0 where
  pub stops : 65_536 ≤ a → r ≡ a
  pub absent : a < 65_536 → t ≡ false → r ≡ a
  pub there : a < 65_536 → t ≡ true → Ends x r
