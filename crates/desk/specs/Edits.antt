-- The ways out of the desk: each answers what 01 defines.
use Rattle.std.specs.Prelude.{◌≡◌, List, ℕ, zero, suc, ◌+◌, ◌-◌, ◌≤◌, ◌<◌, length, get_or, take, replicate}
use Rattle.layout.specs.Answer.{Answer, Accepted, Refused, Surveyed}
use Rattle.scope.specs.Survey.{survey_of}
use Rattle.desk.specs.Asking.{asked_of}
use Rattle.desk.specs.Splicing.{splice_of}

-- ---- the refusals before the octets are looked at

abbrev pub with_number : ℕ → Surveyed → Surveyed
with_number zero v = v
with_number (suc n) v = record { answer = Refused (suc n) 0; items = v.items; starts = v.starts }

abbrev pub allowed_by : ℕ → Surveyed → Answer → Surveyed
allowed_by m v (Accepted n) = with_number m v
allowed_by m v (Refused n p) = v

-- what a survey tells, with 12 or 13 as the answer of a field that is right
unfoldable pub allowed_of : ℕ → List ℕ → ℕ → ℕ → Surveyed
allowed_of cat s list item = allowed_by (asked_of cat list item) (survey_of cat s) (survey_of cat s).answer

-- as the code has it: behind a refusal zeros
abbrev pub emptied_by : Answer → Surveyed → Surveyed
emptied_by (Accepted n) v = v
emptied_by (Refused n p) v = record { answer = Refused n p; items = 0; starts = replicate 9 0 }

abbrev pub emptied : Surveyed → Surveyed
emptied v = emptied_by v.answer v

-- the first len octets of a field with the octets of an item exchanged for t, and the indicator n
unfoldable pub exchange_of : ℕ → List ℕ → ℕ → List ℕ → ℕ → List ℕ → List ℕ
exchange_of n f len starts item t = splice_of n (take len f) (get_or starts (item - 1) 0) (get_or starts item 0) t

-- the item stands in the field, and the field that comes of it has a LEN
pub record Exchangeable (f : List ℕ) (len : ℕ) (starts : List ℕ) (item : ℕ) (t : List ℕ) : Type 0 where
  pub low : 1 ≤ item
  pub high : item < 9
  pub within : len ≤ length f
  pub whole : length (take len f) ≡ len
  pub parts : (2 ≤ get_or starts (item - 1) 0) × (get_or starts (item - 1) 0 ≤ get_or starts item 0) × (get_or starts item 0 ≤ length (take len f))
      × (get_or starts (item - 1) 0 + length t + (length (take len f) - get_or starts item 0) ≤ 255)
