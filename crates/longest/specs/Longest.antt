-- The longest sheet has 1,055 octets: that of a full field of category 48. The longest of category 21 has 989, that of category 7 has 619.
use Rattle.std.specs.Prelude.{ℕ}

-- ---- in numbers

-- the longest of all
abbrev pub longest_sheet : ℕ
longest_sheet = 1_055
