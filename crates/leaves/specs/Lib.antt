-- A number that is an octet is its own lowest octet.
use Rattle.std.specs.Prelude.{◌≡◌, ℕ, ◌%◌, ◌<◌}
use Rattle.std.proofs.Common.{mod-eq_of_lt}

pub octet_is : (n : ℕ) → n < 256 → n % 256 ≡ n
octet_is n h = mod-eq_of_lt h
