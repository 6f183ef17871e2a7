-- 02, Ask 7 of the defined program: its angles and leftovers are exact, no others are, and its sheets have them together.
use Rattle.std.specs.Prelude.{refl}
use Rattle.std.proofs.Common.{subst₂}
use Rattle.scope.specs.Angle.{rounded, udeg_of, left_of}
use Rattle.scope.specs.Sheet.{sheet_of}
use Rattle.demands.specs.Angles.{Exact}
use Rattle.demands.proofs.Angles.{exact_angle, one_exact, exact_number}
use Rattle.demands.specs.Leftovers.{Leftovers}
use Rattle.demands.specs.Defined.{program}
use Rattle.demands.proofs.Kept.Reads.{demand2}
use Rattle.demands.proofs.Kept.Lines.{sheet_lines}

pub leftovers : Leftovers program
unfolding left_of udeg_of rounded
leftovers = record {
  exact = exact_angle;
  one = one_exact;
  half_up = refl;
  half_down = refl;
  lines = λ s out r. (sheet_of s, demand2.listed s out r, sheet_lines s);
  number = λ m n e f. exact_number m n (udeg_of n) (left_of n) (subst₂ (Exact m) e f (exact_angle m)) (exact_angle n);
}
