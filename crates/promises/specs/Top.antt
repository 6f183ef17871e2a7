-- The whole in one theorem: the compiled code computes a program, from every input and without a fault, and that
-- program meets the three demands and what 02 asks of the visitors' copy, of two members, of the pressure, of the
-- exact angle and of reading the sheet back.
use Rattle.demands.specs.Demands.{Program, Demands}
use Rattle.demands.specs.Visitors.{Visitors}
use Rattle.demands.specs.Members.{desk_of, Members}
use Rattle.demands.specs.Pressure.{Pressure}
use Rattle.demands.specs.Leftovers.{Leftovers}
use Rattle.demands.specs.Rebuilding.{Rebuilding}
use Rattle.demands.specs.Defined.{program}
use Rattle.promises.specs.Code.{Computes, computed}
use Rattle.demands.proofs.Kept.{kept}
use Rattle.demands.proofs.Kept.Visitors.{visitors}
use Rattle.demands.proofs.Kept.Members.{members}
use Rattle.demands.proofs.Kept.Pressure.{pressure}
use Rattle.demands.proofs.Kept.Leftovers.{leftovers}
use Rattle.demands.proofs.Kept.Rebuilding.{rebuilding}

pub record Top : Type 2 where
  pub does : Program
  pub computes : Computes does
  pub meets : Demands does
  pub visitors : Visitors does
  pub members : Members (desk_of does)
  pub pressure : Pressure does
  pub leftovers : Leftovers does
  pub rebuilding : Rebuilding does

pub top : Top
top = record {
  does = program;
  computes = computed;
  meets = kept;
  visitors = visitors;
  members = members;
  pressure = pressure;
  leftovers = leftovers;
  rebuilding = rebuilding;
}
