-- The three demands hold of the program that scope defines.
use Rattle.demands.specs.Demands.{Demands}
use Rattle.demands.specs.Defined.{program}
use Rattle.demands.proofs.Kept.Refusals.{demand1}
use Rattle.demands.proofs.Kept.Reads.{demand2}
use Rattle.demands.proofs.Kept.Edits.{demand3}
pub mod Fields
pub mod Refusals
pub mod Parts
pub mod Behind
pub mod Reads
pub mod Edits
pub mod Visitors
pub mod Members
pub mod Pressure
pub mod Lines
pub mod Leftovers
pub mod Rebuilding

pub kept : Demands program
kept = record { one = demand1; two = demand2; three = demand3 }
