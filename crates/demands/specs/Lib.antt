-- What a reader has to believe, and that the program which scope defines is as demanded.
pub mod Terms
pub mod Demands
pub mod Visitors
pub mod Members
pub mod Pressure
pub mod Leftovers
pub mod Rebuilding
pub mod Defined
pub mod Angles
pub mod RoundTrips
pub mod Edited
pub mod Orders
pub mod Longest
