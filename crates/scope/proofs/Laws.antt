-- What follows from the definitions, for the code and for the promises alike.
pub mod Outputs
pub mod Reading
pub mod Refusals
pub mod Views
pub mod Edits
pub mod Alike
pub mod Without
pub mod Visitors
pub mod Angle
pub mod Pressure
