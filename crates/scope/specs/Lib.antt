-- What each operation of 01 answers and promises, a file for each of its sections: reading, writing, views and the
-- choice, the desk, the angle, the sheet; where the items stand; and the octets of 01 computed. Of 02 the visitors' copy,
-- when two fields are alike, the pressure as a set, what an angle leaves, and which texts are sheets. What follows from
-- them stands in proofs/, under Laws.
pub mod Reading
pub mod Outputs
pub mod Writing
pub mod Views
pub mod Survey
pub mod Desk
pub mod Alike
pub mod Visitors
pub mod Angle
pub mod Pressure
pub mod Sheet
pub mod Rebuilding
pub mod Sheets
pub mod Edges
