-- The keys as the code keeps them, and the text that it types, level by level.
pub mod Keys
pub mod Marks
pub mod Lines
pub mod Items
pub mod Rows
pub mod Whole
pub mod Laws
