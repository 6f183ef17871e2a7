-- The guess as the code takes it: by the tables of lengths, shapes and spots, line by line.
pub mod Tables
pub mod Lines
pub mod Items
pub mod Laws
