-- The lines of an input, and how they are joined from what each read brings.
pub mod Lines
pub mod Joining
pub mod Laws
