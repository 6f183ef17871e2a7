-- What holds of every shape, and of runs of lines.
pub mod Shapes
pub mod Runs
