-- What holds of the whole: the code computes a program that is as demanded, every promise allows one result, two runs
-- of the visitors' copy tell nothing of what is withheld, two members' runs of the desk end alike in either order, and a
-- program in C has both round trips.
pub mod Code
pub mod Top
pub mod Unique
pub mod Copies
pub mod Saves
pub mod Trips
