-- Lemmas for the proofs of the functions.
mod Tried
