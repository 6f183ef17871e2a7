-- What the proofs of the functions share.
mod Bits
