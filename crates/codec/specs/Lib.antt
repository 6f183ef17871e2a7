-- The theory of the format, for any layout. Definitions stand here, what follows from them in proofs/, under Laws. What a field
-- is, said of a paper as it is printed and of bits, and what is wrong with octets that are none: Printed, Meaning,
-- Faults. That these are what is read and refused: Laws.Meaning, Laws.Faults. How it is read and written, in this
-- order: numbers (Signed, Radix), codecs (Codec), then the levels of a field (Line, Item, Field, Frame, Change); Made
-- has their lines from a paper, and Mask the spare bits of each as one number.
pub mod Pick
pub mod Printed
pub mod Meaning
pub mod Faults
pub mod Signed
pub mod Radix
pub mod Codec
pub mod Line
pub mod Item
pub mod Field
pub mod Frame
pub mod Change
pub mod Made
pub mod Mask
