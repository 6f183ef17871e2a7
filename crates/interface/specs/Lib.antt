-- What crosses to a program in C: the word that answers, the array that a record is, and what each exported function answers and leaves.
pub mod Packed
pub mod Arrays
