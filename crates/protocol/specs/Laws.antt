-- What follows from the definitions, for the proofs of the functions and for the handlers.
pub mod Line
pub mod Forms
pub mod Requests
pub mod Record
pub mod Found
