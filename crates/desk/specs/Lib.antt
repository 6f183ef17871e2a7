-- What the code of the desk asks and puts together, and that it is the field written afresh.
pub mod Asking
pub mod Splicing
pub mod Edits
pub mod Laws
