-- The laws for the code that answers.
pub mod Laws
