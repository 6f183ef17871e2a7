-- That a category and a field stand one behind the other.
pub mod Unlists
