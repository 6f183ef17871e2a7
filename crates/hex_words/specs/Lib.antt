-- The octets and the lists that words write.
pub mod Octets
pub mod Laws
