-- Proofs, and no rules: the laws of the kind and what leads to them. They stand here since the object names its proof of the laws.
pub mod Counted
pub mod Laws
pub mod Sights
pub mod Words
