-- Proofs, and no rules: the laws of the kind and what leads to them. They stand here since the object names its proof of the laws.
pub mod Applies
pub mod Counts
pub mod Fit
pub mod Laws
pub mod Movements
