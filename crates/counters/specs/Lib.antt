pub mod Bank
pub mod Bounds
pub mod Counts
pub mod Kind
pub mod Lemmas
pub mod Movements
pub mod Spans
