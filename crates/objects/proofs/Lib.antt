pub mod Same
pub mod Carry
pub mod Retractions
pub mod Provided
pub mod Placed
pub mod Judged
