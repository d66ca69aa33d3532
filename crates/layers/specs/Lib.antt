pub mod Aliases
pub mod Filters
pub mod Lemmas
pub mod Pairs
pub mod Periods
