pub mod Pushes
pub mod Rows
