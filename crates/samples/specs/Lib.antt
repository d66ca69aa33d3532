pub mod Days
pub mod Texts
