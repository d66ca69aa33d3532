pub mod Questions
pub mod Routes
