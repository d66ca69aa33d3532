pub mod Examples
pub mod List
