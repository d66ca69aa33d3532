pub mod Answers
pub mod Codes
pub mod Kinds
pub mod Leads
pub mod Traces
