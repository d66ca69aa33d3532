pub mod Kind
pub mod Lemmas
pub mod Members
pub mod Requests
pub mod Traces
pub mod Words
