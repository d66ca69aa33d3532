pub mod Days
pub mod Kind
pub mod Latest
pub mod Lemmas
pub mod Requests
pub mod Traces
