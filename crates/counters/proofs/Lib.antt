pub mod Wide
pub mod Spans
pub mod Withdrawals
pub mod Shifts
