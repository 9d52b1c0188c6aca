pub mod Checks
pub mod Fields
pub mod Logs
pub mod Numbers
pub mod Records
pub mod Rows
pub mod Writing
