pub mod Equal
pub mod Rows
