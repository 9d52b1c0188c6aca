pub mod Counting
pub mod Damages
pub mod Demands
pub mod Lent
pub mod Rows
pub mod Run
