pub mod Demand3
pub mod Demands
pub mod Rows
pub mod Laws
