pub mod Generators
pub mod Lines
