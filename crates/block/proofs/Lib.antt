pub mod BlockRows
pub mod Folds
