pub mod Adding
pub mod Inverse
pub mod Keys
pub mod Order
pub mod Rows
