pub mod Checks
pub mod Damage
pub mod Demands
pub mod Elements
pub mod Frames
pub mod Rows
