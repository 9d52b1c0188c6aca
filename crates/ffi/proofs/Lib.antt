pub mod Fields
pub mod Indexes
