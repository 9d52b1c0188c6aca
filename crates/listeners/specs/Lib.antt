-- Indexes: what is asked of the lent lists, index by index, and that it is what the definitions ask.
pub mod Indexes
