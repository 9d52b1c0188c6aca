-- Counting is the loops over the months of a year.
pub mod Counting
