-- Splitting and Meaning: a time and a control word as digits, and what digits mean.
pub mod Splitting
pub mod Meaning
