-- Document 01: its sections as definitions, then the demands as theorems over them, then its worked rows. The proofs stand in Laws.
pub mod Answers
pub mod Formats
pub mod Layout
pub mod Frames
pub mod Stream
pub mod Calls
pub mod Editions
pub mod Demands
pub mod Demand3
pub mod Rows
pub mod Laws
