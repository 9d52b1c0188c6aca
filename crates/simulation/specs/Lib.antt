-- Simulation has the definitions, Lent the listeners as they are lent, Demands the theorems, Rows worked runs; the others are the proofs behind these.
pub mod Simulation
pub mod Lent
pub mod Damages
pub mod Counting
pub mod Demands
pub mod Rows
