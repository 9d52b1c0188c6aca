-- Cycles is what the contracts say; Checks, Elements and Frames are laws of the checks, of one element and of whole frames; Demands and Damage what the users ask; Rows worked examples.
pub mod Cycles
pub mod Checks
pub mod Elements
pub mod Damage
pub mod Rows
