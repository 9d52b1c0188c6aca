-- LostElement has the definitions and the sentences; the others prove them of the plain machine.
pub mod LostElement
pub mod FrameEnds
pub mod Windows
pub mod Rows
