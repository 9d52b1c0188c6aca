pub mod FrameEnds
pub mod Rows
pub mod Streams
pub mod Windows
