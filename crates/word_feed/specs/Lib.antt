-- One Feed by cases: InPlace has the ways with which no frame is whole, FrameEnds the one with which a frame is.
pub mod FrameEnds
pub mod InPlace
