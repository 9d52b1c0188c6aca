-- Counted: what is counted of a frame's answers; FrameDamages: the damages that lie in a frame; Frames: what a listener makes of a frame; Runs: and of a whole run.
pub mod Counted
pub mod FrameDamages
pub mod Frames
pub mod Runs
