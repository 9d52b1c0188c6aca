-- What Write takes of a frame that was read in the other edition.
pub mod Converting
