-- The theorem over both programs.
pub mod Recording
