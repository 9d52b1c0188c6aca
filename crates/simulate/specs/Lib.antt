-- Hearing: the listeners before the first frame and after each; Results: what the call answers.
pub mod Hearing
pub mod Results
