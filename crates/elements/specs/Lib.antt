-- Digits as the elements of a frame, and back: laws that the contracts and proofs use.
pub mod Stores
pub mod RunLoops
pub mod RunBits
pub mod Tens
pub mod Carries
