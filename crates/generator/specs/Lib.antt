-- Sending is what the contracts say; Lines its laws; Generators the theorem that it is a generator.
pub mod Sending
pub mod Lines
pub mod Generators
