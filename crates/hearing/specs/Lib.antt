-- Bytes is what the contracts say; Hearing its laws.
pub mod Bytes
pub mod Hearing
