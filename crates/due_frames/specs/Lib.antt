-- Due is what the contracts say; Moves its laws.
pub mod Due
pub mod Moves
