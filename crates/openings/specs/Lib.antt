-- Accepted and Openings are what the contracts say, with their laws.
pub mod Accepted
pub mod Openings
