-- PulseLines is what the contracts say; Runs its laws.
pub mod PulseLines
