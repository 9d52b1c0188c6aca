-- Tables is what the contracts say, over the runs of Runs; Letters its laws.
pub mod Runs
pub mod Tables
pub mod Letters
