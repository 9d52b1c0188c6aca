-- Characters is what the contracts say; Putting its laws.
pub mod Characters
