-- BlockWords is what the contracts say; BlockFields the struct against its answer's result.
pub mod BlockWords
